-- A record that is not valid has no place.
use Rattle.std.proofs.Common.{◌∙◌, inr, sym}
use Rattle.record_archive.proofs.PutLemmas.{held-same, invalid-record, valid-record}
use Rattle.record_archive.proofs.placing.put_record.Goals as goal

pub put_read-requires : goal.put_read-requires
put_read-requires g c = valid-record c.args.bytes.now _ (sym c.requires ∙ c.in-Some.is)

pub returns-in-None-clause-put : goal.returns-in-None-clause-put
returns-in-None-clause-put g c =
    held-same c.args.streams.now.stations.items (g.F.Folders.puts c.args.folders.now) c.args.bytes.now
    (invalid-record c.args.streams.now.stations.items c.args.bytes.now (sym c.requires ∙ c.in-None.is))

pub returns-in-None-clause-unplaced : goal.returns-in-None-clause-unplaced
returns-in-None-clause-unplaced g c = λ e.
    invalid-record c.args.streams.now.stations.items c.args.bytes.now (sym c.requires ∙ c.in-None.is)

pub returns-in-None-clause-stands : goal.returns-in-None-clause-stands
returns-in-None-clause-stands g c =
    inr (invalid-record c.args.streams.now.stations.items c.args.bytes.now (sym c.requires ∙ c.in-None.is))
