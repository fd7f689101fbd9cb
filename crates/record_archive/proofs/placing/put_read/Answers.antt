use Rattle.std.proofs.Common.{Ok, ap, inl, inr, refl, subst, sym}
use Rattle.record_archive.specs.Archives.{IsPut, IsUnplaced, Put}
use Rattle.record_archive.specs.Places.{HasPlace, PlaceValue}
use Rattle.record_archive.proofs.PutLemmas.{held-put, held-same}
use Rattle.record_archive.proofs.placing.put_read.Given as given
use Rattle.record_archive.proofs.placing.put_read.Goals as goal

unplaced : (g : given.Over) (c : goal.In-Ok-None g) → IsUnplaced c.args.streams.now.stations.items c.args.bytes.now
unplaced g c = c.in-Ok-None.ensures.none (ap Ok c.in-Ok-None.field-0-is)

pub returns-in-Ok-None-clause-put : goal.returns-in-Ok-None-clause-put
returns-in-Ok-None-clause-put g c =
    held-same c.args.streams.now.stations.items (g.F.Folders.puts c.args.folders.now) c.args.bytes.now (unplaced g c)

pub returns-in-Ok-None-clause-unplaced : goal.returns-in-Ok-None-clause-unplaced
returns-in-Ok-None-clause-unplaced g c = λ e. unplaced g c

-- what is put of the record
abbrev put_of : (g : given.Over) (c : goal.In-Ok g) → Put
put_of g c =
    record { folder = c.place.result.now.folder; file = c.place.result.now.file; bytes = c.args.bytes.now }

-- where it is put
has_place : (g : given.Over) (c : goal.In-Ok g)
    → HasPlace c.at.result.now.year c.at.result.now.day c.args.streams.now.stations.items c.args.header.now
    c.place.result.now
has_place g c =
    let stream = c.at.result.now in
    let places = rw c.in-Ok-Some.field-0-is at c.in-Ok-Some.ensures.place in
    subst (λ (p : PlaceValue). HasPlace stream.year stream.day c.args.streams.now.stations.items c.args.header.now p)
    (sym c.place.ensures) (places stream c.at.ensures)

is_put : (g : given.Over) (c : goal.In-Ok g) → IsPut c.args.streams.now.stations.items c.args.bytes.now (put_of g c)
is_put g c =
    let has = has_place g c in
    let stream = c.at.result.now in
    record {
      facts = c.args.header.now;
      year = stream.year;
      day = stream.day;
      read = c.requires;
      placed = has.placed;
      wanted = has.wanted;
      inside = has.inside;
      folder = has.folder;
      file = has.file;
      bytes = refl;
    }

pub returns-in-Ok-clause-put : goal.returns-in-Ok-clause-put
returns-in-Ok-clause-put g c =
    held-put c.args.streams.now.stations.items (g.F.Folders.puts c.args.folders.now) (g.F.Folders.puts c.put.new.self)
    c.args.bytes.now (put_of g c) (is_put g c) c.in-Ok.ensures.put

pub returns-in-Ok-clause-placed : goal.returns-in-Ok-clause-placed
returns-in-Ok-clause-placed g c = λ e. (put_of g c, is_put g c)

pub returns-in-Ok-clause-stands : goal.returns-in-Ok-clause-stands
returns-in-Ok-clause-stands g c = inl (put_of g c, is_put g c, c.in-Ok.ensures.stands)

pub returns-in-Ok-None-clause-stands : goal.returns-in-Ok-None-clause-stands
returns-in-Ok-None-clause-stands g c = inr (unplaced g c)
