-- The lines of the file and those of its streams are the listing; a beginning of the lines of the file, or these and a
-- beginning of those of its streams, begin it.
use Rattle.record_check.proofs.CheckLemmas.{always, begun_file_alone, ended_file, whole_file}
use Rattle.record_check.specs.Listing.{rules}
use Rattle.record_check.proofs.check.check_records.Goals as goal

pub returns-in_err-finding-clause-begun : goal.returns-in_err-finding-clause-begun
returns-in_err-finding-clause-begun g c =
    always _ _ (begun_file_alone (rules c.args.options (g.S.Stations.has_station c.args.stations.now)) _ _ _ _
    c.in_ok-check.ensures c.in_err-finding.ensures.begun)

pub returns-in_err-list_streams-clause-begun : goal.returns-in_err-list_streams-clause-begun
returns-in_err-list_streams-clause-begun g c =
    always _ _ (ended_file (rules c.args.options (g.S.Stations.has_station c.args.stations.now)) _ _ _ _ _ _ _
    c.in_ok-check.ensures c.in_ok-finding.ensures.written c.in_ok-finding.ensures.listed
    c.in_err-list_streams.ensures.order c.in_err-list_streams.ensures.begun)
