-- What is found is the first that is wrong, and after a fault the lines of the file were begun.
use Rattle.record_check.proofs.FindingLemmas.{answers_first}
use Rattle.std.proofs.Common.{ap, ◌∙◌, subst, IfSome}
use Rattle.std.specs.Prelude.{OnErr}
use Rattle.sl_io.specs.Known.{AppendsBeginning}
use Rattle.record_check.specs.Checks.{listed_of}
use Rattle.record_check.specs.Listing.{file_text, rules}
use Rattle.record_check.proofs.check.RecordCheck.list_file.Goals as goal

pub returns-clause-first : goal.returns-clause-first
returns-clause-first g c =
    answers_first (rules c.args.options (g.S.Stations.has_station c.args.stations.now)) _ _
    c.check_blocks.ensures.finding

pub returns-clause-begun : goal.returns-clause-begun
returns-clause-begun g c =
    subst (λ l. OnErr c.check_blocks.result (IfSome (g.R.Source.left c.args.reader.now)
    (λ bytes. AppendsBeginning (g.W.Sink.written c.args.writer.now) (g.W.Sink.written c.check_blocks.new.writer)
    (file_text (rules c.args.options (g.S.Stations.has_station c.args.stations.now)) l bytes))))
    (ap listed_of c.begin_file.ensures ∙ c.self.view_is) c.check_blocks.ensures.begun
