-- What the dialogue gave is lent and counted.
use Rattle.std.proofs.Common.{ap, ◌∙◌}
use Rattle.slreader.specs.Dialogue.{ReaderValue, outcome_of, read_first}
use Rattle.slreader.specs.Dialogue.Outcome.{Gave}
use Rattle.slreader.specs.Reads.{tally_given}
use Rattle.slreader.proofs.CameLemmas.{reads_gave}
use Rattle.slreader.proofs.ReceiveLemmas.{given_tally}
use Rattle.slreader.proofs.reader.ReaderCore.incoming.Goals as goal

pub returns-clause-outcome : goal.returns-clause-outcome
returns-clause-outcome c =
    ap (Gave c.in_ok-step.step.used) c.what_of-what.ensures ∙ c.in_ok-step.ensures.outcome
    ∙ ap (λ (r : ReaderValue). outcome_of (read_first r c.args.piece.now)) c.self.view_is

pub returns-clause-reads : goal.returns-clause-reads
returns-clause-reads c =
    reads_gave c.args.self.now c.args.piece.now c.in_ok-step.step.used c.what_of-what.result
    (ap (Gave c.in_ok-step.step.used) c.what_of-what.ensures ∙ c.in_ok-step.ensures.outcome
    ∙ ap (λ (r : ReaderValue). outcome_of (read_first r c.args.piece.now)) c.self.view_is)

pub returns-clause-left : goal.returns-clause-left
returns-clause-left c =
    c.count.ensures
    ∙ ap (λ t. record c.read.new.self { tally = t })
    (ap (tally_given c.read.new.self.tally) c.what_of-what.ensures
    ∙ given_tally c.read.new.self.tally c.in_ok-step.step.event _)
    ∙ c.in_ok-step.ensures.read
    ∙ ap (λ (r : ReaderValue). (read_first r c.args.piece.now).reader) c.self.view_is
