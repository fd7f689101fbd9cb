-- What the stage says is what is read.
use Rattle.std.proofs.Common.{◌≡◌, refl, sym, ap, ◌∙◌}
use Rattle.slreader.specs.Dialogue.{ReaderValue}
use Rattle.slreader.specs.ReaderViews.{stage_value, transfer_stage}
use Rattle.slreader.proofs.ReceiveLemmas.{received_outcome, received_reader, refused_outcome, counted_reader}
use Rattle.slreader.proofs.ReceiveLemmas.{failed_outcome, failed_reader}
use Rattle.slreader.proofs.dialogue.Dialogue.receive.Goals as goal

pub returns-in-Ok-clause-outcome : goal.returns-in-Ok-clause-outcome
returns-in-Ok-clause-outcome c =
    let at : c.args.self.now.stage
    ≡ transfer_stage c.self.inside.cutter = ap (λ (r : ReaderValue). r.stage) (sym c.self.view_is)
    ∙ ap (λ s. stage_value s c.self.inside.cutter) c.in-Transfer.is in
    received_outcome _ _ _ _ _ c.in-Ok.step _ _ at c.read_packet.ensures.first c.in-Ok.is c.in-Ok.ensures.sound

pub returns-in-Ok-clause-read : goal.returns-in-Ok-clause-read
returns-in-Ok-clause-read c =
    let at : c.args.self.now.stage
    ≡ transfer_stage c.self.inside.cutter = ap (λ (r : ReaderValue). r.stage) (sym c.self.view_is)
    ∙ ap (λ s. stage_value s c.self.inside.cutter) c.in-Transfer.is in
    received_reader _ _ _ _ _ c.in-Ok.step _ _ at c.read_packet.ensures.first c.in-Ok.is
    (counted_reader _ _ c.self.inside.stage c.self.inside.cutter _ c.self.inside.agenda c.self.inside.kept
    c.self.inside.outbox c.self.inside.tally c.in-Ok.step.event _ c.self.view_is c.in-Transfer.is refl)

pub returns-in-Err-clause-outcome : goal.returns-in-Err-clause-outcome
returns-in-Err-clause-outcome c =
    let at : c.args.self.now.stage
    ≡ transfer_stage c.self.inside.cutter = ap (λ (r : ReaderValue). r.stage) (sym c.self.view_is)
    ∙ ap (λ s. stage_value s c.self.inside.cutter) c.in-Transfer.is in
    refused_outcome _ _ _ _ _ c.in-Err.field-0 _ _ at c.read_packet.ensures.first c.in-Err.is

pub returns-in-Failed-clause-outcome : goal.returns-in-Failed-clause-outcome
returns-in-Failed-clause-outcome c =
    failed_outcome _ _ _ _ (ap (λ (r : ReaderValue). r.stage) (sym c.self.view_is)
    ∙ ap (λ s. stage_value s c.self.inside.cutter) c.in-Failed.is)

pub returns-in-Failed-clause-read : goal.returns-in-Failed-clause-read
returns-in-Failed-clause-read c =
    failed_reader _ _ _ (ap (λ (r : ReaderValue). r.stage) (sym c.self.view_is)
    ∙ ap (λ s. stage_value s c.self.inside.cutter) c.in-Failed.is)
