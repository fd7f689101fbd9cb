-- An answer gave something.
use Rattle.std.proofs.Common.{sym, ◌∙◌}
use Rattle.slreader.proofs.ReceiveLemmas.{talked_reader}
use Rattle.slreader.proofs.dialogue.Dialogue.read.Goals as goal

pub returns-then-is_some-clause-read : goal.returns-then-is_some-clause-read
returns-then-is_some-clause-read c =
    talked_reader _ _ _ _ _ _ (sym c.is_some.ensures ∙ c.if-is_some.true) c.talk-talked.ensures.talked
