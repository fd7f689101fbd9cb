-- One byte more was read.
use Rattle.std.proofs.Common.{refl, sym, ◌∙◌, arith}
use Rattle.slreader.proofs.TalkLemmas.{talked_some, talked_none}
use Rattle.slreader.proofs.dialogue.Dialogue.talk.Goals as goal

pub returns-then-is_some-clause-talked : goal.returns-then-is_some-clause-talked
returns-then-is_some-clause-talked c =
    talked_some _ _ _ _ c.loop-index.index _ _ c.loop-index.invariant
    (omega arith) refl c.read_byte-event.ensures.read c.read_byte-event.ensures.given
    (sym c.is_some.ensures ∙ c.if-is_some.true)

pub loop-index-preserved : goal.loop-index-preserved
loop-index-preserved c =
    talked_none _ _ _ _ c.loop-index.index _ _ c.loop-index.invariant
    (omega arith) refl c.read_byte-event.ensures.read c.read_byte-event.ensures.given
    (sym c.is_some.ensures ∙ c.if-is_some.false)
