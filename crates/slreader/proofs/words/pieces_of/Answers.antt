-- One text more is cut off, or the last one is left.
use Rattle.slreader.proofs.TextLemmas.{cut_off, cut_last}
use Rattle.slreader.proofs.words.pieces_of.Goals as goal

pub commas-preserved : goal.commas-preserved
commas-preserved c = cut_off _ _ _ _ _ _ c.in_ok-push.ensures.items c.commas.invariant c.in-Some.ensures.pieces

pub returns : goal.returns
returns c = cut_last _ _ _ _ _ c.in_ok-push-2.ensures.items c.commas.invariant c.in_default.ensures.pieces
