-- One pattern more is cut off.
use Rattle.std.proofs.Common.{sym, ◌∙◌, arith}
use Rattle.slreader.proofs.WordPartLemmas.{one_cut_off}
use Rattle.slreader.proofs.part.has_patterns.Goals as goal

pub commas-preserved : goal.commas-preserved
commas-preserved c =
    one_cut_off _ _ _ _ _ _ c.commas.invariant c.in-Some.ensures.pieces
    (sym c.is_pattern.ensures ∙ c.if-not-is_pattern.false) (omega arith)
