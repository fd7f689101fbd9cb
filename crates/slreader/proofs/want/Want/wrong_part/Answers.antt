-- The first wrong part is that of the definition.
use Rattle.std.proofs.Common.{rules}
use Rattle.slreader.proofs.WordPartLemmas.{wrong_part_is}
use Rattle.slreader.proofs.want.Want.wrong_part.Goals as goal

pub returns-then-not-is_code-clause-none : goal.returns-then-not-is_code-clause-none
returns-then-not-is_code-clause-none c = wrong_part_is _ _ c.args.word.now (search rules)

pub returns-then-not-has_code-clause-none : goal.returns-then-not-has_code-clause-none
returns-then-not-has_code-clause-none c = wrong_part_is _ _ c.args.word.now (search rules)

pub returns-then-not-may_have_patterns-clause-none : goal.returns-then-not-may_have_patterns-clause-none
returns-then-not-may_have_patterns-clause-none c = wrong_part_is _ _ c.args.word.now (search rules)

pub returns-then-not-has_action-clause-none : goal.returns-then-not-has_action-clause-none
returns-then-not-has_action-clause-none c = wrong_part_is _ _ c.args.word.now (search rules)

pub returns-else-not-has_action-clause-none : goal.returns-else-not-has_action-clause-none
returns-else-not-has_action-clause-none c = wrong_part_is _ _ c.args.word.now (search rules)
