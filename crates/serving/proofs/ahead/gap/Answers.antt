use Rattle.std.proofs.Common.{arith}
use Rattle.std.proofs.lemmas.Bool.Decides.{nat_tests}
use Rattle.serving.specs.Ahead.{ahead}
use Rattle.serving.proofs.ahead.gap.Goals as goal

pub returns-then-count-lt-LATER_STEP-clause-ahead : goal.returns-then-count-lt-LATER_STEP-clause-ahead
unfolding ahead
returns-then-count-lt-LATER_STEP-clause-ahead c = grind (arith, nat_tests)

pub returns-then-count-lt-LAST_STEP-clause-ahead : goal.returns-then-count-lt-LAST_STEP-clause-ahead
unfolding ahead
returns-then-count-lt-LAST_STEP-clause-ahead c = grind (arith, nat_tests)

pub returns-else-count-lt-LAST_STEP-clause-ahead : goal.returns-else-count-lt-LAST_STEP-clause-ahead
unfolding ahead
returns-else-count-lt-LAST_STEP-clause-ahead c = grind (arith, nat_tests)
