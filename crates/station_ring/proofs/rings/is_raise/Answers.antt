use Rattle.std.proofs.Common.{arith}
use Rattle.std.proofs.lemmas.Bool.Decides.{nat_tests}
use Rattle.station_ring.specs.Levels.{is_raise}
use Rattle.station_ring.proofs.rings.is_raise.Goals as goal

pub returns-then-count-lt-RAISE_LATER : goal.returns-then-count-lt-RAISE_LATER
unfolding is_raise
returns-then-count-lt-RAISE_LATER c = grind (arith, nat_tests)

pub returns-then-count-lt-RAISE_LAST : goal.returns-then-count-lt-RAISE_LAST
unfolding is_raise
returns-then-count-lt-RAISE_LAST c = grind (arith, nat_tests)

pub returns-else-count-lt-RAISE_LAST : goal.returns-else-count-lt-RAISE_LAST
unfolding is_raise
returns-else-count-lt-RAISE_LAST c = grind (arith, nat_tests)
