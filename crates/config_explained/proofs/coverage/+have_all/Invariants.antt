use Rattle.std.proofs.Common.{◌-◌}
use Rattle.config_explained.proofs.coverage.+have_all.Given as goal

abbrev pub decreases-have_all : goal.decreases-have_all
decreases-have_all l = 0x100000000 - l.other.mask
