use Rattle.std.proofs.Common.{length}
use Rattle.config_explained.proofs.remark.+has_padding.Given as goal

abbrev pub decreases-has_padding : goal.decreases-has_padding
decreases-has_padding l = length l.text.now
