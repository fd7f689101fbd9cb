use Rattle.config_explained.proofs.remark.+has_leading_ones.Given as goal

abbrev pub decreases-has_leading_ones : goal.decreases-has_leading_ones
decreases-has_leading_ones l = l.count
