use Rattle.config_explained.proofs.network_text.+leading_count.Given as goal

abbrev pub decreases-leading_count : goal.decreases-leading_count
decreases-leading_count l = l.count
