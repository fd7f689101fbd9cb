use Rattle.config_explained.proofs.gains.Lists.+put_gains.Given as goal

abbrev pub decreases-put_gains : goal.decreases-put_gains
decreases-put_gains l = l.bits
