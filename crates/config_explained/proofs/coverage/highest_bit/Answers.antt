use Rattle.config_explained.proofs.CoverageLemmas.{top}
use Rattle.config_explained.proofs.coverage.highest_bit.Goals as goal

pub returns : goal.returns
returns c = top c.args.free c.requires c.ranges.free.fits
