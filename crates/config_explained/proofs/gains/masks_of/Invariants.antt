use Rattle.std.proofs.Common.{◌≡◌, drop}
use Rattle.config_explained.specs.Gains.{masks_of}
use Rattle.config_explained.proofs.gains.masks_of.Given as goal

abbrev pub invariant-loop-other : goal.invariant-loop-other
invariant-loop-other l =
    masks_of l.masks l.network l.others ≡ masks_of l.all l.network (drop l.other-index l.others)
