use Rattle.std.proofs.Common.{◌≡◌, drop, find, map}
use Rattle.config_explained.specs.KeyTable.{name_of}
use Rattle.config_explained.specs.Nearest.{is_near}
use Rattle.config_explained.proofs.nearest.first_near.Given as goal

abbrev pub invariant-loop-key : goal.invariant-loop-key
invariant-loop-key l =
    find (is_near l.changes l.text) (map name_of l.keys)
    ≡ find (is_near l.changes l.text) (map name_of (drop l.key-index l.keys))
