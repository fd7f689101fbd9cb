use Rattle.std.proofs.Common.{◌≡◌, drop, find}
use Rattle.std.specs.Str.{bytes_eq}
use Rattle.config_explained.specs.KeyTable.{name_of}
use Rattle.config_explained.proofs.owner.key_named.Given as goal

abbrev pub invariant-loop-key : goal.invariant-loop-key
invariant-loop-key l =
    find (λ k. bytes_eq l.name (name_of k)) l.keys ≡ find (λ k. bytes_eq l.name (name_of k)) (drop l.key-index l.keys)
