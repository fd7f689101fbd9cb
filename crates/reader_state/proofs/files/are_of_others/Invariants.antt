use Rattle.std.proofs.Common.{◌≡◌, ◌≤◌, drop, length, true, ℕ, List}
use Rattle.std.specs.HashSet.{contains_by}
use Rattle.std.specs.Str.{bytes_eq}
use Rattle.reader_state.specs.States.{are_of_others}
use Rattle.reader_state.proofs.OtherLemmas.{are_named}
use Rattle.reader_state.proofs.files.are_of_others.Given as goal

-- Those behind the place are of files that differ, and their names are these.
abbrev pub invariant-loop-at : goal.invariant-loop-at
invariant-loop-at l = record {
  within : l.at ≤ length l.files;
  names : (name : List ℕ) → contains_by (λ k. bytes_eq name k.now) l.names ≡ are_named (drop l.at l.files) name;
  others : are_of_others (drop l.at l.files) ≡ true;
}

abbrev pub decreases-loop-at : goal.decreases-loop-at
decreases-loop-at l = l.at
