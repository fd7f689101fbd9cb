use Rattle.std.proofs.Common.{◌≡◌, ℕ, List, None, Option}
use Rattle.std.specs.BTreeMap.{is_at}
use Rattle.std.specs.Cmp.Lexicographic.{slice_cmp}
use Rattle.std.specs.Map.{lookup}
use Rattle.std.specs.Ordering.{nat_cmp}
use Rattle.std.specs.String.{string_bytes}
use Rattle.continued_files.specs.Known.{length_of, length_told}
use Rattle.continued_files.proofs.KnownLemmas.{first_some}
use Rattle.continued_files.proofs.continued.ContinuedFiles.known_lengths.Given as goal

-- Those that were pushed, and what is known of the rest, are what is known of all.
abbrev pub invariant-loop-name : goal.invariant-loop-name
invariant-loop-name g l = (name : List ℕ) →
    first_some (length_of l.lengths.items name)
    (length_told (lookup (is_at (λ k. slice_cmp nat_cmp name (string_bytes k))) l.name-iterator) None)
    ≡ length_told (lookup (is_at (λ k. slice_cmp nat_cmp name (string_bytes k))) l.self.all.entries) None
