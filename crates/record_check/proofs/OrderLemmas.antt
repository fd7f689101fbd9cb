-- Streams whose runs are put in order, one by one.
use Rattle.std.proofs.Common.{◌≡◌, List, refl, subst}
use Rattle.std.specs.Prelude.{IsPermutation, IsSortedByKey}
use Rattle.std.specs.Ordering.{int_cmp}
use Rattle.record_check.specs.Streams.{RunValue, StreamValue, IsInOrder}

-- a stream with its runs sorted
pub sorted-stream : (before inside : StreamValue) (runs : List RunValue) → inside ≡ before
    → IsPermutation inside.runs runs → IsSortedByKey (λ (r : RunValue). r.start) int_cmp runs
    → IsInOrder before (record inside { runs = runs })
sorted-stream before inside runs is moved sorted =
    subst (λ s. IsInOrder s (record inside { runs = runs })) is
    (record { same = refl; moved = moved; sorted = sorted })
