-- Counts of minutes that come forward.
use Rattle.std.proofs.Common.{◌≡◌, ◌⊎◌, inl, inr, ℕ, ◌+◌, ◌-◌, ◌<◌, ◌≤◌, ◌∙◌, List}
use Rattle.std.proofs.Common.{length, get_or, drop, sym, ap, arith}
use Rattle.std.proofs.Common.{length-append, length-drop}
use Rattle.std.specs.Prelude.{replicate}
use Rattle.std.proofs.lemmas.List.{ext_get_or, get_or-drop, get_or-append-add, get_or_append_left, get_or_past}
use Rattle.std.proofs.lemmas.List.{get_or-replicate, length-replicate}
use Rattle.std.proofs.lemmas.Bool.{cases_lt}
use Rattle.server_watch.specs.Minutes.{shifted}

long : (old : List ℕ) (by : ℕ) → by ≤ length old → length (shifted by old) ≡ length old
long old by le =
    length-append (drop by old) (replicate by 0)
    ∙ omega (arith, length-drop by old, length-replicate {A = ℕ} by 0, le)

at_left : (old : List ℕ) (by k : ℕ) → by ≤ length old → k < length old - by
    → get_or (shifted by old) k 0 ≡ get_or old (k + by) 0
at_left old by k le lt =
    let within : k < length (drop by old) = omega (arith, length-drop by old, lt) in
    let same : by + k ≡ k + by = omega arith in
    get_or_append_left (drop by old) (replicate by 0) 0 k within ∙ get_or-drop by old k 0
    ∙ ap (λ n. get_or old n 0) same

at_right : (old : List ℕ) (by k m : ℕ) → by ≤ length old → k ≡ length (drop by old) + m → m < by
    → get_or (shifted by old) k 0 ≡ get_or old (k + by) 0
at_right old by k m le is lt =
    let past : length old ≤ k + by = omega (arith, length-drop by old, is, le) in
    ap (λ n. get_or (shifted by old) n 0) is ∙ get_or-append-add (drop by old) (replicate by 0) m 0
    ∙ get_or-replicate {A = ℕ} by m 0 0 lt ∙ sym (get_or_past old (k + by) 0 past)

at_each : (old : List ℕ) (by k : ℕ) → by ≤ length old → k < length old
    → get_or (shifted by old) k 0 ≡ get_or old (k + by) 0
at_each old by k le lt =
    let sides : (k < length old - by) ⊎ (length old - by ≤ k) = cases_lt k (length old - by) in
    elim sides [
      | inl left ↦ at_left old by k le left
      | inr right ↦
          let m : ℕ = k - length (drop by old) in
          at_right old by k m le (omega (arith, length-drop by old, right)) (omega (arith, length-drop by old, right, lt, le))
    ]

pub shifted_is : (new old : List ℕ) (by : ℕ) → by ≤ length old → length new ≡ length old
    → ((k : ℕ) → k < length new → get_or new k 0 ≡ get_or old (k + by) 0) → new ≡ shifted by old
shifted_is new old by le same each =
    ext_get_or 0 new (shifted by old) (same ∙ sym (long old by le)) (λ k lt.
    let within : k < length old = omega (arith, same, lt) in each k lt ∙ sym (at_each old by k le within))
