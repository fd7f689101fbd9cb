-- Which of all pushes are held.
use Rattle.std.proofs.Common.{◌≡◌, ℕ, ◌+◌, ◌-◌, ◌≤◌, inl, inr, List, [], ◌∷◌, length, drop, None, suc, zero, arith}
use Rattle.std.proofs.Common.{refl, ◌∙◌, ap, length-drop, lt-ltb}
use Rattle.std.specs.Prelude.{slice_get, nat_lt, if◌then◌else◌, true, false}
use Rattle.std.proofs.lemmas.Bool.Decides.{leb_tells, nat_tests}
use Rattle.station_ring.specs.declared.held.Held.{Held}
use Rattle.station_ring.specs.Rings.{held_at, holding_of}

-- what stands behind the first n
pub slice_get-drop : (n i : ℕ) (items : List Held) → slice_get (drop n items) i ≡ slice_get items (n + i)
slice_get-drop zero i items = ap (slice_get items) (omega arith)
slice_get-drop (suc n) i [] = refl
slice_get-drop (suc n) i (x ∷ items) =
    let e : suc n + i ≡ suc (n + i) = omega arith in rw e (slice_get-drop n i items)

-- What is held at a place is the record that was pushed there, while fewer than the capacity came after it.
pub held_at-holding_of : (capacity first : ℕ) (items : List Held) (place : ℕ) → 1 ≤ capacity
    → held_at (holding_of capacity first items) place
    ≡ (if nat_lt (length items - (place + 1)) capacity then slice_get items place else None)
held_at-holding_of capacity first items place some =
    let first_held : length items - length (drop (length items - capacity) items) ≡ length items - capacity =
    rw length-drop (omega arith) in
    rw first_held (elim (leb_tells (length items - capacity) place) [
      | inl y ↦
          let there : nat_lt (length items - (place + 1)) capacity ≡ true = lt-ltb _ _ (omega arith) in
          rw (y.0, there) (slice_get-drop (length items - capacity) (place - (length items - capacity)) items
          ∙ ap (slice_get items) (omega arith))
      | inr n ↦
          let gone_since : nat_lt (length items - (place + 1)) capacity ≡ false = grind (arith, nat_tests) in
          rw (n.0, gone_since)
    ])
