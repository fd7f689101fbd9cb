-- A walk over the held places of a ring.
use Rattle.std.proofs.Common.{◌≡◌, ℕ, ◌+◌, ◌-◌, ◌<◌, ◌≤◌, Bool, true, false, length, take, get_or, nat_le, Some, None}
use Rattle.std.proofs.Common.{inl, inr, sym, ap, ◌∙◌, arith}
use Rattle.std.specs.Prelude.{◌==◌}
use Rattle.std.specs.List.{list_any}
use Rattle.std.proofs.lemmas.List.{take_all}
use Rattle.std.proofs.lemmas.List.Folds.{list_any_more, list_any_at}
use Rattle.std.proofs.lemmas.Option.{slice_get_cases}
use Rattle.std.proofs.lemmas.Bool.Decides.{nat_tests}
use Rattle.protocol.proofs.FoundLemmas.{both}
use Rattle.station_ring.specs.declared.held.Held.{Held}
use Rattle.station_ring.specs.Rings.{RingValue, IsRing, first_place, held_at, oldest_place}

-- The oldest place is the first.
pub oldest-first : (r : RingValue) (place : ℕ) → Some place ≡ oldest_place r → place ≡ first_place r
oldest-first r place e =
    both (length r.held == 0)
    (λ y. let none : Some place ≡ None = rw y at e in absurd cc)
    (λ n. let same : Some place ≡ Some (first_place r) = rw n at e in cc)

-- a place that is held, with what is held there
pub record IsHeld (r : RingValue) (place : ℕ) : Type 0 where
  pub item : Held
  pub at : held_at r place ≡ Some item
  pub within : place - first_place r < length r.held
  pub index : get_or r.held (place - first_place r) item ≡ item

-- Each place from the first one on, of those that were pushed, is held.
pub is_held : (r : RingValue) (place : ℕ) → IsRing r → first_place r ≤ place → place < r.pushes → IsHeld r place
is_held r place holds low high =
    let together : length r.held ≤ r.pushes = let count = holds.count in omega arith in
    let test : nat_le (first_place r) place ≡ true = grind (arith, nat_tests) in
    elim (slice_get_cases r.held (place - first_place r)).1 [
      | inl found ↦ record { item = found.0; at = rw test found.2; within = found.1; index = found.3 }
      | inr past ↦ absurd (let over : length r.held ≤ place - first_place r = past.0 in omega arith)
    ]

-- One place more.
pub any-more : (r : RingValue) (place : ℕ) (test : Held → Bool) → IsRing r → first_place r ≤ place → place < r.pushes
    → ((x : Held) → held_at r place ≡ Some x → false ≡ test x)
    → list_any test (take (place - first_place r) r.held) ≡ false
    → list_any test (take (place + 1 - first_place r) r.held) ≡ false
any-more r place test holds low high answer before =
    let there : IsHeld r place = is_held r place holds low high in
    let next : place + 1 - first_place r ≡ place - first_place r + 1 = omega arith in
    rw (
      next,
      list_any_more test r.held (place - first_place r) there.item there.within,
      before,
      there.index,
    ) (sym (answer there.item there.at))

-- A place at which the answer is yes.
pub any-here : (r : RingValue) (place : ℕ) (test : Held → Bool) → IsRing r → first_place r ≤ place → place < r.pushes
    → ((x : Held) → held_at r place ≡ Some x → true ≡ test x)
    → true ≡ list_any test r.held
any-here r place test holds low high answer =
    let there : IsHeld r place = is_held r place holds low high in
    sym
    (list_any_at test r.held (place - first_place r) there.item there.within
    (rw there.index (sym (answer there.item there.at))))

-- No place is left.
pub any-none : (r : RingValue) (place : ℕ) (test : Held → Bool) → IsRing r → r.pushes ≤ place
    → list_any test (take (place - first_place r) r.held) ≡ false → false ≡ list_any test r.held
any-none r place test holds over before =
    let together : length r.held ≤ r.pushes = let count = holds.count in omega arith in
    let all : take (place - first_place r) r.held ≡ r.held = take_all (place - first_place r) r.held (omega arith) in
    sym (ap (list_any test) (sym all) ∙ before)
