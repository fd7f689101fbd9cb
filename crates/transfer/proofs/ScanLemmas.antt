-- A walk over the places of a ring.
use Rattle.std.proofs.Common.{◌≡◌, ℕ, ◌+◌, ◌-◌, ◌<◌, ◌≤◌, zero, suc, Bool, true, false, nat_le, List, [], ◌∷◌, length}
use Rattle.std.proofs.Common.{drop, All, Option, Some, None, option_map, slice_get, unwrap_or, refl, sym, ap, subst}
use Rattle.std.proofs.Common.{◌∙◌, arith}
use Rattle.std.specs.Prelude.{find, if◌then◌else◌}
use Rattle.std.proofs.lemmas.Bool.Decides.{nat_tests}
use Rattle.std.proofs.lemmas.List.{drop_all}
use Rattle.protocol.proofs.FoundLemmas.{both}
use Rattle.station_ring.proofs.PlaceLemmas.{oldest-first}
use Rattle.station_ring.specs.declared.held.Held.{Held}
use Rattle.station_ring.specs.Rings.{RingValue, IsRing, first_place, held_at, oldest_place}

-- the first item of what is left
drop-there : (xs : List Held) (k : ℕ) (x : Held) → slice_get xs k ≡ Some x → drop k xs ≡ x ∷ drop (k + 1) xs
drop-there [] k x e = absurd cc
drop-there (y ∷ xs) zero x e = ap (λ o. unwrap_or o x ∷ xs) e
drop-there (y ∷ xs) (suc k) x e =
    let more : suc k + 1 ≡ suc (k + 1) = omega arith in
    rw more (drop-there xs k x e)

get-there : (xs : List Held) (k : ℕ) → k < length xs → (x : Held) × (slice_get xs k ≡ Some x)
get-there [] k h = absurd (omega arith)
get-there (x ∷ xs) zero h = (x, refl)
get-there (x ∷ xs) (suc k) h = get-there xs k (omega arith)

-- What is held at a place stands in the list of what is held.
held-at : (r : RingValue) (place : ℕ) → first_place r ≤ place
    → held_at r place ≡ slice_get r.held (place - first_place r)
held-at r place low = let le : nat_le (first_place r) place ≡ true = grind (arith, nat_tests) in rw le

-- Each place from the oldest to the last push holds a record.
pub there-at : (r : RingValue) (place : ℕ) → first_place r ≤ place → place < r.pushes
    → (x : Held) × (held_at r place ≡ Some x)
there-at r place low high =
    let x = get-there r.held (place - first_place r) (omega arith) in
    (x.0, held-at r place low ∙ x.1)

-- What is found from one place on is the record there, or what is found behind it.
scan : (f : Held → Bool) (r : RingValue) (place : ℕ) (x : Held) → first_place r ≤ place → held_at r place ≡ Some x
    → find f (drop (place - first_place r) r.held)
    ≡ (if f x then Some x else find f (drop (place + 1 - first_place r) r.held))
scan f r place x low there =
    let next : place + 1 - first_place r ≡ place - first_place r + 1 = omega arith in
    ap (find f) (drop-there r.held (place - first_place r) x (sym (held-at r place low) ∙ there))
    ∙ ap (λ n. if f x then Some x else find f (drop n r.held)) (sym next)

-- So far nothing was found.
pub record Scans (f : Held → Bool) (r : RingValue) (place : ℕ) : Type 0 where
  pub low : first_place r ≤ place
  pub rest : find f r.held ≡ find f (drop (place - first_place r) r.held)

pub scans-first : (f : Held → Bool) (r : RingValue) (oldest : ℕ) → Some oldest ≡ oldest_place r → Scans f r oldest
scans-first f r oldest e =
    let is : oldest ≡ first_place r = oldest-first r oldest e in
    let none : oldest - first_place r ≡ 0 = omega arith in
    record { low = omega arith; rest = ap (λ n. find f (drop n r.held)) (sym none) }

pub scans-on : (f : Held → Bool) (r : RingValue) (place : ℕ) (x : Held) → held_at r place ≡ Some x → f x ≡ false
    → Scans f r place → Scans f r (place + 1)
scans-on f r place x there denies so_far =
    record {
      low = let l = so_far.low in omega arith;
      rest = so_far.rest ∙ scan f r place x so_far.low there
          ∙ ap (λ b. if b then Some x else find f (drop (place + 1 - first_place r) r.held)) denies;
    }

pub scans-found : (f : Held → Bool) (r : RingValue) (place : ℕ) (x : Held) → held_at r place ≡ Some x → f x ≡ true
    → Scans f r place → find f r.held ≡ Some x
scans-found f r place x there says so_far =
    so_far.rest ∙ scan f r place x so_far.low there
    ∙ ap (λ b. if b then Some x else find f (drop (place + 1 - first_place r) r.held)) says

pub scans-none : (f : Held → Bool) (r : RingValue) (place : ℕ) → IsRing r → r.pushes ≤ place → Scans f r place
    → find f r.held ≡ None
scans-none f r place holds past so_far =
    so_far.rest ∙ ap (find f) (drop_all (place - first_place r) r.held (let c = holds.count in omega arith))

-- A test of the record at a place, told by its position.
pub told-found : (f : Held → Bool) (r : RingValue) (place : ℕ) (result : Option ℕ) (position : ℕ) → place < r.pushes
    → result ≡ Some position → ((x : Held) → held_at r place ≡ Some x → result ≡ (if f x then Some x.stamp else None))
    → Scans f r place → Some position ≡ option_map (λ x. x.stamp) (find f r.held)
told-found f r place result position high is told so_far =
    let x = there-at r place so_far.low high in
    both (f x.0)
    (λ y. let stamp : Some position ≡ Some (x.0).stamp = sym is ∙ told x.0 x.1
    ∙ ap (λ b. if b then Some (x.0).stamp else None) y in
    stamp ∙ sym (ap (option_map (λ x. x.stamp)) (scans-found f r place x.0 x.1 y so_far)))
    (λ n. absurd (let none : Some position ≡ None = sym is ∙ told x.0 x.1
    ∙ ap (λ b. if b then Some (x.0).stamp else None) n in cc))

pub told-none : (f : Held → Bool) (r : RingValue) (place : ℕ) (result : Option ℕ) → place < r.pushes → result ≡ None
    → ((x : Held) → held_at r place ≡ Some x → result ≡ (if f x then Some x.stamp else None)) → Scans f r place
    → Scans f r (place + 1)
told-none f r place result high is told so_far =
    let x = there-at r place so_far.low high in
    both (f x.0)
    (λ y. absurd (let some : None ≡ Some (x.0).stamp = sym is ∙ told x.0 x.1
    ∙ ap (λ b. if b then Some (x.0).stamp else None) y in cc))
    (λ n. scans-on f r place x.0 x.1 n so_far)

-- What is held came before what bounds all stamps.
pub held-below : (r : RingValue) (place : ℕ) (x : Held) (bound_ : ℕ) → held_at r place ≡ Some x
    → All (λ h. h.stamp < bound_) r.held → x.stamp < bound_
held-below r place x bound_ there all =
    both (nat_le (first_place r) place)
    (λ y. get-all r.held (place - first_place r) (rw y at there) all)
    (λ n. absurd (let none : None ≡ Some x = rw n at there in cc))
  where
    get-all : (xs : List Held) (k : ℕ) → slice_get xs k ≡ Some x → All (λ h. h.stamp < bound_) xs → x.stamp < bound_
    get-all [] k e all_ = absurd cc
    get-all (y ∷ xs) zero e all_ = let here : y.stamp < bound_ =
        all_ 0 y (omega arith) in subst (λ o. (unwrap_or o x).stamp < bound_) e here
    get-all (y ∷ xs) (suc k) e all_ = get-all xs k e (λ j d low. all_ (suc j) d (omega arith))
