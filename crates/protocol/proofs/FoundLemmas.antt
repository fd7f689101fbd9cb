-- What is found in a history, and in the history without what is hidden.
use Rattle.std.proofs.Common.{◌≡◌, ℕ, ◌+◌, ◌%◌, ◌^◌, true≢false, Bool, true, false, cond, List, [], ◌∷◌, ◌++◌, length}
use Rattle.std.proofs.Common.{take, filter, nat_lt, Some, option_map, ℤ, ◌&&◌, refl, sym, ap, ◌∙◌, append_assoc}
use Rattle.std.proofs.Common.{add-zero, arith, length-append, subst}
use Rattle.std.proofs.lemmas.List.Sums.{length-filter}
use Rattle.protocol.specs.Catalog.{Station}
use Rattle.protocol.specs.History.{Arrival, is_of, count_of, number_at, is_held, first_position, holds_after}
use Rattle.protocol.proofs.Places.{place, place-seam, take-place}

pub both : {P : Type 0} (b : Bool) → (b ≡ true → P) → (b ≡ false → P) → P
both true f g = f refl
both false f g = g refl

-- a position that a test says yes at, with what stands before and after it
pub record Found (test : ℕ → List Arrival → Arrival → Bool) (h : List Arrival) (p : ℕ) : Type 0 where
  pub before : List Arrival
  pub arrival : Arrival
  pub later : List Arrival
  pub whole : before ++ arrival ∷ later ≡ h
  pub at : length before ≡ p
  pub says : test p later arrival ≡ true

pub first_position_found : (test : ℕ → List Arrival → Arrival → Bool) (h pre l : List Arrival) (p : ℕ) → pre ++ l ≡ h
    → first_position test (length pre) l ≡ Some p → Found test h p
first_position_found test h pre [] p whole found = absurd (grind arith)
first_position_found test h pre (a ∷ l) p whole found =
    elim (test (length pre) l a) as (λ b. test (length pre) l a ≡ b → Found test h p) [
      | true ↦ λ e. record { before = pre; arrival = a; later = l; whole = whole; at = grind arith; says = grind arith }
      | false ↦ λ e. first_position_found test h (pre ++ a ∷ []) l p (append_assoc pre (a ∷ []) l ∙ whole)
          (grind (arith, length-append pre (a ∷ [])))
    ] refl

-- The second test says of what is seen what the first test says, and the first test says yes to nothing else.
pub record Agree (t : Arrival → Bool) (h : List Arrival) (test test' : ℕ → List Arrival → Arrival → Bool) : Type 0 where
  pub only : (pre : List Arrival) (a : Arrival) (later : List Arrival) → pre ++ a ∷ later ≡ h
      → test (length pre) later a ≡ true → t a ≡ true
  pub same : (pre : List Arrival) (a : Arrival) (later : List Arrival) → pre ++ a ∷ later ≡ h → t a ≡ true
      → test' (length (filter t pre)) (filter t later) a ≡ test (length pre) later a

pub filter_length_push : {A : Type 0} (t : A → Bool) (pre : List A) (a : A)
    → length (filter t (pre ++ a ∷ [])) ≡ length (filter t pre) + cond (t a) 1 0
filter_length_push t [] a = grind arith
filter_length_push t (b ∷ pre) a = grind (arith, filter_length_push t pre a)

pub first_position-filter : (t : Arrival → Bool) (h : List Arrival) (test test' : ℕ → List Arrival → Arrival → Bool)
    → Agree t h test test' → (pre l : List Arrival) → pre ++ l ≡ h
    → first_position test' (length (filter t pre)) (filter t l)
    ≡ option_map (place t h) (first_position test (length pre) l)
first_position-filter t h test test' agree pre [] whole = refl
first_position-filter t h test test' agree pre (a ∷ l) whole =
    let more = rw (filter_length_push t pre a, length-append pre (a ∷ [])) at
    (first_position-filter t h test test' agree (pre ++ a ∷ []) l (append_assoc pre (a ∷ []) l ∙ whole)) in
    let here : place t h (length pre)
    ≡ length (filter t pre) = subst (λ x. place t x (length pre) ≡ length (filter t pre)) whole
    (place-seam t pre (a ∷ l)) in
    both (t a)
    (λ e. rw (e, agree.same pre a l whole e)
    (both (test (length pre) l a) (λ y. rw (y, here)) (λ n. rw n (rw e at more))))
    (λ e. both (test (length pre) l a) (λ y. absurd (true≢false (sym (agree.only pre a l whole y) ∙ e)))
    (λ n. rw (e, n) (rw (e, add-zero) at more)))

-- The arrivals of a station are all seen.
abbrev pub IsShown : (Arrival → Bool) → Station → Type 0
IsShown t s = (a : Arrival) → is_of s a ≡ true → t a ≡ true

pub filter-filter : {A : Type 0} (t q : A → Bool) → ((a : A) → q a ≡ true → t a ≡ true) → (h : List A)
    → filter q (filter t h) ≡ filter q h
filter-filter t q shown [] = refl
filter-filter t q shown (a ∷ h) = grind (arith, filter-filter t q shown h, shown a)

pub count_of-filter : (t : Arrival → Bool) (s : Station) → IsShown t s → (h : List Arrival)
    → count_of s (filter t h) ≡ count_of s h
count_of-filter t s shown h = sym (length-filter (is_of s) (filter t h)) ∙ ap length (filter-filter t (is_of s) shown h)
    ∙ length-filter (is_of s) h

pub number_at-filter : (t : Arrival → Bool) (s : Station) → IsShown t s → (h : List Arrival) (p : ℕ)
    → number_at s (filter t h) (place t h p) ≡ number_at s h p
number_at-filter t s shown h p =
    ap (λ n. (s.first + n) % 2 ^ 24) (ap (count_of s) (take-place t h p) ∙ count_of-filter t s shown (take p h))

pub is_held-filter : (t : Arrival → Bool) (s : Station) → IsShown t s → (later : List Arrival) (a : Arrival)
    → is_held s (filter t later) a ≡ is_held s later a
is_held-filter t s shown later a = ap (λ n. is_of s a && nat_lt n s.capacity) (count_of-filter t s shown later)

pub both_sides : (a b : Bool) → (a && b) ≡ true → (a ≡ true) × (b ≡ true)
both_sides true b e = (refl, e)
both_sides false b e = absurd (true≢false (sym e))

pub is_held_of : (s : Station) (later : List Arrival) (a : Arrival) → is_held s later a ≡ true → is_of s a ≡ true
is_held_of s later a held = (both_sides _ _ held).0

pub holds_after-filter : (t : Arrival → Bool) (s : Station) → IsShown t s → (h : List Arrival) (last : ℤ)
    → holds_after s last (filter t h) ≡ holds_after s last h
holds_after-filter t s shown [] last = refl
holds_after-filter t s shown (a ∷ h) last =
    both (t a)
    (λ e. rw (e, count_of-filter t s shown h, holds_after-filter t s shown h last))
    (λ e. both (is_of s a) (λ y. absurd (true≢false (sym (shown a y) ∙ e)))
    (λ n. rw (e, n) (holds_after-filter t s shown h last)))
