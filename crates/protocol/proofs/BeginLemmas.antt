-- Where a request begins, and what comes next, by the words.
use Rattle.std.proofs.Common.{cond, ◌-◌, ne_eqb, take_all, le_refl, zero-le, get_or, ◌≡◌, ◌≢◌, ℕ, zero, suc, ◌+◌, ◌%◌}
use Rattle.std.proofs.Common.{◌^◌, ◌<◌, ◌≤◌, Bool, true, ◌&&◌, ◌==◌, List, [], ◌∷◌, ◌++◌, length, take, drop, Option}
use Rattle.std.proofs.Common.{Some, None, unwrap_or, refl, sym, ap, ap₂, ◌∙◌, arith, subst, inl, inr, ⊎_elim}
use Rattle.std.proofs.Common.{take-append-drop, length-append, eqb-true, eq-eqb, ltb-true, lt-ltb}
use Rattle.std.proofs.lemmas.List.{drop_all}
use Rattle.std.specs.Prelude.{Any, ◌↔◌, if◌then◌else◌}
use Rattle.std.specs.List.{list_any}
use Rattle.std.specs.Bool.{Decides}
use Rattle.std.proofs.Math.Seq.{length-take-le, take-append_seam, take-append-add}
use Rattle.std.proofs.lemmas.List.Sums.{sum_by-append}
use Rattle.std.proofs.lemmas.Bool.{cases_order, eqb-false}
use Rattle.std.proofs.lemmas.Bool.Decides.{Decides-and, Decides-eqb, leb_tells}
use Rattle.protocol.specs.Catalog.{Station}
use Rattle.protocol.specs.History.{Arrival, Action, Request, is_of, count_of, number_at, is_held, first_position}
use Rattle.protocol.specs.History.{oldest_held, held_with_number, from_number, first_wanted, wants, holds_and_wants}
use Rattle.protocol.specs.History.{next}
use Rattle.protocol.specs.History.Action.{Data, Fetch, Time}
use Rattle.protocol.specs.Reading.{Not}
use Rattle.protocol.specs.Choosing.{HoldsAt, IsKept, HasHeld, IsOldest, HasNumber, IsFromNumber, IsStart, IsWanted}
use Rattle.protocol.specs.Choosing.{IsNext}
use Rattle.protocol.proofs.FoundLemmas.{both}
use Rattle.protocol.proofs.LeastLemmas.{DecidesAt, least, none_at_all, least_law, none_law}

-- ---- held
pub decides-kept : (s : Station) (a : Arrival) (later : List Arrival) → Decides (is_held s later a) (IsKept s a later)
decides-kept s a later = Decides-and _ _ (λ e. e, λ e. e) (
  ltb-true (count_of s later) s.capacity,
  lt-ltb (count_of s later) s.capacity,
)

-- ---- what comes next
any_more : {A : Type 0} (P : A → Type 0) (x : A) (xs : List A) → Any P xs → Any P (x ∷ xs)
any_more P x xs any = (suc any.0, any.1, let within : any.0 < length xs = any.2 in omega arith, any.3, any.4)

some_passes : {A : Type 0} (test : A → Bool) (P : A → Type 0) → ((x : A) → Decides (test x) (P x)) → (xs : List A)
    → list_any test xs ≡ true → Any P xs
some_passes test P each [] e = absurd cc
some_passes test P each (x ∷ xs) e =
    both (test x)
    (λ y. (zero, x, omega arith, refl, (each x).0 y))
    (λ n. any_more P x xs (some_passes test P each xs (rw n at e)))

passes_at : {A : Type 0} (test : A → Bool) (P : A → Type 0) → ((x : A) → Decides (test x) (P x))
    → (xs : List A) (k : ℕ) (x : A) → k < length xs → get_or xs k x ≡ x → P x → list_any test xs ≡ true
passes_at test P each [] k x within is here = absurd (omega arith)
passes_at test P each (y ∷ xs) zero x within is here = rw ((each y).1 (subst P (sym is) here))
passes_at test P each (y ∷ xs) (suc k) x within is here =
    both (test y) (λ t. rw t) (λ n. rw n (passes_at test P each xs k x (omega arith) is here))

pub decides-any : {A : Type 0} (test : A → Bool) (P : A → Type 0) → ((x : A) → Decides (test x) (P x)) → (xs : List A)
    → Decides (list_any test xs) (Any P xs)
decides-any test P each xs = (some_passes test P each xs, λ any. passes_at test P each xs any.0 any.1 any.2 any.3 any.4)

decides-wanted : (requests : List Request)
    → DecidesAt (λ p later a. list_any (holds_and_wants p later a) requests)
    (λ p a later. Any (λ r. IsKept r.station a later × (wants r p a ≡ true)) requests)
decides-wanted requests p a later =
    decides-any (holds_and_wants p later a) (λ r. IsKept r.station a later × (wants r p a ≡ true))
    (λ r. Decides-and _ _ (decides-kept r.station a later) (λ e. e, λ e. e)) requests

next_within : (h : List Arrival) (requests : List Request) (q p : ℕ) → q ≤ length h
    → (next h requests q ≡ Some p) ↔ IsNext h requests q p
next_within h requests q p within =
    least_law _ _ (decides-wanted requests) h (take q h) (drop q h) q p (length-take-le q h within)
    (take-append-drop q h)

no_next_within : (h : List Arrival) (requests : List Request) (q : ℕ) → q ≤ length h
    → (next h requests q ≡ None) ↔ ((k : ℕ) → q ≤ k → Not (IsWanted requests h k))
no_next_within h requests q within =
    none_law _ _ (decides-wanted requests) h (take q h) (drop q h) q (length-take-le q h within) (take-append-drop q h)

-- beyond the last arrival nothing comes, and nothing is wanted
next_beyond : (h : List Arrival) (requests : List Request) (q : ℕ) → length h < q → next h requests q ≡ None
next_beyond h requests q beyond = rw (drop_all q h (omega (arith, beyond)))

unwanted_beyond : (h : List Arrival) (requests : List Request) (q k : ℕ) → length h < q → q ≤ k
    → Not (IsWanted requests h k)
unwanted_beyond h requests q k beyond from wanted =
    let at = wanted.is_at in
    let whole : length (at.before ++ wanted.arrival ∷ wanted.later) ≡ length h = ap length at.whole in
    let sum : length (at.before ++ wanted.arrival ∷ wanted.later)
    ≡ length at.before + length (wanted.arrival ∷ wanted.later) =
    length-append at.before (wanted.arrival ∷ wanted.later) in
    let place : length at.before ≡ k = at.place in
    absurd (omega (arith, whole, sum, place, beyond, from))

pub next_law : (h : List Arrival) (requests : List Request) (q p : ℕ)
    → (next h requests q ≡ Some p) ↔ IsNext h requests q p
next_law h requests q p = elim (leb_tells q (length h)) [
  | inl (_, within) ↦ next_within h requests q p within
  | inr (_, beyond) ↦ (
    λ e. let clash : None ≡ Some p = sym (next_beyond h requests q beyond) ∙ e in absurd cc,
    λ least. absurd (unwanted_beyond h requests q p beyond least.from least.here),
  )
]

pub no_next_law : (h : List Arrival) (requests : List Request) (q : ℕ)
    → (next h requests q ≡ None) ↔ ((k : ℕ) → q ≤ k → Not (IsWanted requests h k))
no_next_law h requests q = elim (leb_tells q (length h)) [
  | inl (_, within) ↦ no_next_within h requests q within
  | inr (_, beyond) ↦ (
    λ e. λ k from. unwanted_beyond h requests q k beyond from,
    λ none. next_beyond h requests q beyond,
  )
]

-- ---- the oldest held record
decides-held : (s : Station) → DecidesAt (λ p later a. is_held s later a) (λ p. IsKept s)
decides-held s p a later = decides-kept s a later

oldest_with : (s : Station) (h : List Arrival) (found : Option ℕ)
    → first_position (λ p later a. is_held s later a) 0 h ≡ found → IsOldest s h (unwrap_or found (length h))
oldest_with s h None e = inr (λ k. none_at_all _ _ (decides-held s) h [] h 0 refl refl e k zero-le, refl)
oldest_with s h (Some p) e = inl (least _ _ (decides-held s) h [] h 0 p refl refl e)

oldest_is : (s : Station) (h : List Arrival) → IsOldest s h (oldest_held s h)
oldest_is s h = oldest_with s h (first_position (λ p later a. is_held s later a) 0 h) refl

is_oldest : (s : Station) (h : List Arrival) (p : ℕ) → IsOldest s h p → oldest_held s h ≡ p
is_oldest s h p (inl l) = ap (λ o. unwrap_or o (length h)) ((least_law _ _ (decides-held s) h [] h 0 p refl refl).1 l)
is_oldest s h p (inr none) = ap (λ o. unwrap_or o (length h))
    ((none_law _ _ (decides-held s) h [] h 0 refl refl).1 (λ k low. none.0 k)) ∙ sym none.1

-- ---- how many arrivals of a station stand where
count_of-append : (s : Station) (xs ys : List Arrival) → count_of s (xs ++ ys) ≡ count_of s xs + count_of s ys
count_of-append s xs ys = sum_by-append (λ x. cond (is_of s x) 1 0) xs ys

count_of-here : (s : Station) (a : Arrival) (later : List Arrival) → is_of s a ≡ true
    → count_of s (a ∷ later) ≡ 1 + count_of s later
count_of-here s a later e =
    let one : count_of s (a ∷ []) ≡ 1 = rw e in
    count_of-append s (a ∷ []) later ∙ ap (λ n. n + count_of s later) one

-- the count before a held position, and at the end of the history
counted : (s : Station) (h : List Arrival) (p : ℕ) (held : HasHeld s h p)
    → count_of s h ≡ count_of s (take p h) + 1 + count_of s held.later
counted s h p held =
    let before : take p h ≡ held.is_at.before = ap₂ take (sym held.is_at.place) (sym held.is_at.whole)
    ∙ take-append_seam held.is_at.before (held.arrival ∷ held.later) in
    let whole : count_of s h ≡ count_of s held.is_at.before + count_of s (held.arrival ∷ held.later) = ap (count_of s)
    (sym held.is_at.whole) ∙ count_of-append s held.is_at.before (held.arrival ∷ held.later) in
    let here = count_of-here s held.arrival held.later held.is_true.0 in
    rw before (omega arith)

-- fewer than 2^24 apart, two numbers are the same only of one count
apart : (first m n : ℕ) → m < n → n < m + 2 ^ 24 → (first + m) % 2 ^ 24 ≢ (first + n) % 2 ^ 24
apart first m n less near e = omega arith

-- ---- numbers
-- A held record's number isn't the next one.
pub held_number : (s : Station) (h : List Arrival) (p : ℕ) → s.capacity < 2 ^ 24 → HasHeld s h p
    → number_at s h p ≢ number_at s h (length h)
held_number s h p small held =
    let all : take (length h) h ≡ h = take_all (length h) h (le_refl (length h)) in
    let total = counted s h p held in
    let few : count_of s held.later < s.capacity = held.is_true.1 in
    let distinct = apart s.first (count_of s (take p h)) (count_of s h) (omega arith) (omega arith) in
    λ e. distinct (e ∙ ap (λ l. (s.first + count_of s l) % 2 ^ 24) all)

-- More stand before the later of two held positions, but fewer than the capacity more.
earlier : (s : Station) (h : List Arrival) (p p' : ℕ) (held : HasHeld s h p) → p < p'
    → count_of s (take p h) < count_of s (take p' h)
earlier s h p p' held less =
    let place = held.is_at.place in
    let far : p' ≡ length held.is_at.before + suc (p' - p - 1) = omega arith in
    let first : take p h ≡ held.is_at.before = ap₂ take (sym place) (sym held.is_at.whole)
    ∙ take-append_seam held.is_at.before (held.arrival ∷ held.later) in
    let longer : take p' h ≡ held.is_at.before ++ held.arrival
    ∷ take (p' - p - 1) held.later = ap₂ take far (sym held.is_at.whole)
    ∙ take-append-add held.is_at.before (held.arrival ∷ held.later) (suc (p' - p - 1)) in
    let count : count_of s (take p' h)
    ≡ count_of s held.is_at.before + count_of s (held.arrival ∷ take (p' - p - 1) held.later) =
    ap (count_of s) longer ∙ count_of-append s held.is_at.before (held.arrival ∷ take (p' - p - 1) held.later) in
    let here = count_of-here s held.arrival (take (p' - p - 1) held.later) held.is_true.0 in
    let same : count_of s (take p h) ≡ count_of s held.is_at.before = ap (count_of s) first in
    omega arith

numbers_apart : (s : Station) (h : List Arrival) (p p' : ℕ) → s.capacity < 2 ^ 24 → HasHeld s h p → HasHeld s h p'
    → p < p' → number_at s h p ≢ number_at s h p'
numbers_apart s h p p' small held held' less =
    let total = counted s h p held in
    let total' = counted s h p' held' in
    let few : count_of s held.later < s.capacity = held.is_true.1 in
    let order = earlier s h p p' held less in
    apart s.first (count_of s (take p h)) (count_of s (take p' h)) order (omega arith)

one_number : (s : Station) (h : List Arrival) (n p p' : ℕ) → s.capacity < 2 ^ 24 → HasNumber s h n p
    → HasNumber s h n p' → p ≡ p'
one_number s h n p p' small has has' =
    ⊎_elim (λ same. same)
    (λ apart'. ⊎_elim
    (λ less. absurd (numbers_apart s h p p' small has.0 has'.0 less (has.1 ∙ sym has'.1)))
    (λ more. absurd (numbers_apart s h p' p small has'.0 has.0 more (has'.1 ∙ sym has.1))) apart')
    (cases_order p p')

-- ---- from a number on
module _ (s : Station) (h : List Arrival) (n : ℕ) where
  abbrev Numbered : ℕ → Arrival → List Arrival → Type 0
  Numbered p a later = IsKept s a later × (number_at s h p ≡ n)

  abbrev number_test : ℕ → List Arrival → Arrival → Bool
  number_test p later a = is_held s later a && (number_at s h p == n)

  decides-number : DecidesAt number_test Numbered
  decides-number p a later = Decides-and _ _ (decides-kept s a later) (Decides-eqb (number_at s h p) n)

  has_number : (p : ℕ) → HoldsAt (Numbered p) h p → HasNumber s h n p
  has_number p holds = (
    record { arrival = holds.arrival; later = holds.later; is_at = holds.is_at; is_true = holds.is_true.0 },
    holds.is_true.1,
  )

  is_numbered : (p : ℕ) → HasNumber s h n p → HoldsAt (Numbered p) h p
  is_numbered p has = record {
    arrival = has.0.arrival;
    later = has.0.later;
    is_at = has.0.is_at;
    is_true = (has.0.is_true, has.1);
  }

  number_found : (p : ℕ) → held_with_number s h n ≡ Some p → HasNumber s h n p
  number_found p e = has_number p (least number_test Numbered decides-number h [] h 0 p refl refl e).here

  no_number : held_with_number s h n ≡ None → (k : ℕ) → Not (HasNumber s h n k)
  no_number e k has = none_at_all number_test Numbered decides-number h [] h 0 refl refl e k zero-le (is_numbered k has)

  none_numbered : ((k : ℕ) → Not (HasNumber s h n k)) → held_with_number s h n ≡ None
  none_numbered none = (none_law number_test Numbered decides-number h [] h 0 refl refl).1
      (λ k low holds. none k (has_number k holds))

  abbrev otherwise : ℕ
  otherwise = if number_at s h (length h) == n then length h else oldest_held s h

  from_with : (found : Option ℕ) → held_with_number s h n ≡ found → IsFromNumber s h n (unwrap_or found otherwise)
  from_with (Some p) e = inl (number_found p e)
  from_with None e =
      both (number_at s h (length h) == n)
      (λ y. rw y (inr (inl (no_number e, eqb-true _ _ y, refl))))
      (λ f. rw f (inr (inr (no_number e, eqb-false _ _ f, oldest_is s h))))

  from_is : IsFromNumber s h n (from_number s h n)
  from_is = from_with (held_with_number s h n) refl

  held_is : (p : ℕ) (found : Option ℕ) → s.capacity < 2 ^ 24 → held_with_number s h n ≡ found → HasNumber s h n p
      → unwrap_or found otherwise ≡ p
  held_is p None small e has = absurd (no_number e p has)
  held_is p (Some p') small e has = one_number s h n p' p small (number_found p' e) has

  is_from : (p : ℕ) → s.capacity < 2 ^ 24 → IsFromNumber s h n p → from_number s h n ≡ p
  is_from p small (inl has) = held_is p (held_with_number s h n) small refl has
  is_from p small (inr (inl next_one)) = ap (λ o. unwrap_or o otherwise) (none_numbered next_one.0)
      ∙ rw (eq-eqb _ _ next_one.1) (sym next_one.2)
  is_from p small (inr (inr other)) = ap (λ o. unwrap_or o otherwise) (none_numbered other.0)
      ∙ rw (ne_eqb _ _ other.1) (is_oldest s h p other.2)

-- ---- where a request begins
start_is : (s : Station) (h : List Arrival) (action : Action) → IsStart s h action (first_wanted s h action)
start_is s h (Data None begin) = refl
start_is s h (Data (Some n) begin) = from_is s h n
start_is s h (Fetch None begin) = oldest_is s h
start_is s h (Fetch (Some n) begin) = from_is s h n
start_is s h (Time begin last) = oldest_is s h

is_start : (s : Station) (h : List Arrival) (action : Action) (p : ℕ) → s.capacity < 2 ^ 24 → IsStart s h action p
    → first_wanted s h action ≡ p
is_start s h (Data None begin) p small is = sym is
is_start s h (Data (Some n) begin) p small is = is_from s h n p small is
is_start s h (Fetch None begin) p small is = is_oldest s h p is
is_start s h (Fetch (Some n) begin) p small is = is_from s h n p small is
is_start s h (Time begin last) p small is = is_oldest s h p is

pub start_law : (s : Station) (h : List Arrival) (action : Action) (p : ℕ) → s.capacity < 2 ^ 24
    → (first_wanted s h action ≡ p) ↔ IsStart s h action p
start_law s h action p small = (λ e. subst (IsStart s h action) e (start_is s h action), is_start s h action p small)
