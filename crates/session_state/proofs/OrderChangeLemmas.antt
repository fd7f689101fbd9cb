-- The order of named stations while they, or the records ahead of their requests, change.
use Rattle.std.proofs.Common.{◌≡◌, ◌≢◌, ℕ, ◌+◌, ◌<◌, zero, suc, false, List, [], ◌∷◌, ◌++◌, length}
use Rattle.std.proofs.Common.{Option, Some, None, refl, sym, ap, ap₂, subst, ◌∙◌, arith, nat_lt, slice_get, slice_set}
use Rattle.std.specs.Prelude.{◌==◌, slice_index}
use Rattle.std.proofs.lemmas.Bool.Decides.{nat_tests}
use Rattle.std.proofs.lemmas.List.{length-set, length_push}
use Rattle.protocol.proofs.FoundLemmas.{both}
use Rattle.session_state.specs.declared.choices.Entry.{Entry}
use Rattle.session_state.specs.declared.choices.Ahead.{Ahead}
use Rattle.session_state.specs.declared.choices.Ahead.TheVariants.{Nobody, Only, Several}
use Rattle.session_state.specs.NamedValues.{ahead_of}
use Rattle.session_state.specs.Entries.{TellsAhead}
use Rattle.session_state.specs.Orders.{HasSorted, IsOrder, IsReady, ahead_at}
use Rattle.session_state.specs.Orders.{is_sooner, stamp_in}
use Rattle.session_state.proofs.OrderLemmas.{later-self, none-later}

-- ---- the record ahead of an entry among others

ahead-other : (es : List Entry) (i : ℕ) (f : Entry) (k : ℕ) → k ≢ i → ahead_at (slice_set es i f) k ≡ ahead_at es k
ahead-other [] i f k apart = refl
ahead-other (e ∷ es) zero f zero apart = absurd (apart refl)
ahead-other (e ∷ es) zero f (suc k) apart = refl
ahead-other (e ∷ es) (suc i) f zero apart = refl
ahead-other (e ∷ es) (suc i) f (suc k) apart = ahead-other es i f k (λ s. apart (ap suc s))

ahead-kept : (es : List Entry) (i : ℕ) (e f : Entry) (k : ℕ) → slice_get es i ≡ Some e → f.cursor ≡ e.cursor
    → ahead_at (slice_set es i f) k ≡ ahead_at es k
ahead-kept [] i e f k at same = refl
ahead-kept (x ∷ es) zero e f zero at same = ap ahead_of same ∙ sym (ap stamp_in at)
ahead-kept (x ∷ es) zero e f (suc k) at same = refl
ahead-kept (x ∷ es) (suc i) e f zero at same = refl
ahead-kept (x ∷ es) (suc i) e f (suc k) at same = ahead-kept es i e f k at same

ahead-before : (es : List Entry) (f : Entry) (k : ℕ) → k < length es → ahead_at (es ++ f ∷ []) k ≡ ahead_at es k
ahead-before [] f k low = absurd (omega arith)
ahead-before (e ∷ es) f zero low = refl
ahead-before (e ∷ es) f (suc k) low = ahead-before es f k (omega arith)

ahead-last : (es : List Entry) (f : Entry) → ahead_at (es ++ f ∷ []) (length es) ≡ ahead_of f.cursor
ahead-last [] f = refl
ahead-last (e ∷ es) f = ahead-last es f

-- by what is known of each that is there
ahead-none : (es : List Entry) (k : ℕ) → ((e : Entry) → slice_get es k ≡ Some e → ahead_of e.cursor ≡ None)
    → ahead_at es k ≡ None
ahead-none es k none = by (slice_get es k) none
  where
    by : (o : Option Entry) → ((e : Entry) → o ≡ Some e → ahead_of e.cursor ≡ None) → stamp_in o ≡ None
    by None f = refl
    by (Some e) f = f e refl

pub quiet : (es : List Entry) → TellsAhead Nobody es → (k : ℕ) → ahead_at es k ≡ None
quiet es tells k = ahead-none es k (tells k)

pub quiet-but : (es : List Entry) (i : ℕ) → TellsAhead (Only i) es → (k : ℕ) → k ≢ i → ahead_at es k ≡ None
quiet-but es i tells k apart = ahead-none es k (λ e at. tells k e apart at)

-- ---- one that has another record ahead

alike : (es fs : List Entry) (a b : ℕ) → ahead_at fs a ≡ ahead_at es a → ahead_at fs b ≡ ahead_at es b
    → is_sooner (ahead_at es a) (ahead_at es b) ≡ false → is_sooner (ahead_at fs a) (ahead_at fs b) ≡ false
alike es fs a b p q later = ap₂ is_sooner p q ∙ later

pub ready-pass : (a : Ahead) (es : List Entry) (i : ℕ) (f : Entry) (order : List ℕ) → HasSorted a order es
    → TellsAhead a es → IsReady a i (slice_set es i f) order
ready-pass Nobody es i f order sorted tells = λ k m up within apart parted.
    none-later (ahead_at (slice_set es i f) (slice_index order m)) (ahead_at (slice_set es i f) (slice_index order k))
    (ahead-other es i f (slice_index order m) parted ∙ quiet es tells (slice_index order m))
ready-pass (Only j) es i f order sorted tells = λ k apart parted.
    ahead-other es i f k parted ∙ quiet-but es j tells k apart
ready-pass Several es i f order sorted tells = λ k m up within apart parted.
    alike es (slice_set es i f) (slice_index order m) (slice_index order k)
    (ahead-other es i f (slice_index order m) parted) (ahead-other es i f (slice_index order k) apart)
    (sorted k m (omega arith) up within)

-- ---- one of which something else changes

pub order-set : (es : List Entry) (i : ℕ) (f : Entry) (order : List ℕ) → IsOrder order (length es)
    → IsOrder order (length (slice_set es i f))
order-set es i f order is = subst (IsOrder order) (sym (length-set es i f)) is

pub sorted-set : (a : Ahead) (es : List Entry) (i : ℕ) (e f : Entry) (order : List ℕ) → HasSorted a order es
    → slice_get es i ≡ Some e → f.cursor ≡ e.cursor → HasSorted a order (slice_set es i f)
sorted-set Nobody es i e f order sorted at same = tt
sorted-set (Only j) es i e f order sorted at same = tt
sorted-set Several es i e f order sorted at same = λ k m above up within.
    alike es (slice_set es i f) (slice_index order m) (slice_index order k)
    (ahead-kept es i e f (slice_index order m) at same) (ahead-kept es i e f (slice_index order k) at same)
    (sorted k m above up within)

-- ---- one more, and none

at-before : (xs : List ℕ) (x k : ℕ) → k < length xs → slice_index (xs ++ x ∷ []) k ≡ slice_index xs k
at-before [] x k low = absurd (omega arith)
at-before (y ∷ xs) x zero low = refl
at-before (y ∷ xs) x (suc k) low = at-before xs x k (omega arith)

at-last : (xs : List ℕ) (x : ℕ) → slice_index (xs ++ x ∷ []) (length xs) ≡ x
at-last [] x = refl
at-last (y ∷ xs) x = at-last xs x

-- the place before the end of a longer list is one of the shorter list, or its end
pub order-push : (n : ℕ) (order : List ℕ) → IsOrder order n → IsOrder (order ++ n ∷ []) (n + 1)
order-push n order is =
    let long : length (order ++ n ∷ []) ≡ n + 1 = length_push order n ∙ ap (λ k. k + 1) is.count in
    let old : (k : ℕ) → k < n → slice_index (order ++ n ∷ []) k ≡ slice_index order k = λ k h.
    at-before order n k (subst (λ x. k < x) (sym is.count) h) in
    let last : slice_index (order ++ n ∷ []) n ≡ n = ap (slice_index (order ++ n ∷ [])) (sym is.count) ∙ at-last order n
    in
    record {
      count = long;
      named = λ k h. both (nat_lt k n)
          (λ y. let low : k < n = grind (arith, nat_tests) in
          let there : slice_index order k < n = is.named k low in
          subst (λ x. x < n + 1) (sym (old k low)) (omega (arith, there)))
          (λ far. let at : k ≡ n = grind (arith, nat_tests) in
          subst (λ x. x < n + 1) (sym (ap (slice_index (order ++ n ∷ [])) at ∙ last)) (omega arith));
      all = λ i h. both (nat_lt i n)
          (λ y. let there = is.all i (grind (arith, nat_tests)) in
          let low : there.place < n = subst (λ x. there.place < x) is.count there.within in
          record {
            place = there.place;
            within = subst (λ x. there.place < x) (sym long) (omega (arith, low));
            is = old there.place low ∙ there.is;
          })
          (λ far. let at : n ≡ i = grind (arith, nat_tests) in
          record { place = n; within = subst (λ x. n < x) (sym long) (omega arith); is = last ∙ at });
      once = λ k m h l same. both (nat_lt k n)
          (λ y. let low : k < n = grind (arith, nat_tests) in
          let there : slice_index order k < n = is.named k low in
          both (nat_lt m n)
          (λ z. let low2 : m < n = grind (arith, nat_tests) in
          is.once k m low low2 (sym (old k low) ∙ same ∙ old m low2))
          (λ far. let at : m ≡ n = grind (arith, nat_tests) in
          absurd (let e : slice_index order k ≡ n = sym (old k low) ∙ same ∙ ap (slice_index (order ++ n ∷ [])) at
          ∙ last in omega (arith, there, e))))
          (λ far. let at : k ≡ n = grind (arith, nat_tests) in
          both (nat_lt m n)
          (λ z. let low2 : m < n = grind (arith, nat_tests) in
          let there : slice_index order m < n = is.named m low2 in
          absurd (let e : slice_index order m ≡ n = sym (old m low2) ∙ sym same ∙ ap (slice_index (order ++ n ∷ [])) at
          ∙ last in omega (arith, there, e)))
          (λ more. grind (arith, nat_tests)));
    }

pub sorted-push : (a : Ahead) (n : ℕ) (es : List Entry) (f : Entry) (order : List ℕ) → IsOrder order n → n ≡ length es
    → HasSorted a order es → ahead_of f.cursor ≡ None → HasSorted a (order ++ n ∷ []) (es ++ f ∷ [])
sorted-push Nobody n es f order is all sorted none = tt
sorted-push (Only j) n es f order is all sorted none = tt
sorted-push Several n es f order is all sorted none = λ k m above up within.
    let fs : List Entry = es ++ f ∷ [] in
    let more : List ℕ = order ++ n ∷ [] in
    let short : m < n + 1 = subst (λ x. m < x) (length_push order n ∙ ap (λ x. x + 1) is.count) within in
    let low : k < n = omega arith in
    both (nat_lt m n)
    (λ y. let low2 : m < n = grind (arith, nat_tests) in
    let old : (j : ℕ) → j < n → ahead_at fs (slice_index more j) ≡ ahead_at es (slice_index order j) = λ j h.
    ap (ahead_at fs) (at-before order n j (subst (λ x. j < x) (sym is.count) h))
    ∙ ahead-before es f (slice_index order j) (subst (λ x. slice_index order j < x) all (is.named j h)) in
    ap₂ is_sooner (old m low2) (old k low) ∙ sorted k m above up (subst (λ x. m < x) (sym is.count) low2))
    (λ far. let at : m ≡ n = grind (arith, nat_tests) in
    none-later (ahead_at fs (slice_index more m)) (ahead_at fs (slice_index more k))
    (ap (λ x. ahead_at fs (slice_index more x)) (at ∙ sym is.count) ∙ ap (ahead_at fs) (at-last order n ∙ all)
    ∙ ahead-last es f ∙ none))

pub order-none : (order : List ℕ) (n : ℕ) → order ≡ [] → n ≡ 0 → IsOrder order n
order-none order n none few =
    let empty : length order ≡ n = ap length none ∙ sym few in
    record {
      count = empty;
      named = λ k h. absurd (omega arith);
      all = λ i h. absurd (omega arith);
      once = λ k m h l same. absurd (omega arith);
    }

-- ---- one that alone may have a record ahead

pub only-none :
    (es : List Entry) (i : ℕ) → TellsAhead (Only i) es → ahead_at es i ≡ None → (j : ℕ) → ahead_at es j ≡ None
only-none es i tells none j = both (j == i)
    (λ y. let same : j ≡ i = grind (arith, nat_tests) in ap (ahead_at es) same ∙ none)
    (λ n. quiet-but es i tells j (λ e. absurd (grind (arith, nat_tests))))

pub only-some : (es : List Entry) (i : ℕ) → TellsAhead (Only i) es → (j : ℕ)
    → is_sooner (ahead_at es j) (ahead_at es i) ≡ false
only-some es i tells j = both (j == i)
    (λ y. let same : i ≡ j = grind (arith, nat_tests) in
    ap (λ x. is_sooner (ahead_at es j) (ahead_at es x)) same ∙ later-self (ahead_at es j))
    (λ n. none-later (ahead_at es j) (ahead_at es i) (quiet-but es i tells j (λ e. absurd (grind (arith, nat_tests)))))
