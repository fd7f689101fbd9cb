-- First positions: of two tests, from a position on, and where no test says yes.
use Rattle.std.proofs.Common.{◌≡◌, ℕ, zero, suc, ◌+◌, ◌-◌, ◌≤◌, ◌<◌, Bool, true, false, ◌&&◌, ◌||◌, nat_le, List, []}
use Rattle.std.proofs.Common.{◌∷◌, ◌++◌, drop, Option, Some, None, refl, sym, ap, ◌∙◌, arith, subst}
use Rattle.std.specs.List.{list_any}
use Rattle.std.proofs.lemmas.List.Folds.{list_any-append}
use Rattle.std.proofs.lemmas.Bool.Decides.{nat_tests}
use Rattle.protocol.specs.History.{Arrival, Request, first_position, next, holds_and_wants}
use Rattle.protocol.proofs.FoundLemmas.{both}
use Rattle.transfer.specs.Choosing.{least_of}

abbrev pub Test : Type 0
Test = ℕ → List Arrival → Arrival → Bool

-- What says the same finds the same.
pub same_first : (f g : Test) → ((p : ℕ) (later : List Arrival) (a : Arrival) → f p later a ≡ g p later a)
    → (p : ℕ) (h : List Arrival) → first_position f p h ≡ first_position g p h
same_first f g same p [] = refl
same_first f g same p (a ∷ later) = rw (same p later a, same_first f g same (p + 1) later) refl

-- What never says yes finds nothing.
pub none_first : (f : Test) → ((p : ℕ) (later : List Arrival) (a : Arrival) → f p later a ≡ false)
    → (p : ℕ) (h : List Arrival) → first_position f p h ≡ None
none_first f never p [] = refl
none_first f never p (a ∷ later) = rw (never p later a) (none_first f never (p + 1) later)

-- What is found does not stand before the place from which it is looked for.
first_above : (f : Test) (p k : ℕ) (h : List Arrival) → first_position f p h ≡ Some k → p ≤ k
first_above f p k [] e = absurd cc
first_above f p k (a ∷ later) e =
    both (f p later a)
    (λ y. let some : Some p ≡ Some k = rw y at e in let is : p ≡ k = cc in omega arith)
    (λ n. let more : p + 1 ≤ k = first_above f (p + 1) k later (rw n at e) in omega arith)

least_low : (p : ℕ) (o : Option ℕ) → ((k : ℕ) → o ≡ Some k → p ≤ k) → least_of (Some p) o ≡ Some p
least_low p None low = refl
least_low p (Some k) low = let le : nat_le p k ≡ true = grind (arith, nat_tests, low k refl) in rw le refl

least_high : (p : ℕ) (o : Option ℕ) → ((k : ℕ) → o ≡ Some k → p < k) → least_of o (Some p) ≡ Some p
least_high p None high = refl
least_high p (Some k) high = let le : nat_le k p ≡ false = grind (arith, nat_tests, high k refl) in rw le refl

-- Of two tests the lesser of what each finds.
pub either_first : (f g : Test) (p : ℕ) (h : List Arrival)
    → first_position (λ p later a. f p later a || g p later a) p h
    ≡ least_of (first_position f p h) (first_position g p h)
either_first f g p [] = refl
either_first f g p (a ∷ later) =
    both (f p later a)
    (λ y. rw y (sym (both (g p later a)
    (λ z. rw z (least_low p (Some p) (λ k e. let is : p ≡ k = cc in omega arith)))
    (λ z. rw z
    (least_low p (first_position g (p + 1) later)
    (λ k e. let more : p + 1 ≤ k = first_above g (p + 1) k later e in omega arith))))))
    (λ n. rw n (both (g p later a)
    (λ z. rw z
    (sym
    (least_high p (first_position f (p + 1) later)
    (λ k e. let more : p + 1 ≤ k = first_above f (p + 1) k later e in omega arith))))
    (λ z. rw z (either_first f g (p + 1) later))))

-- ---- from a position on

within : (f : Test) (q p : ℕ) (h : List Arrival) → q ≤ p
    → first_position (λ p later a. nat_le q p && f p later a) p h ≡ first_position f p h
within f q p [] low = refl
within f q p (a ∷ later) low =
    let le : nat_le q p ≡ true = grind (arith, nat_tests) in
    let more = within f q (p + 1) later (omega arith) in
    rw (le, more) refl

-- Looking from position q on is to say yes to nothing before it.
first_after : (f : Test) (q p : ℕ) (h : List Arrival) → p ≤ q
    → first_position f q (drop (q - p) h) ≡ first_position (λ p later a. nat_le q p && f p later a) p h
first_after f q p [] low = ap (first_position f q) (none (q - p))
  where
    none : (n : ℕ) → drop {A = Arrival} n [] ≡ []
    none zero = refl
    none (suc n) = refl
first_after f q p (a ∷ later) low =
    both (nat_le q p)
    (λ y. let here : q ≡ p = grind (arith, nat_tests) in
    let nothing : q - p ≡ 0 = omega arith in
    rw nothing
    (subst (λ n. first_position f n (a ∷ later)
    ≡ first_position (λ p later a. nat_le q p && f p later a) p (a ∷ later)) (sym here)
    (sym (within f q p (a ∷ later) (omega arith)))))
    (λ n. let below : p + 1 ≤ q = grind (arith, nat_tests) in
    let steps : q - p ≡ suc (q - (p + 1)) = omega arith in
    rw (steps, n) (first_after f q (p + 1) later below))

pub first_from : (f : Test) (q : ℕ) (h : List Arrival)
    → first_position f q (drop q h) ≡ first_position (λ p later a. nat_le q p && f p later a) 0 h
first_from f q h =
    let all : q - 0 ≡ q = omega arith in
    subst (λ n. first_position f q (drop n h) ≡ first_position (λ p later a. nat_le q p && f p later a) 0 h) all
    (first_after f q 0 h (omega arith))

-- ---- what comes next

-- Nothing comes where nothing is asked.
pub next-none : (h : List Arrival) (q : ℕ) → next h [] q ≡ None
next-none h q = none_first (λ p later a. list_any (holds_and_wants p later a) []) (λ p later a. refl) q (drop q h)

-- Of more requests the lesser of what comes for some and for the others.
pub next-append : (h : List Arrival) (rs ss : List Request) (q : ℕ)
    → next h (rs ++ ss) q ≡ least_of (next h rs q) (next h ss q)
next-append h rs ss q =
    same_first (λ p later a. list_any (holds_and_wants p later a) (rs ++ ss))
    (λ p later a. list_any (holds_and_wants p later a) rs || list_any (holds_and_wants p later a) ss)
    (λ p later a. list_any-append (holds_and_wants p later a) rs ss) q (drop q h)
    ∙ either_first (λ p later a. list_any (holds_and_wants p later a) rs)
    (λ p later a. list_any (holds_and_wants p later a) ss) q (drop q h)
