-- Texts that are cut at their first separator.
use Rattle.std.proofs.Common.{◌≡◌, ◌≢◌, ℕ, suc, ◌+◌, ◌-◌, ◌<◌, ◌==◌, List, [], ◌∷◌, ◌++◌}
use Rattle.std.proofs.Common.{length, take, drop, Some, None, refl, sym, ap, ◌∙◌, arith, add-one, not, length-append}
use Rattle.std.proofs.Common.{length-drop}
use Rattle.std.proofs.lemmas.Bool.Decides.{nat_tests}
use Rattle.std.specs.Prelude.{position}
use Rattle.std.specs.List.{prefix_len}
use Rattle.reader_state.specs.States.{Lacks}

-- a text up to the first separator
front-len : (b : ℕ) (xs ys : List ℕ) → Lacks b xs → prefix_len (λ x. not (x == b)) (xs ++ b ∷ ys) ≡ length xs
front-len b [] ys h = grind (arith, nat_tests)
front-len b (x ∷ xs) ys h =
    let differs : x ≢ b = h.0 in
    let rest : prefix_len (λ y. not (y == b)) (xs ++ b ∷ ys) ≡ length xs = front-len b xs ys h.1 in
    grind (arith, nat_tests, rest, differs)

-- the first separator stands behind a text that lacks it
pub position-cut : (b : ℕ) (xs ys : List ℕ) → Lacks b xs → position (λ x. x == b) (xs ++ b ∷ ys) ≡ Some (length xs)
position-cut b xs ys h =
    let front : prefix_len (λ x. not (x == b)) (xs ++ b ∷ ys) ≡ length xs = front-len b xs ys h in
    let size : length (xs ++ b ∷ ys) ≡ length xs + suc (length ys) = length-append xs (b ∷ ys) in
    let within : length xs < length (xs ++ b ∷ ys) = omega (arith, size) in
    grind (arith, nat_tests, front, within)

pub take-front : (b : ℕ) (xs ys : List ℕ) → take (length xs) (xs ++ b ∷ ys) ≡ xs
take-front b [] ys = refl
take-front b (x ∷ xs) ys = ap (λ l. x ∷ l) (take-front b xs ys)

pub drop-front : (b : ℕ) (xs ys : List ℕ) → drop (suc (length xs)) (xs ++ b ∷ ys) ≡ ys
drop-front b [] ys = refl
drop-front b (x ∷ xs) ys = drop-front b xs ys

some-same : {m n : ℕ} → Some m ≡ Some n → m ≡ n
some-same e = cc

-- What is cut off a text lacks the separator: it is the front.
pub cut-back : (b : ℕ) (text front rest xs ys : List ℕ) → position (λ x. x == b) text ≡ Some (length front)
    → front ≡ take (length front) text → rest ≡ drop (length front + 1) text → Lacks b xs → text ≡ xs ++ b ∷ ys
    → (front ≡ xs) × (rest ≡ ys)
cut-back b text front rest xs ys place is_front is_rest lacks is =
    let here : position (λ x. x == b) text ≡ Some (length xs) =
    ap (position (λ x. x == b)) is ∙ position-cut b xs ys lacks in
    let size : length front ≡ length xs = some-same (sym place ∙ here) in (
      is_front ∙ ap (λ n. take n text) size ∙ ap (take (length xs)) is ∙ take-front b xs ys,
      is_rest ∙ ap (λ n. drop (n + 1) text) size ∙ ap (λ n. drop n text) (add-one (length xs))
          ∙ ap (drop (suc (length xs))) is ∙ drop-front b xs ys,
    )

pub no-cut : {A : Type 0} → (b : ℕ) (text xs ys : List ℕ) → position (λ x. x == b) text ≡ None → Lacks b xs
    → text ≡ xs ++ b ∷ ys → A
no-cut b text xs ys place lacks is =
    let here : position (λ x. x == b) text ≡ Some (length xs) =
    ap (position (λ x. x == b)) is ∙ position-cut b xs ys lacks in
    let bad : None ≡ Some (length xs) = sym place ∙ here in absurd cc

-- What stands behind a separator is less than the text.
pub cut-smaller : (b : ℕ) (text front rest : List ℕ) → position (λ x. x == b) text ≡ Some (length front)
    → rest ≡ drop (length front + 1) text → length rest < length text
cut-smaller b [] front rest place is = absurd cc
cut-smaller b (x ∷ xs) front rest place is =
    let size : length rest ≡ length (x ∷ xs) - (length front + 1) =
    ap length is ∙ length-drop (length front + 1) (x ∷ xs) in
    omega (arith, size)

-- Without a separator nothing is cut off.
whole-len : (b : ℕ) (xs : List ℕ) → Lacks b xs → prefix_len (λ x. not (x == b)) xs ≡ length xs
whole-len b [] h = grind (arith, nat_tests)
whole-len b (x ∷ xs) h =
    let differs : x ≢ b = h.0 in
    let rest : prefix_len (λ y. not (y == b)) xs ≡ length xs = whole-len b xs h.1 in
    grind (arith, nat_tests, rest, differs)

no-position : (b : ℕ) (xs : List ℕ) → Lacks b xs → position (λ x. x == b) xs ≡ None
no-position b xs h =
    let whole : prefix_len (λ x. not (x == b)) xs ≡ length xs = whole-len b xs h in
    grind (arith, nat_tests, whole)

pub nothing-cut : {A : Type 0} → (b : ℕ) (text : List ℕ) (place : ℕ) → position (λ x. x == b) text ≡ Some place
    → Lacks b text → A
nothing-cut b text place found lacks =
    let bad : None ≡ Some place = sym (no-position b text lacks) ∙ found in absurd cc
