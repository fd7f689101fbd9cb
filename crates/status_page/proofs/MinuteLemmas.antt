-- The greatest of some numbers, one after the other.
use Rattle.std.proofs.Common.{◌≡◌, ℕ, ◌+◌, ◌<◌, ◌≤◌, zero, suc, List, [], ◌∷◌, length, drop, get_or, refl, sym, ap, ap₂}
use Rattle.std.proofs.Common.{◌∙◌, arith, add-one, drop-cons}
use Rattle.std.specs.Prelude.{max}
use Rattle.status_page.specs.Values.{busiest_from}

-- one number more
pub busiest_more : (all : ℕ) (xs : List ℕ) (most i x : ℕ) → all ≡ busiest_from most (drop i xs) → i < length xs
    → x ≡ get_or xs i x → all ≡ busiest_from (max most x) (drop (i + 1) xs)
busiest_more all xs most i x so_far lt is =
    so_far ∙ ap (λ ys. busiest_from most ys)
    (drop-cons xs i x lt ∙ ap₂ (λ y n. y ∷ drop n xs) (sym is) (sym (add-one i)))

drop_past : (xs : List ℕ) (k : ℕ) → length xs ≤ k → drop k xs ≡ []
drop_past [] zero past = refl
drop_past (x ∷ xs) zero past = absurd (omega (arith, past))
drop_past [] (suc k) past = refl
drop_past (x ∷ xs) (suc k) past = drop_past xs k (omega (arith, past))

-- all of them
pub busiest_all : (all : ℕ) (xs : List ℕ) (most i : ℕ) → all ≡ busiest_from most (drop i xs) → length xs ≤ i
    → most ≡ all
busiest_all all xs most i so_far past = sym (so_far ∙ ap (λ ys. busiest_from most ys) (drop_past xs i past))

pub ruleset minute_lemmas = (busiest_more, busiest_all)
