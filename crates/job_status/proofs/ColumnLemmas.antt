-- The bytes of a table, one after the other.
use Rattle.std.proofs.Common.{◌≡◌, ℕ, ◌+◌, ◌<◌, ◌≤◌, zero, suc, List, [], ◌∷◌, ◌++◌, length, drop, get_or, append-nil}
use Rattle.std.proofs.Common.{append_assoc, refl, sym, ap, ap₂, ◌∙◌, arith, add-one, drop-cons}
use Rattle.job_status.specs.declared.columns.Pen.{Pen}
use Rattle.job_status.specs.Columns.{after, laid_byte, laid_from, widened, widths_from}

drop_past : (xs : List ℕ) (k : ℕ) → length xs ≤ k → drop k xs ≡ []
drop_past [] zero past = refl
drop_past (x ∷ xs) zero past = absurd (omega (arith, past))
drop_past [] (suc k) past = refl
drop_past (x ∷ xs) (suc k) past = drop_past xs k (omega (arith, past))

drop_at : (xs : List ℕ) (i x : ℕ) → i < length xs → x ≡ get_or xs i x → drop i xs ≡ x ∷ drop (i + 1) xs
drop_at xs i x lt is = drop-cons xs i x lt ∙ ap₂ (λ y n. y ∷ drop n xs) (sym is) (sym (add-one i))

-- the widths with one byte more
pub width_more : (all ws : List ℕ) (p : Pen) (xs : List ℕ) (i x : ℕ) → all ≡ widths_from ws p (drop i xs)
    → i < length xs → x ≡ get_or xs i x → all ≡ widths_from (widened ws p x) (after p x) (drop (i + 1) xs)
width_more all ws p xs i x so_far lt is = so_far ∙ ap (λ ys. widths_from ws p ys) (drop_at xs i x lt is)

pub width_all : (all ws : List ℕ) (p : Pen) (xs : List ℕ) (i : ℕ) → all ≡ widths_from ws p (drop i xs)
    → length xs ≤ i → ws ≡ all
width_all all ws p xs i so_far past = sym (so_far ∙ ap (λ ys. widths_from ws p ys) (drop_past xs i past))

pub ruleset width_lemmas = (width_more, width_all)

-- what is shown with one byte more
pub laid_more : (all text ws : List ℕ) (p : Pen) (xs : List ℕ) (i x : ℕ) → all ≡ text ++ laid_from ws p (drop i xs)
    → i < length xs → x ≡ get_or xs i x
    → all ≡ (text ++ laid_byte ws p x) ++ laid_from ws (after p x) (drop (i + 1) xs)
laid_more all text ws p xs i x so_far lt is =
    so_far ∙ ap (λ ys. text ++ laid_from ws p ys) (drop_at xs i x lt is)
    ∙ sym (append_assoc text (laid_byte ws p x) (laid_from ws (after p x) (drop (i + 1) xs)))

pub laid_all : (all text ws : List ℕ) (p : Pen) (xs : List ℕ) (i : ℕ) → all ≡ text ++ laid_from ws p (drop i xs)
    → length xs ≤ i → text ≡ all
laid_all all text ws p xs i so_far past =
    sym (so_far ∙ ap (λ ys. text ++ laid_from ws p ys) (drop_past xs i past) ∙ append-nil text)

pub ruleset laid_lemmas = (laid_more, laid_all)
