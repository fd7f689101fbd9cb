-- Texts that are lent, one by one.
use Rattle.std.proofs.Common.{◌≡◌, ℕ, List, [], ◌∷◌, ◌++◌, length, refl, sym, ap, ◌∙◌, suc, append_assoc, append-nil}
use Rattle.std.specs.Borrow.{Bor}
use Rattle.slreader.specs.WantTexts.{texts}

-- There are as many texts as are lent.
pub size_of_texts : (ts : List (Bor (List ℕ))) → length (texts ts) ≡ length ts
size_of_texts [] = refl
size_of_texts (t ∷ ts) = ap suc (size_of_texts ts)

texts_push : (xs : List (Bor (List ℕ))) (t : Bor (List ℕ)) → texts (xs ++ t ∷ []) ≡ texts xs ++ t.now ∷ []
texts_push [] t = refl
texts_push (x ∷ xs) t = ap (λ l. x.now ∷ l) (texts_push xs t)

-- One text more is cut off.
pub cut_off : (xs ys : List (Bor (List ℕ))) (t : Bor (List ℕ)) (left rest whole : List (List ℕ)) → ys ≡ xs ++ t ∷ []
    → texts xs ++ left ≡ whole → left ≡ t.now ∷ rest → texts ys ++ rest ≡ whole
cut_off xs ys t left rest whole more so_far is =
    ap (λ l. texts l ++ rest) more ∙ ap (λ l. l ++ rest) (texts_push xs t) ∙ append_assoc (texts xs) (t.now ∷ []) rest
    ∙ ap (λ l. texts xs ++ l) (sym is) ∙ so_far

-- and the last one
pub cut_last : (xs ys : List (Bor (List ℕ))) (t : Bor (List ℕ)) (left whole : List (List ℕ)) → ys ≡ xs ++ t ∷ []
    → texts xs ++ left ≡ whole → left ≡ t.now ∷ [] → texts ys ≡ whole
cut_last xs ys t left whole more so_far is = sym (append-nil (texts ys)) ∙ cut_off xs ys t left [] whole more so_far is
