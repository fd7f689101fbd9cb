-- Texts put one behind the other.
use Rattle.std.proofs.Common.{◌≡◌, ℕ, List, ◌++◌, ap, ◌∙◌, append_assoc, refl}

-- what a header says, put in six parts
pub joins_header : (old n s l c k t u d t1 t2 t3 t4 t5 new : List ℕ) → t1 ≡ old ++ n → t2 ≡ t1 ++ s
    → t3 ≡ t2 ++ (l ++ c ++ k) → t4 ≡ t3 ++ t → t5 ≡ t4 ++ u → new ≡ t5 ++ d
    → new ≡ old ++ (n ++ s ++ l ++ c ++ (k ++ t ++ u ++ d))
joins_header old n s l c k t u d t1 t2 t3 t4 t5 new p q r v w x =
    let two : t2 ≡ old ++ n ++ s = q ∙ ap (λ z. z ++ s) p in
    let three : t3 ≡ old ++ n ++ s ++ (l ++ c ++ k) = r ∙ ap (λ z. z ++ (l ++ c ++ k)) two in
    let four : t4 ≡ old ++ n ++ s ++ (l ++ c ++ k) ++ t = v ∙ ap (λ z. z ++ t) three in
    let five : t5 ≡ old ++ n ++ s ++ (l ++ c ++ k) ++ t ++ u = w ∙ ap (λ z. z ++ u) four in
    x ∙ ap (λ z. z ++ d) five ∙ simp append_assoc refl
