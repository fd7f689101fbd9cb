-- Wants that go on, one by one.
use Rattle.std.proofs.Common.{◌≡◌, ℕ, ◌+◌, ◌<◌, zero, suc, List, [], ◌∷◌, ◌++◌, length, map, take, drop, get_or}
use Rattle.std.proofs.Common.{slice_set, ap, ◌∙◌, arith, add-one}

-- One item more is changed.
set_one : {A : Type 0} (f : A → A) (ys : List A) (k : ℕ) (x : A) → k < length ys
    → x ≡ get_or (map f (take k ys) ++ drop k ys) k x
    → slice_set (map f (take k ys) ++ drop k ys) k (f x) ≡ map f (take (suc k) ys) ++ drop (suc k) ys
set_one f [] k x inside is = absurd (omega arith)
set_one f (y ∷ ys) zero x inside is = ap (λ z. f z ∷ ys) is
set_one f (y ∷ ys) (suc k) x inside is = ap (λ l. f y ∷ l) (set_one f ys k x (omega arith) is)

pub set_next : {A : Type 0} (f : A → A) (ys zs : List A) (k : ℕ) (x y : A) → zs ≡ map f (take k ys) ++ drop k ys
    → k < length ys → x ≡ get_or zs k x → y ≡ f x → slice_set zs k y ≡ map f (take (k + 1) ys) ++ drop (k + 1) ys
set_next f ys zs k x y e inside is to = rw (e, to, add-one k) (set_one f ys k x inside (is ∙ ap (λ l. get_or l k x) e))
