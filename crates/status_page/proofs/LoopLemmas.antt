-- Texts of a list's elements, one after the other.
use Rattle.std.proofs.Common.{◌≡◌, ℕ, ◌+◌, ◌<◌, List, [], ◌∷◌, ◌++◌, length, take, get_or, append-nil, append_assoc}
use Rattle.std.proofs.Common.{refl, sym}
use Rattle.std.proofs.Common.{ap, ◌∙◌, flat_map}
use Rattle.std.proofs.lemmas.List.{take_more}

flat_append : {A : Type 0} (f : A → List ℕ) (xs ys : List A) → flat_map f (xs ++ ys) ≡ flat_map f xs ++ flat_map f ys
flat_append f [] ys = refl
flat_append f (x ∷ xs) ys =
    ap (λ t. f x ++ t) (flat_append f xs ys) ∙ sym (append_assoc (f x) (flat_map f xs) (flat_map f ys))

-- one element more
pub text_more : {A : Type 0} (f : A → List ℕ) (xs : List A) (before text : List ℕ) (i : ℕ) (x : A)
    → text ≡ before ++ flat_map f (take i xs) → i < length xs → x ≡ get_or xs i x
    → text ++ f x ≡ before ++ flat_map f (take (i + 1) xs)
text_more f xs before text i x so_far lt is =
    let at : get_or xs i x ≡ x = sym is in
    rw (take_more xs i x lt, at, flat_append f (take i xs) (x ∷ []), append-nil (f x), so_far)
    (append_assoc before (flat_map f (take i xs)) (f x))

pub ruleset loop_lemmas = (text_more)
