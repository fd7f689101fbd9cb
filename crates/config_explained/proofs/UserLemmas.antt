-- Who may use stations, one after the other.
use Rattle.std.proofs.Common.{◌≡◌, ℕ, ◌+◌, ◌<◌, ◌≤◌, zero, suc, List, [], ◌∷◌, ◌++◌, length, drop, map, get_or, refl}
use Rattle.std.proofs.Common.{append-nil, append_assoc, sym, ap, ap₂, ◌∙◌, arith, add-one, drop-cons}
use Rattle.toml.specs.Data.{Members}
use Rattle.protocol.specs.Catalog.{Entry}
use Rattle.config_explained.specs.Lists.{shown_at}
use Rattle.config_explained.specs.Users.{users_from, users_text}

-- the texts of the stations from a place on
abbrev pub users_left : Members → List Entry → ℕ → List (List ℕ)
users_left keys es place = users_from keys place (map (λ e. e.station) (drop place es))

drop_at : (es : List Entry) (i : ℕ) (e : Entry) → i < length es → e ≡ get_or es i e → drop i es ≡ e ∷ drop (i + 1) es
drop_at es i e lt is = drop-cons es i e lt ∙ ap₂ (λ x n. x ∷ drop n es) (sym is) (sym (add-one i))

drop_past : (es : List Entry) (k : ℕ) → length es ≤ k → drop k es ≡ []
drop_past [] zero past = refl
drop_past (e ∷ es) zero past = absurd (omega (arith, past))
drop_past [] (suc k) past = refl
drop_past (e ∷ es) (suc k) past = drop_past es k (omega (arith, past))

map_append : {A : Type 0} (f : A → List ℕ) (xs : List A) (x : A) → map f (xs ++ x ∷ []) ≡ map f xs ++ f x ∷ []
map_append f [] x = refl
map_append f (y ∷ ys) x = ap (λ t. f y ∷ t) (map_append f ys x)

-- one text more
pub user_more : {A : Type 0} (f : A → List ℕ) (keys : Members) (es : List Entry) (all : List (List ℕ)) (texts : List A)
    (text : A) (place : ℕ) (e : Entry) → all ≡ map f texts ++ users_left keys es place → place < length es
    → e ≡ get_or es place e → f text ≡ users_text (shown_at keys place)
    → all ≡ map f (texts ++ text ∷ []) ++ users_left keys es (place + 1)
user_more f keys es all texts text place e so_far lt is made =
    so_far
    ∙ ap (λ xs. map f texts ++ users_from keys place (map (λ x. x.station) xs)) (drop_at es place e lt is)
    ∙ ap (λ t. map f texts ++ t ∷ users_left keys es (place + 1)) (sym made)
    ∙ sym (append_assoc (map f texts) (f text ∷ []) (users_left keys es (place + 1)))
    ∙ ap (λ ts. ts ++ users_left keys es (place + 1)) (sym (map_append f texts text))

-- all of them
pub users_all : {A : Type 0} (f : A → List ℕ) (keys : Members) (es : List Entry) (all : List (List ℕ)) (texts : List A)
    (place : ℕ) → all ≡ map f texts ++ users_left keys es place → length es ≤ place → map f texts ≡ all
users_all f keys es all texts place so_far past =
    sym (so_far ∙ ap (λ xs. map f texts ++ users_from keys place (map (λ x. x.station) xs)) (drop_past es place past)
    ∙ append-nil (map f texts))

pub ruleset user_lemmas = (user_more, users_all)
