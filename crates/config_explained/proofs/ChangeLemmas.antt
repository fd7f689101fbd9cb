-- What changes of stations, one after the other.
use Rattle.std.proofs.Common.{◌≡◌, ℕ, ◌+◌, ◌<◌, ◌≤◌, zero, suc, List, [], ◌∷◌, ◌++◌, length, drop, map, get_or, refl}
use Rattle.std.proofs.Common.{append-nil, append_assoc, sym, ap, ap₂, ◌∙◌, arith, add-one, drop-cons}
use Rattle.toml.specs.Data.{Members}
use Rattle.protocol.specs.Catalog.{Config, Entry}
use Rattle.config_explained.specs.Changes.{new_lines, news_from, old_lines, olds_from, place_in}

-- the lines of the stations from a place on
abbrev pub olds_left : Members → Members → Config → List Entry → ℕ → List ℕ
olds_left keys keys' new es place = olds_from keys keys' new place (map (λ e. e.station) (drop place es))

abbrev pub news_left : Members → Config → List Entry → ℕ → List ℕ
news_left keys' old es place = news_from keys' old place (map (λ e. e.station) (drop place es))

drop_at : (es : List Entry) (i : ℕ) (e : Entry) → i < length es → e ≡ get_or es i e → drop i es ≡ e ∷ drop (i + 1) es
drop_at es i e lt is = drop-cons es i e lt ∙ ap₂ (λ x n. x ∷ drop n es) (sym is) (sym (add-one i))

drop_past : (es : List Entry) (k : ℕ) → length es ≤ k → drop k es ≡ []
drop_past [] zero past = refl
drop_past (e ∷ es) zero past = absurd (omega (arith, past))
drop_past [] (suc k) past = refl
drop_past (e ∷ es) (suc k) past = drop_past es k (omega (arith, past))

-- one station more, with its place in the other configuration
pub old_more : (keys keys' : Members) (new : Config) (es : List Entry) (all text : List ℕ) (place : ℕ) (e : Entry)
    → all ≡ text ++ olds_left keys keys' new es place → place < length es → e ≡ get_or es place e
    → all ≡ (text ++ old_lines keys keys' place e.station (place_in new e.station))
    ++ olds_left keys keys' new es (place + 1)
old_more keys keys' new es all text place e so_far lt is =
    so_far
    ∙ ap (λ xs. text ++ olds_from keys keys' new place (map (λ x. x.station) xs)) (drop_at es place e lt is)
    ∙ sym (append_assoc text (old_lines keys keys' place e.station (place_in new e.station))
    (olds_left keys keys' new es (place + 1)))

pub new_more : (keys' : Members) (old : Config) (es : List Entry) (all text : List ℕ) (place : ℕ) (e : Entry)
    → all ≡ text ++ news_left keys' old es place → place < length es → e ≡ get_or es place e
    → all ≡ (text ++ new_lines keys' place e.station (place_in old e.station)) ++ news_left keys' old es (place + 1)
new_more keys' old es all text place e so_far lt is =
    so_far
    ∙ ap (λ xs. text ++ news_from keys' old place (map (λ x. x.station) xs)) (drop_at es place e lt is)
    ∙ sym (append_assoc text (new_lines keys' place e.station (place_in old e.station))
    (news_left keys' old es (place + 1)))

-- all of them
pub olds_all : (keys keys' : Members) (new : Config) (es : List Entry) (all text : List ℕ) (place : ℕ)
    → all ≡ text ++ olds_left keys keys' new es place → length es ≤ place → text ≡ all
olds_all keys keys' new es all text place so_far past =
    sym (so_far ∙ ap (λ xs. text ++ olds_from keys keys' new place (map (λ x. x.station) xs)) (drop_past es place past)
    ∙ append-nil text)

pub news_all : (keys' : Members) (old : Config) (es : List Entry) (all text : List ℕ) (place : ℕ)
    → all ≡ text ++ news_left keys' old es place → length es ≤ place → text ≡ all
news_all keys' old es all text place so_far past =
    sym (so_far ∙ ap (λ xs. text ++ news_from keys' old place (map (λ x. x.station) xs)) (drop_past es place past)
    ∙ append-nil text)

pub ruleset change_lemmas = (old_more, new_more, olds_all, news_all)
