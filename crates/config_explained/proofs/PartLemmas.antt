-- How much of a network sees stations, one after the other.
use Rattle.std.proofs.Common.{◌≡◌, ℕ, ◌+◌, ◌<◌, ◌≤◌, zero, suc, List, [], ◌∷◌, ◌++◌, length, drop, map, get_or, refl}
use Rattle.std.proofs.Common.{append-nil, append_assoc, sym, ap, ap₂, ◌∙◌, arith, add-one, drop-cons}
use Rattle.toml.specs.Data.{Members}
use Rattle.protocol.specs.Catalog.{Entry}
use Rattle.protocol.specs.Access.{Token}
use Rattle.config_explained.specs.Parts.{part_at, parts_from}

-- the lines of the stations from a place on
abbrev pub parts_left : Members → Token → List Entry → ℕ → List ℕ
parts_left keys n es place = parts_from keys n place (map (λ e. e.station) (drop place es))

drop_at : (es : List Entry) (i : ℕ) (e : Entry) → i < length es → e ≡ get_or es i e → drop i es ≡ e ∷ drop (i + 1) es
drop_at es i e lt is = drop-cons es i e lt ∙ ap₂ (λ x k. x ∷ drop k es) (sym is) (sym (add-one i))

drop_past : (es : List Entry) (k : ℕ) → length es ≤ k → drop k es ≡ []
drop_past [] zero past = refl
drop_past (e ∷ es) zero past = absurd (omega (arith, past))
drop_past [] (suc k) past = refl
drop_past (e ∷ es) (suc k) past = drop_past es k (omega (arith, past))

-- one line more
pub part_more : (keys : Members) (n : Token) (es : List Entry) (all text : List ℕ) (place : ℕ) (e : Entry)
    → all ≡ text ++ parts_left keys n es place → place < length es → e ≡ get_or es place e
    → all ≡ (text ++ part_at keys n place e.station) ++ parts_left keys n es (place + 1)
part_more keys n es all text place e so_far lt is =
    so_far
    ∙ ap (λ xs. text ++ parts_from keys n place (map (λ x. x.station) xs)) (drop_at es place e lt is)
    ∙ sym (append_assoc text (part_at keys n place e.station) (parts_left keys n es (place + 1)))

-- all of them
pub parts_all : (keys : Members) (n : Token) (es : List Entry) (all text : List ℕ) (place : ℕ)
    → all ≡ text ++ parts_left keys n es place → length es ≤ place → text ≡ all
parts_all keys n es all text place so_far past =
    sym (so_far ∙ ap (λ xs. text ++ parts_from keys n place (map (λ x. x.station) xs)) (drop_past es place past)
    ∙ append-nil text)

pub ruleset part_lemmas = (part_more, parts_all)
