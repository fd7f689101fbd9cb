-- Remarks on the lists of stations, one after the other.
use Rattle.std.proofs.Common.{◌≡◌, ℕ, ◌+◌, ◌<◌, ◌≤◌, zero, suc, List, [], ◌∷◌, ◌++◌, length, drop, map, get_or, refl}
use Rattle.std.proofs.Common.{append-nil, append_assoc, sym, ap, ap₂, ◌∙◌, arith, add-one, drop-cons}
use Rattle.toml.specs.Data.{Members}
use Rattle.protocol.specs.Catalog.{Entry}
use Rattle.config_explained.specs.declared.remark.Remarked.{Remarked}
use Rattle.config_explained.specs.Remarks.{remarks_from, station_remarks}

-- the lines of the stations from a place on
abbrev pub remarks_left : Remarked → Members → List Entry → ℕ → List ℕ
remarks_left which keys es place = remarks_from which keys place (map (λ e. e.station) (drop place es))

drop_at : (es : List Entry) (i : ℕ) (e : Entry) → i < length es → e ≡ get_or es i e → drop i es ≡ e ∷ drop (i + 1) es
drop_at es i e lt is = drop-cons es i e lt ∙ ap₂ (λ x n. x ∷ drop n es) (sym is) (sym (add-one i))

drop_past : (es : List Entry) (k : ℕ) → length es ≤ k → drop k es ≡ []
drop_past [] zero past = refl
drop_past (e ∷ es) zero past = absurd (omega (arith, past))
drop_past [] (suc k) past = refl
drop_past (e ∷ es) (suc k) past = drop_past es k (omega (arith, past))

-- one line more
pub remark_more : (which : Remarked) (keys : Members) (es : List Entry) (all text : List ℕ) (place : ℕ) (e : Entry)
    → all ≡ text ++ remarks_left which keys es place → place < length es → e ≡ get_or es place e
    → all ≡ (text ++ station_remarks which keys place e.station) ++ remarks_left which keys es (place + 1)
remark_more which keys es all text place e so_far lt is =
    so_far
    ∙ ap (λ xs. text ++ remarks_from which keys place (map (λ x. x.station) xs)) (drop_at es place e lt is)
    ∙ sym (append_assoc text (station_remarks which keys place e.station) (remarks_left which keys es (place + 1)))

-- all of them
pub remarks_all : (which : Remarked) (keys : Members) (es : List Entry) (all text : List ℕ) (place : ℕ)
    → all ≡ text ++ remarks_left which keys es place → length es ≤ place → text ≡ all
remarks_all which keys es all text place so_far past =
    sym (so_far ∙ ap (λ xs. text ++ remarks_from which keys place (map (λ x. x.station) xs)) (drop_past es place past)
    ∙ append-nil text)

pub ruleset remark_lemmas = (remark_more, remarks_all)
