-- How long stations may be silent, one after the other.
use Rattle.std.proofs.Common.{◌≡◌, ℕ, ◌+◌, ◌<◌, ◌≤◌, zero, suc, List, [], ◌∷◌, ◌++◌, length, drop, map, get_or, refl}
use Rattle.std.proofs.Common.{append-nil, append_assoc, sym, ap, ap₂, ◌∙◌, arith, add-one, drop-cons}
use Rattle.toml.specs.Data.{Members}
use Rattle.protocol.specs.Catalog.{Entry}
use Rattle.config_explained.specs.Silences.{silence_of, silences_from}
use Rattle.config_explained.specs.Tables.{station_table}
use Rattle.config_explained.specs.declared.silence.Silence.{Silence}

-- those of the stations from a place on
abbrev pub silences_left : Members → List Entry → ℕ → List Silence
silences_left keys es place = silences_from keys place (map (λ e. e.station) (drop place es))

drop_at : (es : List Entry) (i : ℕ) (e : Entry) → i < length es → e ≡ get_or es i e → drop i es ≡ e ∷ drop (i + 1) es
drop_at es i e lt is = drop-cons es i e lt ∙ ap₂ (λ x n. x ∷ drop n es) (sym is) (sym (add-one i))

drop_past : (es : List Entry) (k : ℕ) → length es ≤ k → drop k es ≡ []
drop_past [] zero past = refl
drop_past (e ∷ es) zero past = absurd (omega (arith, past))
drop_past [] (suc k) past = refl
drop_past (e ∷ es) (suc k) past = drop_past es k (omega (arith, past))

-- one more
pub silence_more : (keys : Members) (es : List Entry) (all so_many : List Silence) (place : ℕ) (e : Entry)
    → all ≡ so_many ++ silences_left keys es place → place < length es → e ≡ get_or es place e
    → all ≡ (so_many ++ silence_of (station_table keys place) ∷ []) ++ silences_left keys es (place + 1)
silence_more keys es all so_many place e so_far lt is =
    so_far
    ∙ ap (λ xs. so_many ++ silences_from keys place (map (λ x. x.station) xs)) (drop_at es place e lt is)
    ∙ sym (append_assoc so_many (silence_of (station_table keys place) ∷ []) (silences_left keys es (place + 1)))

-- all of them
pub silences_all : (keys : Members) (es : List Entry) (all so_many : List Silence) (place : ℕ)
    → all ≡ so_many ++ silences_left keys es place → length es ≤ place → so_many ≡ all
silences_all keys es all so_many place so_far past =
    sym (so_far ∙ ap (λ xs. so_many ++ silences_from keys place (map (λ x. x.station) xs)) (drop_past es place past)
    ∙ append-nil so_many)

pub ruleset silence_lemmas = (silence_more, silences_all)
