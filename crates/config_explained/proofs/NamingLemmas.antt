-- The lists of stations, one after the other, and the entries of one.
use Rattle.std.proofs.Common.{◌≡◌, ℕ, ◌+◌, ◌<◌, ◌≤◌, zero, suc, Bool, true, false, if◌then◌else◌, List, [], ◌∷◌, length}
use Rattle.std.proofs.Common.{drop, map, get_or, refl, sym, ap, ap₂, ◌∙◌, arith, add-one, drop-cons}
use Rattle.std.specs.List.{list_any}
use Rattle.std.specs.Str.{bytes_eq}
use Rattle.toml.specs.Data.{Members}
use Rattle.protocol.specs.Catalog.{Entry, Station}
use Rattle.config_explained.specs.Lists.{list_at}
use Rattle.config_explained.specs.Naming.{has_entry_if, naming_from}

-- of the stations from a place on
abbrev pub naming_left : Members → List ℕ → List Entry → ℕ → ℕ
naming_left keys entry es place = naming_from keys entry place (map (λ e. e.station) (drop place es))

drop_at : (es : List Entry) (i : ℕ) (e : Entry) → i < length es → e ≡ get_or es i e → drop i es ≡ e ∷ drop (i + 1) es
drop_at es i e lt is = drop-cons es i e lt ∙ ap₂ (λ x n. x ∷ drop n es) (sym is) (sym (add-one i))

drop_past : (es : List Entry) (k : ℕ) → length es ≤ k → drop k es ≡ []
drop_past [] zero past = refl
drop_past (e ∷ es) zero past = absurd (omega (arith, past))
drop_past [] (suc k) past = refl
drop_past (e ∷ es) (suc k) past = drop_past es k (omega (arith, past))

left_at : (keys : Members) (entry : List ℕ) (es : List Entry) (place : ℕ) (e : Entry) → place < length es
    → e ≡ get_or es place e
    → naming_left keys entry es place
    ≡ (if has_entry_if entry (list_at keys place) then 1 + naming_left keys entry es (place + 1)
    else naming_left keys entry es (place + 1))
left_at keys entry es place e lt is =
    ap (λ xs. naming_from keys entry place (map (λ x. x.station) xs)) (drop_at es place e lt is)

-- one whose list has it
pub naming_one : (keys : Members) (entry : List ℕ) (es : List Entry) (all count place : ℕ) (e : Entry)
    → all ≡ count + naming_left keys entry es place → place < length es → e ≡ get_or es place e
    → has_entry_if entry (list_at keys place) ≡ true → all ≡ (count + 1) + naming_left keys entry es (place + 1)
naming_one keys entry es all count place e so_far lt is has =
    let step : naming_left keys entry es place ≡ 1 + naming_left keys entry es (place + 1) =
    left_at keys entry es place e lt is
    ∙ ap (λ b. if b then 1 + naming_left keys entry es (place + 1) else naming_left keys entry es (place + 1)) has in
    omega (arith, so_far, step)

-- one whose list has it not
pub naming_none : (keys : Members) (entry : List ℕ) (es : List Entry) (all count place : ℕ) (e : Entry)
    → all ≡ count + naming_left keys entry es place → place < length es → e ≡ get_or es place e
    → has_entry_if entry (list_at keys place) ≡ false → all ≡ count + naming_left keys entry es (place + 1)
naming_none keys entry es all count place e so_far lt is hasn =
    let step : naming_left keys entry es place ≡ naming_left keys entry es (place + 1) =
    left_at keys entry es place e lt is
    ∙ ap (λ b. if b then 1 + naming_left keys entry es (place + 1) else naming_left keys entry es (place + 1)) hasn in
    so_far ∙ ap (λ n. count + n) step

-- all of them
pub naming_all : (keys : Members) (entry : List ℕ) (es : List Entry) (all count place : ℕ)
    → all ≡ count + naming_left keys entry es place → length es ≤ place → count ≡ all
naming_all keys entry es all count place so_far past =
    let none : naming_left keys entry es place ≡ 0 =
    ap (λ xs. naming_from keys entry place (map (λ x. x.station) xs)) (drop_past es place past) in
    omega (arith, so_far, none)

pub ruleset naming_lemmas = (naming_one, naming_none, naming_all)
