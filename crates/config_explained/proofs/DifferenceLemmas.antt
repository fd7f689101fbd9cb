-- Stations of two configurations, one after the other, and that what differs nowhere is the same.
use Rattle.std.proofs.Common.{◌≡◌, ℕ, ◌+◌, ◌<◌, ◌≤◌, ◌&&◌, ◌==◌, zero, suc, Bool, true, false, true≢false, List, []}
use Rattle.std.proofs.Common.{◌∷◌, length, map, drop, get_or, refl, sym, ap, ap₂, ◌∙◌, arith, add-one, drop-cons}
use Rattle.std.proofs.Common.{Option, Some, None, find, not}
use Rattle.std.specs.List.{list_all}
use Rattle.std.specs.Str.{bytes_eq}
use Rattle.std.proofs.lemmas.Bool.{and_parts}
use Rattle.protocol.specs.Catalog.{Config, Entry, Station, stations_of, is_same_station, are_same_stations}
use Rattle.protocol.specs.Catalog.{is_same_but_for_access}
use Rattle.catalog.specs.declared.error.Step.{Step}
use Rattle.catalog.specs.declared.error.Step.TheVariants as step
use Rattle.catalog.specs.declared.settings.StationStep.{StationStep}
use Rattle.protocol.proofs.FoundLemmas.{both}
use Rattle.config_explained.specs.Differences.{differing_among, differing_key}
use Rattle.config_explained.specs.Differences.{differing_step, differs, step_by, step_or}
use Rattle.catalog.specs.Settings.{key_steps}

-- ---- one station after the other

-- what differs first from a place on
abbrev pub among_from : List Entry → List Entry → ℕ → Option Step
among_from es fs place =
    differing_among place (map (λ e. e.station) (drop place es)) (map (λ e. e.station) (drop place fs))

drop_at : (es : List Entry) (i : ℕ) (e : Entry) → i < length es → e ≡ get_or es i e → drop i es ≡ e ∷ drop (i + 1) es
drop_at es i e lt is = drop-cons es i e lt ∙ ap₂ (λ x n. x ∷ drop n es) (sym is) (sym (add-one i))

drop_past : (es : List Entry) (k : ℕ) → length es ≤ k → drop k es ≡ []
drop_past [] zero past = refl
drop_past (e ∷ es) zero past = absurd (omega (arith, past))
drop_past [] (suc k) past = refl
drop_past (e ∷ es) (suc k) past = drop_past es k (omega (arith, past))

at_both : (es fs : List Entry) (place : ℕ) (e f : Entry) → place < length es → place < length fs
    → e ≡ get_or es place e → f ≡ get_or fs place f
    → among_from es fs place ≡ step_or place (differing_key e.station f.station) (among_from es fs (place + 1))
at_both es fs place e f lt lt' is is' =
    ap₂ (λ xs ys. differing_among place (map (λ e. e.station) xs) (map (λ e. e.station) ys)) (drop_at es place e lt is)
    (drop_at fs place f lt' is')

-- the two stations at a place are the same
pub among_same : (es fs : List Entry) (place : ℕ) (e f : Entry) → place < length es → place < length fs
    → e ≡ get_or es place e → f ≡ get_or fs place f → differing_key e.station f.station ≡ None
    → among_from es fs place ≡ among_from es fs (place + 1)
among_same es fs place e f lt lt' is is' same =
    at_both es fs place e f lt lt' is is' ∙ ap (λ o. step_or place o (among_from es fs (place + 1))) same

-- or they differ
pub among_differs : (es fs : List Entry) (place : ℕ) (e f : Entry) (key : StationStep) → place < length es
    → place < length fs → e ≡ get_or es place e → f ≡ get_or fs place f
    → differing_key e.station f.station ≡ Some key → among_from es fs place ≡ Some (step.Station place key)
among_differs es fs place e f key lt lt' is is' differs =
    at_both es fs place e f lt lt' is is' ∙ ap (λ o. step_or place o (among_from es fs (place + 1))) differs

-- the other list ends before
pub among_fewer : (es fs : List Entry) (place : ℕ) (e : Entry) → place < length es → length fs ≤ place
    → e ≡ get_or es place e → among_from es fs place ≡ Some step.Stations
among_fewer es fs place e lt past is =
    ap₂ (λ xs ys. differing_among place (map (λ e. e.station) xs) (map (λ e. e.station) ys)) (drop_at es place e lt is)
    (drop_past fs place past)

-- or it goes on
pub among_more : (es fs : List Entry) (place : ℕ) → length es ≤ place → place < length fs
    → among_from es fs place ≡ Some step.Stations
among_more es fs place past lt = on (drop place fs) (some_left fs place lt)
  where
    some_left : (fs : List Entry) (k : ℕ) → k < length fs → drop k fs ≡ [] → ⊥
    some_left [] zero lt e = omega (arith, lt)
    some_left [] (suc k) lt e = omega (arith, lt)
    some_left (f ∷ fs) zero lt e = absurd cc
    some_left (f ∷ fs) (suc k) lt e = some_left fs k (omega (arith, lt)) e

    on : (ys : List Entry) → (ys ≡ [] → ⊥)
        → differing_among place (map (λ e. e.station) (drop place es)) (map (λ e. e.station) ys) ≡ Some step.Stations
    on [] some = absurd (some refl)
    on (y ∷ ys) some = ap (λ xs. differing_among place (map (λ e. e.station) xs) (map (λ e. e.station) (y ∷ ys)))
        (drop_past es place past)

-- or both end
pub among_end : (es fs : List Entry) (place : ℕ) → length es ≤ place → length fs ≤ place → among_from es fs place ≡ None
among_end es fs place past past' =
    ap₂ (λ xs ys. differing_among place (map (λ e. e.station) xs) (map (λ e. e.station) ys)) (drop_past es place past)
    (drop_past fs place past')

pub ruleset among_lemmas = (among_same, among_differs, among_fewer, among_more, among_end)

-- ---- what differs nowhere is the same
none_differs : (p : StationStep → Bool) (ks : List StationStep) → find p ks ≡ None
    → list_all (λ k. not (p k)) ks ≡ true
none_differs p [] none = refl
none_differs p (k ∷ ks) none =
    both (p k)
    (λ y. absurd (let no : Some k ≡ None = rw y at none in cc))
    (λ f. rw (f, none_differs p ks (rw f at none)))

all_are_same : (p : StationStep → Bool) (ks : List StationStep) → list_all (λ k. not (p k)) ks ≡ true
    → find p ks ≡ None
all_are_same p [] all = refl
all_are_same p (k ∷ ks) all =
    both (p k)
    (λ y. absurd (true≢false (sym (rw y at all))))
    (λ f. rw (f, all_are_same p ks (rw f at all)))

and_regroup : (a b c : Bool) → ((a && b) && c) ≡ (a && (b && c))
and_regroup true b c = refl
and_regroup false b c = refl

and_true : (a : Bool) → (a && true) ≡ a
and_true true = refl
and_true false = refl

not_not : (a : Bool) → not (not a) ≡ a
not_not true = refl
not_not false = refl

-- no key of the table differs, and the settings are the same
same_settings : (s t : Station) → list_all (λ k. not (differs s t k)) key_steps ≡ is_same_station s t
same_settings s t = simp (not_not, and_true, and_regroup)

neither : (place : ℕ) (key : Option StationStep) (further : Option Step) → step_or place key further ≡ None
    → (key ≡ None) × (further ≡ None)
neither place None further none = (refl, none)
neither place (Some key) further none = absurd cc

same_stations : (place : ℕ) (ss ts : List Station) → differing_among place ss ts ≡ None
    → are_same_stations ss ts ≡ true
same_stations place [] [] none = refl
same_stations place [] (t ∷ ts) none = absurd cc
same_stations place (s ∷ ss) [] none = absurd cc
same_stations place (s ∷ ss) (t ∷ ts) none =
    let parts = neither place (differing_key s t) (differing_among (place + 1) ss ts) none in
    ap₂ (λ x y. x && y)
    (sym (same_settings s t) ∙ none_differs (differs s t) key_steps parts.0)
    (same_stations (place + 1) ss ts parts.1)

none_among : (place : ℕ) (ss ts : List Station) → are_same_stations ss ts ≡ true → differing_among place ss ts ≡ None
none_among place [] [] same = refl
none_among place [] (t ∷ ts) same = absurd (true≢false (sym same))
none_among place (s ∷ ss) [] same = absurd (true≢false (sym same))
none_among place (s ∷ ss) (t ∷ ts) same =
    let parts = and_parts (is_same_station s t) (are_same_stations ss ts) same in
    ap₂ (step_or place)
    (all_are_same (differs s t) key_steps (same_settings s t ∙ parts.0))
    (none_among (place + 1) ss ts parts.1)

by_keys : (a b : Bool) (o : Option Step) (same : Bool) → (o ≡ None → same ≡ true) → step_by a b o ≡ None
    → (a && b && same) ≡ true
by_keys false b o same below none = absurd cc
by_keys true false o same below none = absurd cc
by_keys true true o same below none = below none

none_by_keys : (a b : Bool) (o : Option Step) (same : Bool) → (same ≡ true → o ≡ None) → (a && b && same) ≡ true
    → step_by a b o ≡ None
none_by_keys false b o same below all = absurd (true≢false (sym all))
none_by_keys true false o same below all = absurd (true≢false (sym all))
none_by_keys true true o same below all = below all

-- No key differs.
pub same_but_for_access : (a b : Config) → differing_step a b ≡ None → is_same_but_for_access a b ≡ true
same_but_for_access a b none =
    by_keys (bytes_eq a.title b.title) (a.max_connections == b.max_connections)
    (differing_among 0 (stations_of a) (stations_of b)) (are_same_stations (stations_of a) (stations_of b))
    (same_stations 0 (stations_of a) (stations_of b)) none

-- One does.
pub not_the_same : (a b : Config) (s : Step) → differing_step a b ≡ Some s → is_same_but_for_access a b ≡ true → ⊥
not_the_same a b s differs same =
    let none =
    none_by_keys (bytes_eq a.title b.title) (a.max_connections == b.max_connections)
    (differing_among 0 (stations_of a) (stations_of b)) (are_same_stations (stations_of a) (stations_of b))
    (none_among 0 (stations_of a) (stations_of b)) same in
    absurd (cc (none, differs))

pub ruleset first_lemmas = (same_but_for_access, not_the_same)
