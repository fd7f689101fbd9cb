-- What a change of one named station is, by its settings.
use Rattle.std.proofs.Common.{◌≡◌, ◌<◌, ◌≤◌, ℕ, ◌+◌, true, false, Bool, nat_lt, List, [], ◌∷◌, ◌++◌, length, slice_get}
use Rattle.std.proofs.Common.{slice_set, Option, Some, None, unwrap_or, option_map, filter_map, cond, refl, sym, ap}
use Rattle.std.proofs.Common.{ap₂, ◌∙◌, arith, zero, suc}
use Rattle.std.specs.List.{list_any, position, position_or_len}
use Rattle.std.proofs.lemmas.List.{length-map, map-set}
use Rattle.std.proofs.lemmas.List.Sums.{sum_by-cons}
use Rattle.std.proofs.lemmas.Option.{slice_get-map}
use Rattle.protocol.specs.Catalog.{Config, Station}
use Rattle.protocol.specs.Pattern.{Pattern}
use Rattle.protocol.specs.Session.{Choice as ProtocolChoice, Wish, act_multi, choose_known, choose_station}
use Rattle.protocol.specs.Session.{current_choice, end_with, error_line, ok_line, position_of, select_multi, together}
use Rattle.protocol.specs.Session.{wish_of}
use Rattle.protocol.specs.Session.Negotiated.{Multi}
use Rattle.protocol.specs.Session.Outcome.{Stays, Starts}
use Rattle.catalog.specs.Places.{station_at}
use Rattle.sl_lines.specs.declared.actions.Action.{Action}
use Rattle.session_state.specs.declared.choices.Entry.{Entry}
use Rattle.selector.specs.Pools.{list_at}
use Rattle.session_state.specs.NamedValues.{Choice, NamedValue, begun, choice_of, choices_with}
use Rattle.session_state.specs.Choices.{action_value, choice_in, choices_in, has_action, is_of_station}
use Rattle.protocol.proofs.FoundLemmas.{both}
use Rattle.session_state.specs.Changes.{all_patterns, has_room, outcome_after, selecting_in, widened, widening}
use Rattle.session_state.proofs.NamedLemmas.{there, with-length, with-push}
use Rattle.session_state.specs.declared.negotiation.Change.{Change}

current-there : (config : Config) (cs : List Choice) (i : ℕ) (c : Choice) → slice_get cs i ≡ Some c
    → current_choice (choices_in config cs) (Some i) ≡ Some (choice_in config c)
current-there config cs i c e = slice_get-map (choice_in config) cs i ∙ ap (option_map (choice_in config)) e

-- ---- what changes of the current station lead to

pub cleared : (config : Config) (a new : NamedValue) (i : ℕ) → a.current ≡ Some i → i < length a.choices
    → ((c : Choice) → slice_get a.choices i ≡ Some c
    → new ≡ record a { choices = slice_set a.choices i (record c { patterns = [] }) })
    → Stays ok_line (Multi (choices_in config new.choices) new.current)
    ≡ select_multi (choices_in config a.choices) a.current None (current_choice (choices_in config a.choices) a.current)
cleared config a new i is_i within made =
    let c = there a.choices i within in
    ap (λ (x : NamedValue). Stays ok_line (Multi (choices_in config x.choices) x.current)) (made c.0 c.1)
    ∙ rw (is_i, current-there config a.choices i c.0 c.1)
    (ap (λ xs. Stays ok_line (Multi xs (Some i)))
    (map-set (choice_in config) a.choices i (record c.0 { patterns = [] })))

pub acted : (config : Config) (a new : NamedValue) (i : ℕ) (action : Action) → a.current ≡ Some i → i < length a.choices
    → ((c : Choice) → slice_get a.choices i ≡ Some c
    → new ≡ record a { choices = slice_set a.choices i (record c { action = Some action }) })
    → Stays ok_line (Multi (choices_in config new.choices) new.current)
    ≡ act_multi (choices_in config a.choices) a.current (action_value action)
    (current_choice (choices_in config a.choices) a.current)
acted config a new i action is_i within made =
    let c = there a.choices i within in
    ap (λ (x : NamedValue). Stays ok_line (Multi (choices_in config x.choices) x.current)) (made c.0 c.1)
    ∙ rw (is_i, current-there config a.choices i c.0 c.1)
    (ap (λ xs. Stays ok_line (Multi xs (Some i)))
    (map-set (choice_in config) a.choices i (record c.0 { action = Some action })))

set-there : {X : Type 0} (xs : List X) (i : ℕ) (x : X) → slice_get xs i ≡ Some x → slice_set xs i x ≡ xs
set-there [] i x e = refl
set-there (y ∷ xs) zero x e = ap (λ o. unwrap_or o x ∷ xs) (sym e)
set-there (y ∷ xs) (suc i) x e = ap (λ zs. y ∷ zs) (set-there xs i x e)

-- the patterns of all stations are the patterns of their settings
pub all-in : (config : Config) (cs : List Choice) → together (choices_in config cs) ≡ all_patterns cs
all-in config [] = refl
all-in config (c ∷ cs) =
    sum_by-cons (λ x. length x.patterns) (choice_in config c) (choices_in config cs)
    ∙ ap (λ n. length c.patterns + n) (all-in config cs)
    ∙ sym (sum_by-cons (λ x. length x.patterns) c cs)

pub added : (config : Config) (a new : NamedValue) (i : ℕ) (p : Pattern) (change : Change) → a.current ≡ Some i
    → i < length a.choices
    → ((c : Choice) → slice_get a.choices i ≡ Some c
    → new
    ≡ record a {
      choices =
          slice_set a.choices i (record c { patterns = widened (all_patterns a.choices) c.patterns p });
    })
    → ((c : Choice) → slice_get a.choices i ≡ Some c → change ≡ widening (all_patterns a.choices) c.patterns)
    → outcome_after change (Multi (choices_in config new.choices) new.current)
    ≡ selecting_in (choices_in config a.choices) a.current (Some p)
    (current_choice (choices_in config a.choices) a.current)
added config a new i p change is_i within made led =
    let c = there a.choices i within in
    let here : slice_get (choices_in config a.choices) i
    ≡ Some (choice_in config c.0) = current-there config a.choices i c.0 c.1 in
    ap (λ (x : NamedValue). outcome_after change (Multi (choices_in config x.choices) x.current)) (made c.0 c.1)
    ∙ rw (is_i, current-there config a.choices i c.0 c.1, led c.0 c.1, all-in config a.choices)
    (both (has_room (all_patterns a.choices) (c.0).patterns)
    (λ y. rw y
    (ap (λ xs. Stays ok_line (Multi xs (Some i)))
    (map-set (choice_in config) a.choices i (record c.0 { patterns = (c.0).patterns ++ p ∷ [] }))))
    (λ n. rw n
    (ap (λ xs. Stays error_line (Multi xs (Some i))) (map-set (choice_in config) a.choices i c.0
    ∙ set-there (choices_in config a.choices) i (choice_in config c.0) here))))

-- ---- a station that is named anew

choices-more : (config : Config) (cs ds : List Choice)
    → choices_in config (cs ++ ds) ≡ choices_in config cs ++ choices_in config ds
choices-more config [] ds = refl
choices-more config (c ∷ cs) ds = ap (λ xs. choice_in config c ∷ xs) (choices-more config cs ds)

pub full : (config : Config) (s : Station) (es : List Entry) (lists : List (List Pattern)) (n : NamedValue)
    → choices_with es lists ≡ n.choices → 255 ≤ length es
    → Stays error_line (Multi (choices_in config (choices_with es lists)) None)
    ≡ choose_known s (choices_in config n.choices) None
full config s es lists n view h =
    let long : length (choices_in config n.choices) ≡ length es =
    length-map n.choices (choice_in config) ∙ ap length (sym view)
    ∙ with-length es lists in
    let no : nat_lt (length (choices_in config n.choices)) 255 ≡ false = grind (arith, long, h) in
    rw no (ap (λ cs. Stays error_line (Multi (choices_in config cs) None)) view)

pub anew : (config : Config) (place count : ℕ) (es new : List Entry) (lists : List (List Pattern)) (n : NamedValue)
    → choices_with es lists ≡ n.choices → list_at lists (length es) ≡ [] → count ≡ length es → count < 255
    → new ≡ es ++ begun place None ∷ []
    → Stays ok_line (Multi (choices_in config (choices_with new lists)) (Some count))
    ≡ choose_known (station_at config.entries place) (choices_in config n.choices) None
anew config place count es new lists n view none is_count h made =
    let long : length (choices_in config n.choices) ≡ count =
    length-map n.choices (choice_in config) ∙ ap length (sym view)
    ∙ with-length es lists ∙ sym is_count in
    let yes : nat_lt (length (choices_in config n.choices)) 255 ≡ true = grind (arith, long, h) in
    let more : choices_with new lists
    ≡ n.choices ++ choice_of (begun place None) [] ∷ [] = ap (λ xs. choices_with xs lists) made
    ∙ with-push es lists (begun place None) ∙ ap₂ (λ xs l. xs ++ choice_of (begun place None) l ∷ []) view none in
    rw (
      yes,
      long,
    )
    (ap (λ cs. Stays ok_line (Multi cs (Some count)))
    (ap (choices_in config) more ∙ choices-more config n.choices (choice_of (begun place None) [] ∷ [])))

abbrev some_wish : List Wish → Bool
some_wish [] = false
some_wish (w ∷ ws) = true

wishes-asked : (config : Config) (cs : List Choice)
    → list_any has_action cs ≡ some_wish (filter_map wish_of (choices_in config cs))
wishes-asked config [] = refl
wishes-asked config (c ∷ cs) = step (wishes-asked config cs) c.action
  where
    step : list_any has_action cs ≡ some_wish (filter_map wish_of (choices_in config cs)) → (o : Option Action)
        → list_any has_action (record c { action = o } ∷ cs)
        ≡ some_wish (filter_map wish_of (choices_in config (record c { action = o } ∷ cs)))
    step rest None = rest
    step rest (Some a) = refl

ends-with : (cs : List ProtocolChoice) (current : Option ℕ) (ws : List Wish)
    → (some_wish ws ≡ true → Starts ws ≡ end_with cs current ws)
    × (some_wish ws ≡ false → Stays error_line (Multi cs current) ≡ end_with cs current ws)
ends-with cs current [] = (λ t. absurd (grind arith), λ f. refl)
ends-with cs current (w ∷ ws) = (λ t. refl, λ f. absurd (grind arith))

pub finished : (config : Config) (cs : List Choice) (current : Option ℕ) → list_any has_action cs ≡ true
    → Starts (filter_map wish_of (choices_in config cs))
    ≡ end_with (choices_in config cs) current (filter_map wish_of (choices_in config cs))
finished config cs current e =
    (ends-with (choices_in config cs) current (filter_map wish_of (choices_in config cs))).0
    (sym (wishes-asked config cs) ∙ e)

pub unfinished : (config : Config) (cs : List Choice) (current : Option ℕ) → list_any has_action cs ≡ false
    → Stays error_line (Multi (choices_in config cs) current)
    ≡ end_with (choices_in config cs) current (filter_map wish_of (choices_in config cs))
unfinished config cs current e =
    (ends-with (choices_in config cs) current (filter_map wish_of (choices_in config cs))).1
    (sym (wishes-asked config cs) ∙ e)

-- the place of a station among those named, counted from i on
abbrev place-from : Config → Station → List Choice → ℕ → ℕ → Option ℕ
place-from config s cs i at = cond (nat_lt at (length cs)) (Some (i + at)) None

found-at : (config : Config) (s : Station) (cs : List Choice) (i : ℕ)
    → position_of s (choices_in config cs) i ≡ place-from config s cs i (position_or_len (is_of_station config s) cs)
found-at config s [] i = refl
found-at config s (c ∷ cs) i =
    let here : Some i ≡ Some (i + 0) = grind arith in
    let moved : (at : ℕ) → place-from config s cs (i + 1) at
    ≡ place-from config s (c ∷ cs) i (1 + at) =
    λ at. both (nat_lt at (length cs))
    (λ y. let z : nat_lt (1 + at) (suc (length cs)) ≡ true = grind arith in let k : i + 1 + at ≡ i + (1 + at) =
    omega arith in rw (y, z) (ap (λ n. Some n) k))
    (λ y. let z : nat_lt (1 + at) (suc (length cs)) ≡ false = grind arith in rw (y, z) refl) in
    let first : nat_lt 0 (suc (length cs)) ≡ true = grind arith in
    both (is_of_station config s c) (λ y. rw (y, first) here)
    (λ n. rw n (found-at config s cs (i + 1) ∙ moved (position_or_len (is_of_station config s) cs)))

pub position-named : (config : Config) (s : Station) (cs : List Choice) (i : Option ℕ)
    → i ≡ position (is_of_station config s) cs → position_of s (choices_in config cs) 0 ≡ i
position-named config s cs i e =
    let same : place-from config s cs 0 (position_or_len (is_of_station config s) cs)
    ≡ position (is_of_station config s) cs =
    ap (λ n. cond (nat_lt (position_or_len (is_of_station config s) cs) (length cs)) (Some n) None)
    (zero-plus (position_or_len (is_of_station config s) cs)) in
    found-at config s cs 0 ∙ same ∙ sym e
  where
    zero-plus : (n : ℕ) → 0 + n ≡ n
    zero-plus n = omega arith

pub named-again : (config : Config) (a n : NamedValue) (place i : ℕ)
    → Some i ≡ position (is_of_station config (station_at config.entries place)) a.choices
    → n ≡ record a { current = Some i }
    → Stays ok_line (Multi (choices_in config n.choices) n.current)
    ≡ choose_station (choices_in config a.choices) (Some (station_at config.entries place))
named-again config a n place i e set_ =
    ap (λ (x : NamedValue). Stays ok_line (Multi (choices_in config x.choices) x.current)) set_
    ∙ sym
    (ap (choose_known (station_at config.entries place) (choices_in config a.choices))
    (position-named config (station_at config.entries place) a.choices (Some i) e))

pub named-anew : (config : Config) (cs : List Choice) (place : ℕ)
    → None ≡ position (is_of_station config (station_at config.entries place)) cs
    → choose_known (station_at config.entries place) (choices_in config cs) None
    ≡ choose_station (choices_in config cs) (Some (station_at config.entries place))
named-anew config cs place e = rw (position-named config (station_at config.entries place) cs None e) refl

pub ruleset naming_lemmas = (named-again, named-anew)
