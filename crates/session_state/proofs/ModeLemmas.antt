-- Uni-station mode, in which one station keeps the patterns.
use Rattle.std.proofs.Common.{◌≡◌, ℕ, Bool, false, List, [], ◌∷◌, slice_get, slice_set, filter_map, Some, None}
use Rattle.std.proofs.Common.{unwrap_or, refl, ap, ◌∙◌}
use Rattle.protocol.specs.Catalog.{Config}
use Rattle.protocol.specs.Session.{act, ok_line, select, wish_of}
use Rattle.protocol.specs.Session.Outcome.{Stays, Starts}
use Rattle.catalog.specs.Places.{view_in, Seen}
use Rattle.sl_lines.specs.declared.actions.Action.{Action}
use Rattle.session_state.specs.NamedValues.{Choice, NamedValue, IsAlone, begun, choice_of, mode_of}
use Rattle.session_state.specs.Choices.{action_value, choices_in, negotiated_in}

-- a change of it
changed : (n new : NamedValue) (f : Choice → Choice) (is : IsAlone n)
    → ((c : Choice) → slice_get n.choices 0 ≡ Some c → new ≡ record n { choices = slice_set n.choices 0 (f c) })
    → new.choices ≡ f is.choice ∷ []
changed n new f is made =
    ap (λ (x : NamedValue). x.choices) (made is.choice (ap (λ cs. slice_get cs 0) is.alone))
    ∙ ap (λ cs. slice_set cs 0 (f is.choice)) is.alone

pub alone-changed : (n new : NamedValue) (f : Choice → Choice) → IsAlone n
    → ((c : Choice) → slice_get n.choices 0 ≡ Some c → new ≡ record n { choices = slice_set n.choices 0 (f c) })
    → IsAlone new
alone-changed n new f is made = record { choice = f is.choice; alone = changed n new f is made }

-- SELECT without a pattern
pub alone-cleared : (config : Config) (b : Bool) (n new : NamedValue) → b ≡ false → IsAlone n
    → ((c : Choice) → slice_get n.choices 0 ≡ Some c
    → new ≡ record n { choices = slice_set n.choices 0 (record c { patterns = [] }) })
    → Stays ok_line (negotiated_in config (mode_of b new)) ≡ select (negotiated_in config (mode_of b n)) None
alone-cleared config b n new uni is made =
    let none : new.choices ≡ record is.choice { patterns = [] }
    ∷ [] = changed n new (λ c. record c { patterns = [] }) is made in
    rw (uni, none) refl

-- DATA, FETCH and TIME
alone-among : (config : Config) (b : Bool) (n new : NamedValue) (places order : List ℕ) (place : ℕ) (action : Action)
    → b ≡ false → IsAlone n → slice_get places 0 ≡ Some place
    → ((c : Choice) → slice_get n.choices 0 ≡ Some c
    → new ≡ record { choices = choice_of (begun place (Some action)) c.patterns ∷ []; current = None })
    → Starts (filter_map wish_of (choices_in config new.choices))
    ≡ act (view_in config (record { places = places; by_codes = order })) (negotiated_in config (mode_of b n))
    (action_value action)
alone-among config b n new [] order place action uni is first made = absurd cc
alone-among config b n new (p ∷ places) order place action uni is first made =
    let same : p ≡ place = ap (λ o. unwrap_or o p) first in
    rw (
      uni,
      is.alone,
      same,
    )
    (ap (λ (x : NamedValue). Starts (filter_map wish_of (choices_in config x.choices)))
    (made is.choice (ap (λ cs. slice_get cs 0) is.alone)))

pub alone-acted : (config : Config) (b : Bool) (n new : NamedValue) (seen : Seen) (place : ℕ) (action : Action)
    → b ≡ false → IsAlone n → slice_get seen.places 0 ≡ Some place
    → ((c : Choice) → slice_get n.choices 0 ≡ Some c
    → new ≡ record { choices = choice_of (begun place (Some action)) c.patterns ∷ []; current = None })
    → Starts (filter_map wish_of (choices_in config new.choices))
    ≡ act (view_in config seen) (negotiated_in config (mode_of b n)) (action_value action)
alone-acted config b n new seen = alone-among config b n new seen.places seen.by_codes
