-- What a line's command asks has the command's outcome.
use Rattle.std.proofs.Common.{◌≡◌, ℕ, false, List, Option, Some, None, refl, sym, ap, ◌∙◌}
use Rattle.protocol.specs.Catalog.{Config, Station, View, find_station}
use Rattle.protocol.specs.Pattern.{Pattern, pattern_of}
use Rattle.protocol.specs.Session.{Choice, Negotiated, choices_of, choose_station, current_choice, outcome_of, select}
use Rattle.protocol.specs.Session.{Outcome, act, select_multi}
use Rattle.protocol.specs.Session.Negotiated.{Uni, Multi}
use Rattle.protocol.specs.Command.Command.{Station as StationCommand}
use Rattle.sl_lines.specs.declared.actions.Action.{Action}
use Rattle.sl_lines.specs.declared.actions.Action.TheVariants.{Data, Fetch, Time}
use Rattle.session_state.specs.declared.session.reading.Instruction.TheVariants.{Add, Refused}
use Rattle.sl_lines.specs.CommandValues.{action_command}
use Rattle.session_state.specs.Asking.{is_bye, outcome_by}
use Rattle.session_state.specs.declared.news.AskedStation.{AskedStation}
use Rattle.session_state.specs.NewsValues.{asked_by, missed_by, missing}
use Rattle.session_state.specs.Changes.{selecting, selecting_in}
use Rattle.session_state.specs.Choices.{action_value}

-- STATION of a station that was found, or was not
pub named : (n : Negotiated) (found o : Option Station) → found ≡ o
    → choose_station (choices_of n) o ≡ choose_station (choices_of n) found
named n found o e = ap (choose_station (choices_of n)) (sym e)

pub missed-none : (o : Option Station) (asked told : AskedStation) → None ≡ o → told ≡ asked
    → missing o asked ≡ Some told
missed-none o asked told e same = ap (λ x. missing x asked) (sym e) ∙ ap Some (sym same)

pub missed-some : (o : Option Station) (s : Station) (asked : AskedStation) → Some s ≡ o → missing o asked ≡ None
missed-some o s asked e = ap (λ x. missing x asked) (sym e)

pub ruleset naming_lemmas = (named, missed-none, missed-some)

pub naming-missed : (v : View) (code : List ℕ) (network : Option (List ℕ)) (x : Option AskedStation)
    → missing (find_station v code network) (asked_by code network) ≡ x
    → missed_by v (StationCommand code network) ≡ x
naming-missed v code network x e = e

pub naming : (v : View) (n : Negotiated) (code : List ℕ) (network : Option (List ℕ)) (x : Outcome)
    → choose_station (choices_of n) (find_station v code network) ≡ x
    → outcome_of v n (StationCommand code network) ≡ x
naming v n code network x e = e

-- DATA, FETCH and TIME
pub acting : (v : View) (n : Negotiated) (action : Action)
    → outcome_of v n (action_command action) ≡ act v n (action_value action)
acting v n (Data number begin) = refl
acting v n (Fetch number begin) = refl
acting v n (Time begin last) = refl

-- None of them is BYE.
pub acting-stays : (action : Action) → is_bye (action_command action) ≡ false
acting-stays (Data number begin) = refl
acting-stays (Fetch number begin) = refl
acting-stays (Time begin last) = refl

selecting-text : (n : Negotiated) (text : List ℕ) → select n (Some text) ≡ selecting n (pattern_of text)
selecting-text (Uni ps) text = refl
selecting-text (Multi cs current) text = inside (current_choice cs current)
  where
    inside : (o : Option Choice) → select_multi cs current (Some text) o ≡ selecting_in cs current (pattern_of text) o
    inside None = refl
    inside (Some c) = refl

selecting-nothing : (config : Config) (v : View) (n : Negotiated) → selecting n None ≡ outcome_by config v n Refused
selecting-nothing config v (Uni ps) = refl
selecting-nothing config v (Multi cs current) = inside (current_choice cs current)
  where
    inside : (o : Option Choice) → selecting_in cs current None o ≡ outcome_by config v (Multi cs current) Refused
    inside None = refl
    inside (Some c) = refl

pub adding : (config : Config) (v : View) (n : Negotiated) (text : List ℕ) (p : Pattern) → pattern_of text ≡ Some p
    → select n (Some text) ≡ outcome_by config v n (Add p)
adding config v n text p e = selecting-text n text ∙ ap (selecting n) e

pub refusing : (config : Config) (v : View) (n : Negotiated) (text : List ℕ) → pattern_of text ≡ None
    → select n (Some text) ≡ outcome_by config v n Refused
refusing config v n text e = selecting-text n text ∙ ap (selecting n) e ∙ selecting-nothing config v n

-- No other command asks for a station.
pub acting-sees : (v : View) (action : Action) → missed_by v (action_command action) ≡ None
acting-sees v (Data number begin) = refl
acting-sees v (Fetch number begin) = refl
acting-sees v (Time begin last) = refl

pub ruleset asking_lemmas = (naming, naming-missed, acting, acting-stays, acting-sees)

pub ruleset selecting_lemmas = (adding, refusing)
