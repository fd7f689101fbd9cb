-- What one request wants of a ring.
use Rattle.std.proofs.Common.{◌≡◌, ℕ, Bool, true, false, ◌&&◌, ◌||◌, nat_le, List, [], ◌∷◌, drop, Some, None}
use Rattle.std.proofs.Common.{option_map, refl, sym, ap, ◌∙◌}
use Rattle.std.specs.Prelude.{find}
use Rattle.std.specs.List.{list_any}
use Rattle.protocol.specs.Record.{Facts}
use Rattle.protocol.specs.Catalog.{Config, Station}
use Rattle.protocol.specs.History.{Arrival, Request, first_position, next, holds_and_wants, is_held, is_of}
use Rattle.protocol.specs.History.{is_in_window, Action as ProtocolAction}
use Rattle.protocol.specs.History.Action.{Data as DataAction, Fetch as FetchAction, Time as TimeAction}
use Rattle.protocol.specs.Pattern.{passes}
use Rattle.catalog.specs.Places.{station_at}
use Rattle.station_ring.specs.declared.held.Held.{Held}
use Rattle.station_ring.specs.HeldRecords.{held_of, ring_of, summary_of}
use Rattle.sl_lines.specs.declared.actions.Action.{Action}
use Rattle.session_state.specs.NamedValues.{Choice}
use Rattle.session_state.specs.Choices.{action_value}
use Rattle.transfer.specs.Wanting.{facts_of, is_in_window_of, wants_held}
use Rattle.transfer.proofs.PositionLemmas.{same_first, first_from}

-- What is in a window is so by its start and end.
in-window : (a : ProtocolAction) (x : Facts) → is_in_window a (facts_of (summary_of x)) ≡ is_in_window a x
in-window (DataAction n None) x = refl
in-window (DataAction n (Some begin)) x = refl
in-window (FetchAction n None) x = refl
in-window (FetchAction n (Some begin)) x = refl
in-window (TimeAction None None) x = refl
in-window (TimeAction None (Some last)) x = refl
in-window (TimeAction (Some begin) None) x = refl
in-window (TimeAction (Some begin) (Some last)) x = refl

-- the order in which it is asked whether an arrival is of the station, held, late enough, and wanted, doesn't matter
any-order : (late of_it few from passing window : Bool)
    → (late && ((of_it && few) && (((of_it && from) && passing) && window)))
    ≡ ((of_it && few) && (late && (from && (passing && window))))
any-order true true true true true window = refl
any-order true true true true false window = refl
any-order true true true false passing window = refl
any-order true true false from passing window = refl
any-order true false few from passing window = refl
any-order false true true from passing window = refl
any-order false true false from passing window = refl
any-order false false few from passing window = refl

-- the request of a named station of which something is asked
abbrev pub request_for : Config → Choice → Action → Request
request_for config c action = record {
  station = station_at config.entries c.station;
  patterns = c.patterns;
  action = action_value action;
  from = c.first;
}

or-false : (b : Bool) → (b || false) ≡ b
or-false true = refl
or-false false = refl

-- What comes next for one request is, of what is held of its station, the first that it wants.
pub next-one : (config : Config) (c : Choice) (action : Action) (h : List Arrival) (q : ℕ) → c.action ≡ Some action
    → ((test : ℕ → Arrival → Bool) (on_held : Held → Bool) → ((p : ℕ) (a : Arrival) → test p a ≡ on_held (held_of p a))
    → first_position (λ p later a. is_held (station_at config.entries c.station) later a && test p a) 0 h
    ≡ option_map (λ x. x.stamp) (find on_held (ring_of (station_at config.entries c.station) h).held))
    → next h (request_for config c action ∷ []) q
    ≡ option_map (λ x. x.stamp) (find (wants_held c q) (ring_of (station_at config.entries c.station) h).held)
next-one config c action h q asked in_ring =
    let s : Station = station_at config.entries c.station in
    let r : Request = request_for config c action in
    same_first (λ p later a. list_any (holds_and_wants p later a) (r ∷ [])) (λ p later a. holds_and_wants p later a r)
    (λ p later a. or-false (holds_and_wants p later a r)) q (drop q h)
    ∙ first_from (λ p later a. holds_and_wants p later a r) q h
    ∙ same_first (λ p later a. nat_le q p && holds_and_wants p later a r)
    (λ p later a. is_held s later a && wants_held c q (held_of p a))
    (λ p later a. any-order (nat_le q p) (is_of s a) _ (nat_le c.first p) (passes c.patterns a.facts)
    (is_in_window (action_value action) a.facts)
    ∙ ap (λ b. is_held s later a && (nat_le q p && (nat_le c.first p && (passes c.patterns a.facts && b))))
    (sym (ap (λ o. is_in_window_of o (facts_of (summary_of a.facts))) asked
    ∙ in-window (action_value action) a.facts))) 0 h
    ∙ in_ring (λ p a. wants_held c q (held_of p a)) (wants_held c q) (λ p a. refl)
