-- A run so far.
use Rattle.std.proofs.Common.{◌≡◌, ℕ, List, [], ◌∷◌, ◌++◌, refl, sym, ap, ◌∙◌, append_assoc, append-nil, drop-cons}
use Rattle.std.proofs.Common.{add-one, ◌+◌, ◌-◌, ◌^◌, ◌<◌, ◌≤◌, suc, map, drop, get_or, length, length-append, Option}
use Rattle.std.proofs.Common.{Some, None, arith}
use Rattle.std.proofs.lemmas.List.{length-map}
use Rattle.protocol.specs.Catalog.{Config}
use Rattle.protocol.specs.World.{Event, Handed, World, config_by, step, handed_from, handed, empty_world, accepted}
use Rattle.protocol.specs.World.{arrived}
use Rattle.protocol.specs.History.{Arrival}
use Rattle.protocol.specs.World.Event.{Open, Bytes, Take, Close, Arrive, Reload}
use Rattle.server_core.specs.ServerValues.{ServerValue, StandsAt}
use Rattle.server_core.specs.Runs.{handed_by, event_value}
use Rattle.server_core.specs.declared.events.Event.{Event as RunEvent}

-- The server stands for a world from which what is left hands what is still to be handed, under the configuration in
-- force. No more records arrived than there were events.
pub record GoesWell (config : Config) (server : ServerValue) (so_far : List Handed)
    (all left : List Event) : Type 0 where
  pub in_force : Config
  pub world : World
  pub few : length world.history + length left ≤ length all
  pub stands : StandsAt server in_force world
  pub told : so_far ++ handed_from in_force world left ≡ handed config all

pub handed_from-cons : (config : Config) (w : World) (e : Event) (es : List Event)
    → handed_from config w (e ∷ es) ≡ handed_by w e ++ handed_from (config_by config e) (step config w e) es
handed_from-cons config w (Open a) es = refl
handed_from-cons config w (Bytes k bytes) es = refl
handed_from-cons config w (Take k n) es = refl
handed_from-cons config w (Close k) es = refl
handed_from-cons config w (Arrive r) es = refl
handed_from-cons config w (Reload new) es = refl

-- At most one record arrives by an event.
history-grows : (config : Config) (w : World) (e : Event) → length (step config w e).history ≤ length w.history + 1
history-grows config w (Open a) = omega arith
history-grows config w (Bytes k bytes) = omega arith
history-grows config w (Take k n) = omega arith
history-grows config w (Close k) = omega arith
history-grows config w (Reload new) = omega arith
history-grows config w (Arrive r) = by (accepted config r)
  where
    by : (o : Option Arrival) → length (arrived w.history o) ≤ length w.history + 1
    by None = omega arith
    by (Some a) = let more : length (w.history ++ a ∷ []) ≡ length w.history + 1 =
        length-append w.history (a ∷ []) in omega (arith, more)

pub goes-on-well : (config : Config) (server next : ServerValue) (so_far now : List Handed) (all : List Event)
    (e : Event) (es : List Event) → length all < 2 ^ 64
    → ((c : Config) (w : World) → length w.history < 2 ^ 64 - 1 → StandsAt server c w
    → StandsAt next (config_by c e) (step c w e))
    → ((c : Config) (w : World) → StandsAt server c w → now ≡ so_far ++ handed_by w e)
    → GoesWell config server so_far all (e ∷ es) → GoesWell config next now all es
goes-on-well config server next so_far now all e es countable stands told well =
    let grows = history-grows well.in_force well.world e in
    let few = well.few in
    record {
      in_force = config_by well.in_force e;
      world = step well.in_force well.world e;
      few = omega (arith, grows, few);
      stands = stands well.in_force well.world (omega (arith, few, countable)) well.stands;
      told =
          ap (λ xs. xs ++ handed_from (config_by well.in_force e) (step well.in_force well.world e) es)
          (told well.in_force well.world well.stands)
          ∙ append_assoc so_far (handed_by well.world e)
          (handed_from (config_by well.in_force e) (step well.in_force well.world e) es)
          ∙ ap (λ xs. so_far ++ xs) (sym (handed_from-cons well.in_force well.world e es))
          ∙ well.told;
    }

pub starts-well : (config : Config) (server : ServerValue) (all : List Event) → StandsAt server config empty_world
    → GoesWell config server [] all all
starts-well config server all stands =
    record { in_force = config; world = empty_world; few = omega arith; stands = stands; told = refl }

pub next-event : (es : List RunEvent) (i : ℕ) (x : RunEvent) → i < length es → x ≡ get_or es i x
    → map event_value (drop i es) ≡ event_value x ∷ map event_value (drop (i + 1) es)
next-event es i x lt is =
    ap (map event_value) (drop-cons es i x lt ∙ ap (λ y. y ∷ drop (suc i) es) (sym is))
    ∙ ap (λ n. event_value x ∷ map event_value (drop n es)) (sym (add-one i))

-- A list that is counted has no more events than a number of 64 bits can count.
pub few-events : (es : List RunEvent) (count : ℕ) → count ≡ length es → count < 2 ^ 64
    → length (map event_value es) < 2 ^ 64
few-events es count is small = let same : length (map event_value es) ≡ length es =
    length-map es event_value in omega (arith, is, small, same)

pub ends-well : (config : Config) (server : ServerValue) (so_far : List Handed) (all left : List Event) → left ≡ []
    → GoesWell config server so_far all left → so_far ≡ handed config all
ends-well config server so_far all left none well =
    sym (append-nil so_far) ∙ ap (λ ls. so_far ++ handed_from well.in_force well.world ls) (sym none) ∙ well.told

pub ruleset run_lemmas = (goes-on-well, starts-well)
