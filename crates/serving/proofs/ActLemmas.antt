-- What acts do, one after the other.
use Rattle.std.proofs.Common.{◌≡◌, ℕ, List, [], ◌∷◌, ◌++◌, flat_map, sym, ap, ap₂, subst, ◌∙◌, append_assoc}
use Rattle.std.proofs.Common.{append-nil, Option}
use Rattle.std.proofs.lemmas.Grind.{flat_map-append}
use Rattle.protocol.specs.Catalog.{Config}
use Rattle.protocol.specs.World.{Event, World, config_after, world_from, empty_world}
use Rattle.protocol.specs.World.Event.{Reload}
use Rattle.protocol.specs.Client.{Taken}
use Rattle.protocol.specs.Alone.{alone, own_view, seen}
use Rattle.protocol.proofs.AloneLemmas.{goes-on}
use Rattle.protocol.proofs.Connections.{config_after-append, world_from-append}
use Rattle.ports.specs.Calls.{Call, Tells}
use Rattle.event_loop.specs.Deeds.{Deed, calls_in, events_in, taken_in, world_beyond}
use Rattle.event_loop.specs.Turns.{HandsAsAlone, bytes_alone}
use Rattle.event_loop.proofs.DeedLemmas.{deeds-keep, Tells-trans}
use Rattle.serving.specs.Acts.{Act, act_calls, all_calls, act_events, act_taken, all_events, all_taken, config_then}
use Rattle.serving.specs.Acts.{world_then, HandsThroughout}
use Rattle.serving.specs.Acts.Act.{Turning, Reloading}

events-append : (xs ys : List Act) → all_events (xs ++ ys) ≡ all_events xs ++ all_events ys
events-append xs ys = flat_map-append act_events xs ys

taken-append : (k : ℕ) (xs ys : List Act) → all_taken k (xs ++ ys) ≡ all_taken k xs ++ all_taken k ys
taken-append k xs ys = flat_map-append (act_taken k) xs ys

pub config-append : (config : Config) (xs ys : List Act)
    → config_then config (xs ++ ys) ≡ config_then (config_then config xs) ys
config-append config xs ys = ap (config_after config) (events-append xs ys)
    ∙ config_after-append config (all_events xs) (all_events ys)

pub world-append : (config : Config) (w : World) (xs ys : List Act)
    → world_then config w (xs ++ ys) ≡ world_then (config_then config xs) (world_then config w xs) ys
world-append config w xs ys = ap (world_from config w) (events-append xs ys)
    ∙ world_from-append config w (all_events xs) (all_events ys)

-- one turn
one-turn-events : (ds : List Deed) → all_events (Turning ds ∷ []) ≡ events_in ds
one-turn-events ds = append-nil (events_in ds)

pub config-turning : (config : Config) (ds : List Deed) → config_then config (Turning ds ∷ []) ≡ config
config-turning config ds = ap (config_after config) (one-turn-events ds) ∙ deeds-keep config ds

pub world-turning : (config : Config) (w : World) (ds : List Deed)
    → world_then config w (Turning ds ∷ []) ≡ world_beyond config w ds
world-turning config w ds = ap (world_from config w) (one-turn-events ds)

-- ---- what is called

calls-append : (xs ys : List Act) → all_calls (xs ++ ys) ≡ all_calls xs ++ all_calls ys
calls-append xs ys = flat_map-append act_calls xs ys

-- a turn more
pub tells-turning : (a b c : Option (List Call)) (acts : List Act) (ds : List Deed) → Tells a b (all_calls acts) →
    Tells b c (calls_in ds) → Tells a c (all_calls (acts ++ Turning ds ∷ []))
tells-turning a b c acts ds p q =
    subst (Tells a c)
    (sym (calls-append acts (Turning ds ∷ []) ∙ ap (λ l. all_calls acts ++ l) (append-nil (calls_in ds))))
    (Tells-trans a b c (all_calls acts) (calls_in ds) p q)

-- acts that call nothing
pub tells-silent : (a b c : Option (List Call)) (acts more : List Act) → all_calls more ≡ [] → c ≡ b →
    Tells a b (all_calls acts) → Tells a c (all_calls (acts ++ more))
tells-silent a b c acts more none same p =
    subst (λ x. Tells a x (all_calls (acts ++ more))) (sym same)
    (subst (Tells a b)
    (sym (calls-append acts more ∙ ap (λ l. all_calls acts ++ l) none ∙ append-nil (all_calls acts))) p)

-- ---- what is handed

abbrev bytes_of : List Taken → List ℕ
bytes_of ts = flat_map (λ t. t.bytes) ts

pub hands-nothing : (config : Config) (w : World) → HandsThroughout config w []
hands-nothing config w first h in_force there k =
    ap (λ l. bytes_alone first l k) (append-nil h) ∙ sym (append-nil (bytes_alone first h k))

pub hands-turning : (config : Config) (w : World) (ds : List Deed) → HandsAsAlone config w ds
    → HandsThroughout config w (Turning ds ∷ [])
hands-turning config w ds hands first h in_force there k =
    ap (λ l. bytes_alone first (h ++ l) k) (one-turn-events ds)
    ∙ hands first h in_force there k
    ∙ ap (λ l. bytes_alone first h k ++ l) (sym (append-nil (taken_in k ds)))

-- A reload hands no byte.
pub hands-reloading : (config : Config) (w : World) (new : Config) → HandsThroughout config w (Reloading new ∷ [])
hands-reloading config w new first h in_force there k =
    ap bytes_of (goes-on first h (Reload new ∷ []) k)
    ∙ flat_map-append (λ t. t.bytes) (alone (own_view first h k) (seen first h k)) []

pub hands-then : (config : Config) (w : World) (xs ys : List Act) → HandsThroughout config w xs
    → HandsThroughout (config_then config xs) (world_then config w xs) ys → HandsThroughout config w (xs ++ ys)
hands-then config w xs ys p q first h in_force there k =
    let a : List Event = all_events xs in
    let b : List Event = all_events ys in
    ap (λ l. bytes_alone first (h ++ l) k) (events-append xs ys)
    ∙ ap (λ l. bytes_alone first l k) (sym (append_assoc h a b))
    ∙ q first (h ++ a)
    (config_after-append first h a ∙ ap (λ c. config_after c a) in_force)
    (world_from-append first empty_world h a ∙ ap₂ (λ (c : Config) (v : World). world_from c v a) in_force there) k
    ∙ ap (λ l. l ++ all_taken k ys) (p first h in_force there k)
    ∙ append_assoc (bytes_alone first h k) (all_taken k xs) (all_taken k ys)
    ∙ ap (λ l. bytes_alone first h k ++ l) (sym (taken-append k xs ys))
