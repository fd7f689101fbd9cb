-- What one client of many is handed is what a client alone is handed.
use Rattle.std.proofs.Common.{◌≡◌, ℕ, zero, suc, ◌+◌, Bool, true, false, ◌&&◌, not, List, [], ◌∷◌, ◌++◌, length, filter}
use Rattle.std.proofs.Common.{map, Option, Some, None, option_map, slice_get, is_some, ◌==◌, eqb-true, refl, sym, ap}
use Rattle.std.proofs.Common.{◌∙◌, subst, ap₂, arith, length-append, append-nil}
use Rattle.std.specs.Prelude.{if◌then◌else◌, ⊤}
use Rattle.std.specs.List.{list_any}
use Rattle.std.proofs.lemmas.Bool.{eqb-false}
use Rattle.std.proofs.lemmas.List.{map-append}
use Rattle.std.proofs.lemmas.List.Elements.{filter-append}
use Rattle.protocol.specs.Catalog.{Config, Station, View, view_of, has_codes, is_same_view, is_same_but_for_access}
use Rattle.protocol.specs.History.{Arrival}
use Rattle.protocol.specs.Client.{Client, Taken, received, offered, cut, after_take}
use Rattle.protocol.specs.World.{Event, Handed, Connection, World, config_after, world_after, empty_world, accepted}
use Rattle.protocol.specs.World.{arrived, opened, changed, closed, reviewed, at, client_of, taken_by, handed_from}
use Rattle.protocol.specs.World.{handed}
use Rattle.protocol.specs.World.Event.{Open, Bytes, Take, Close, Arrive, Reload}
use Rattle.protocol.specs.Alone.{OwnEvent, Lone, with_client, own_step, alone_from, alone, address_of, own_view}
use Rattle.protocol.specs.Alone.{is_visible, cons_if, cons_visible, has_view, seen_from, seen, handed_to}
use Rattle.protocol.specs.Alone.OwnEvent.{OwnBytes, OwnTake, OwnClose, OwnCut}
use Rattle.protocol.proofs.FoundLemmas.{both, IsShown}
use Rattle.protocol.proofs.Requests.{Each}
use Rattle.protocol.proofs.Clients.{moved_client, IsGoodState, Follows, received_follows, offered_follows}
use Rattle.protocol.proofs.Clients.{after_take_follows, taken_of-moved, moved_state_more, good_state_more}
use Rattle.protocol.proofs.Connections.{length-at, slice_get-at_apart, slice_get-at_here, slice_get-push_here}
use Rattle.protocol.proofs.Connections.{slice_get-length, slice_get-push_apart, slice_get-each, length-each}
use Rattle.protocol.proofs.Connections.{there_below, handed_from-append}

-- The arrivals of a view's stations are visible.
shown_by : (ss all : List Station)
    → ((a : Arrival) → list_any (λ s. has_codes a.facts.network a.facts.station s) ss ≡ true
    → list_any (λ s. has_codes a.facts.network a.facts.station s) all ≡ true)
    → Each (IsShown (λ a. list_any (λ s. has_codes a.facts.network a.facts.station s) all)) ss
shown_by [] all among = tt
shown_by (s ∷ ss) all among = (
  λ a e. among a (rw e),
  shown_by ss all (λ a e. among a (both (has_codes a.facts.network a.facts.station s) (λ y. rw y) (λ n. rw n e))),
)

pub all_shown : (v : View) → Each (IsShown (is_visible v)) v.stations
all_shown v = shown_by v.stations v.stations (λ a e. e)

module _ (v : View) (from : Option ℕ) where
  -- the client alone that a connection is, where there is one
  abbrev pub lone_with : List Arrival → Option Connection → Lone
  lone_with h x =
      record {
        history = filter (is_visible v) h;
        opened = is_some x;
        client = option_map (moved_client (is_visible v) h) (client_of x);
      }

  abbrev pub IsGoodClient : List Arrival → Option Client → Type 0
  IsGoodClient h None = ⊤
  IsGoodClient h (Some c) = IsGoodState (is_visible v) h c.state

  abbrev pub IsGoodConnection : List Arrival → Option Connection → Type 0
  IsGoodConnection h None = ⊤
  IsGoodConnection h (Some x) = (x.view ≡ v) × IsGoodClient h x.client × (from ≡ Some x.address)

  -- what is done to the one is done to the other
  abbrev Keeps : List Arrival → (View → Client → Client) → (Client → Client) → Type 0
  Keeps h f f' = (c : Client) → IsGoodState (is_visible v) h c.state
      → Follows (is_visible v) h (f' (moved_client (is_visible v) h c)) (f v c)

  changed_client : (h : List Arrival) (f : View → Client → Client) (f' : Client → Client) → Keeps h f f'
      → (c : Option Client) → IsGoodClient h c
      → (option_map (moved_client (is_visible v) h) (option_map (f v) c)
      ≡ option_map f' (option_map (moved_client (is_visible v) h) c)) × IsGoodClient h (option_map (f v) c)
  changed_client h f f' keeps None good = (refl, tt)
  changed_client h f f' keeps (Some c) good =
      (ap {B = Option Client} Some (sym (keeps c good).same), (keeps c good).good)

  changed_lone : (h : List Arrival) (f : View → Client → Client) (f' : Client → Client) → Keeps h f f'
      → (x : Option Connection) → IsGoodConnection h x
      → (lone_with h (option_map (changed f) x) ≡ with_client (lone_with h x) f')
      × IsGoodConnection h (option_map (changed f) x)
  changed_lone h f f' keeps None good = (refl, tt)
  changed_lone h f f' keeps (Some x) good =
      let both_parts = changed_client h f f' keeps x.client good.1 in
      (rw (good.0, both_parts.0), (good.0, rw good.0 both_parts.1, good.2))

  closed_lone : (h : List Arrival) (x : Option Connection) → IsGoodConnection h x
      → (lone_with h (option_map closed x) ≡ record (lone_with h x) { client = None })
      × IsGoodConnection h (option_map closed x)
  closed_lone h None good = (refl, tt)
  closed_lone h (Some x) good = (refl, (good.0, tt, good.2))

  cut_good : (h : List Arrival) (c : Option Client) → IsGoodClient h (option_map cut c)
  cut_good h None = tt
  cut_good h (Some c) = tt

  cut_client : (h : List Arrival) (c : Option Client)
      → option_map (moved_client (is_visible v) h) (option_map cut c)
      ≡ option_map cut (option_map (moved_client (is_visible v) h) c)
  cut_client h None = refl
  cut_client h (Some c) = refl

  -- A new configuration under which the address has another view cuts the client, and each other leaves it as it is.
  reviewed_lone : (h : List Arrival) (new : Config) (x : Option Connection) → IsGoodConnection h x
      → (lone_with h (option_map (reviewed new) x)
      ≡ (if not (has_view new from v) && is_some x then with_client (lone_with h x) cut else lone_with h x))
      × IsGoodConnection h (option_map (reviewed new) x)
  reviewed_lone h new None good = (both (has_view new from v) (λ y. rw y) (λ n. rw n), tt)
  reviewed_lone h new (Some x) good =
      let same : has_view new from v ≡ is_same_view (view_of new x.address) x.view = rw (good.2, good.0) refl in
      both (is_same_view (view_of new x.address) x.view)
      (λ y. let is : has_view new from v ≡ true = same ∙ y in (rw (y, is), rw y good))
      (λ n. let is : has_view new from v ≡ false = same
      ∙ n in (rw (n, is, cut_client h x.client), rw n (good.0, cut_good h x.client, good.2)))

  taken-moved : (h : List Arrival) (c : Option Client) (n : ℕ) → IsGoodClient h c
      → taken_by (filter (is_visible v) h) (option_map (moved_client (is_visible v) h) c) n ≡ taken_by h c n
  taken-moved h None n good = refl
  taken-moved h (Some c) n good =
      let o = offered_follows (is_visible v) h c good in
      rw o.same (taken_of-moved (is_visible v) h (offered h c) n)

  take_keeps : (h : List Arrival) (n : ℕ)
      → Keeps h (λ u c. after_take u h (offered h c) n)
      (λ c. after_take v (filter (is_visible v) h) (offered (filter (is_visible v) h) c) n)
  take_keeps h n c good =
      let o = offered_follows (is_visible v) h c good in
      rw o.same (after_take_follows (is_visible v) h v (all_shown v) (offered h c) n o.good)

  client_more : (h : List Arrival) (a : Arrival) (c : Option Client) → IsGoodClient h c
      → (option_map (moved_client (is_visible v) (h ++ a ∷ [])) c ≡ option_map (moved_client (is_visible v) h) c)
      × IsGoodClient (h ++ a ∷ []) c
  client_more h a None good = (refl, tt)
  client_more h a (Some c) good =
      (rw (moved_state_more (is_visible v) h a c.state good), good_state_more (is_visible v) h a c.state good)

  connection_more : (h : List Arrival) (a : Arrival) (x : Option Connection) → IsGoodConnection h x
      → (option_map (moved_client (is_visible v) (h ++ a ∷ [])) (client_of x)
      ≡ option_map (moved_client (is_visible v) h) (client_of x)) × IsGoodConnection (h ++ a ∷ []) x
  connection_more h a None good = (refl, tt)
  connection_more h a (Some x) good = let more = client_more h a x.client good.1 in (more.0, (good.0, more.1, good.2))

  good_client : (h : List Arrival) (x : Option Connection) → IsGoodConnection h x → IsGoodClient h (client_of x)
  good_client h None good = tt
  good_client h (Some x) good = good.1

module _ (v : View) (from : Option ℕ) (k : ℕ) where
  -- the view and the address of the k-th client, who is not yet there
  abbrev Awaits : Config → ℕ → List Event → Type 0
  Awaits config n es = (m : ℕ) → n + m ≡ k → (own_view config es m ≡ v) × (address_of es m ≡ from)

  abbrev lone_of : World → Lone
  lone_of w = lone_with v from w.history (slice_get w.connections k)

  abbrev IsGoodWorld : World → Type 0
  IsGoodWorld w = IsGoodConnection v from w.history (slice_get w.connections k)

  abbrev IsIsolated : Config → World → List Event → Type 0
  IsIsolated config w es = handed_to k (handed_from config w es)
      ≡ alone_from v (lone_of w) (seen_from config v from (length w.connections) k es)

  -- what is left to prove at a further event
  abbrev Goes : List Event → Type 0
  Goes es = (config : Config) (w : World) → IsGoodWorld w → Awaits config (length w.connections) es
      → IsIsolated config w es

  -- a connection is changed
  changed_isolated : (es : List Event) → Goes es
      → (config : Config) (w : World) (j : ℕ) (f : Connection → Connection) (after : Lone) → IsGoodWorld w
      → Awaits config (length w.connections) es
      → (lone_with v from w.history (option_map f (slice_get w.connections k)) ≡ after)
      × IsGoodConnection v from w.history (option_map f (slice_get w.connections k))
      → handed_to k (handed_from config (record w { connections = at w.connections j f }) es)
      ≡ alone_from v (if j == k then after else lone_of w) (seen_from config v from (length w.connections) k es)
  changed_isolated es goes config w j f after good awaits now =
      both (j == k)
      (λ e. let here = slice_get-at_here w.connections j k f e in
      rw (
        e,
        ← now.0,
      )
      (rw (
        length-at w.connections j f,
        here,
      ) at
      (goes config (record w { connections = at w.connections j f }) (rw here now.1)
      (rw (length-at w.connections j f) awaits))))
      (λ e. let apart = slice_get-at_apart w.connections j k f (eqb-false j k e) in
      rw e
      (rw (
        length-at w.connections j f,
        apart,
      ) at
      (goes config (record w { connections = at w.connections j f }) (rw apart good)
      (rw (length-at w.connections j f) awaits))))

  opened_isolated : (es : List Event) → Goes es → (config : Config) (w : World) (a : ℕ) → IsGoodWorld w
      → Awaits config (length w.connections) (Open a ∷ es) → IsIsolated config w (Open a ∷ es)
  opened_isolated es goes config w a good awaits =
      let new = opened config a in
      let longer : length (w.connections ++ new ∷ [])
      ≡ length w.connections + 1 = length-append w.connections (new ∷ []) in
      let later : Awaits config (length w.connections + 1) es = λ m e. awaits (suc m) (omega arith) in
      both (length w.connections == k)
      (λ e.
      let here = slice_get-push_here w.connections new k e in
      let none : slice_get w.connections k
      ≡ None = subst (λ i. slice_get w.connections i ≡ None) (eqb-true _ _ e) (slice_get-length w.connections) in
      let is = awaits zero (omega (arith, eqb-true (length w.connections) k e)) in
      rw (
        e,
        none,
      )
      (rw (
        longer,
        here,
      ) at (goes config (record w { connections = w.connections ++ new ∷ [] }) (rw here (is.0, tt, sym is.1))
      (rw longer later))))
      (λ e.
      let apart = slice_get-push_apart w.connections new k (eqb-false _ _ e) in
      rw e
      (rw (
        longer,
        apart,
      ) at
      (goes config (record w { connections = w.connections ++ new ∷ [] }) (rw apart good) (rw longer later))))

  arrived_isolated : (es : List Event) → Goes es → (config : Config) (w : World) (o : Option Arrival) → IsGoodWorld w
      → Awaits config (length w.connections) es
      → handed_to k (handed_from config (record w { history = arrived w.history o }) es)
      ≡ alone_from v (lone_of w) (cons_visible v o (seen_from config v from (length w.connections) k es))
  arrived_isolated es goes config w None good awaits = goes config w good awaits
  arrived_isolated es goes config w (Some a) good awaits =
      let more = connection_more v from w.history a (slice_get w.connections k) good in
      let run = rw (
        filter-append (is_visible v) w.history (a ∷ []),
        more.0,
      ) at (goes config (record w { history = w.history ++ a ∷ [] }) more.1 awaits) in
      both (is_visible v a)
      (λ e. rw e (rw e at run))
      (λ e. rw e (rw (e, append-nil) at run))

  -- one event more, or not
  with_cut : (b : Bool) (l : Lone) (es : List OwnEvent)
      → alone_from v l (cons_if b OwnCut es) ≡ alone_from v (if b then with_client l cut else l) es
  with_cut b l es = both b (λ y. rw y) (λ n. rw n)

  reloaded_isolated : (es : List Event) → Goes es → (config : Config) (w : World) (new : Config) → IsGoodWorld w
      → Awaits config (length w.connections) (Reload new ∷ es) → IsIsolated config w (Reload new ∷ es)
  reloaded_isolated es goes config w new good awaits =
      both (is_same_but_for_access config new)
      (λ e.
      let now = reviewed_lone v from w.history new (slice_get w.connections k) good in
      let there = slice_get-each w.connections k (reviewed new) in
      let run = goes new (record w { connections = map (reviewed new) w.connections }) (rw there now.1)
      (rw (length-each w.connections (reviewed new)) (rw e at awaits)) in
      rw (e, with_cut, there_below w.connections k)
      (rw (length-each w.connections (reviewed new), there, now.0) at run))
      (λ e. rw e (goes config w good (rw e at awaits)))

  isolation_from : (es : List Event) → Goes es
  isolation_from [] config w good awaits = refl
  isolation_from (Open a ∷ es) config w good awaits = opened_isolated es (isolation_from es) config w a good awaits
  isolation_from (Bytes j bytes ∷ es) config w good awaits =
      let now = changed_lone v from w.history (λ u c. received u w.history bytes c) _
      (received_follows (is_visible v) w.history v (all_shown v) bytes) (slice_get w.connections k) good in
      let more = changed_isolated es (isolation_from es) config w j (changed (λ u c. received u w.history bytes c))
      (own_step v (lone_of w) (OwnBytes bytes)) good awaits now in
      both (j == k) (λ e. rw e (rw e at more)) (λ e. rw e (rw e at more))
  isolation_from (Take j n ∷ es) config w good awaits =
      let now = changed_lone v from w.history (λ u c. after_take u w.history (offered w.history c) n) _
      (take_keeps v from w.history n) (slice_get w.connections k) good in
      let more = changed_isolated es (isolation_from es) config w j
      (changed (λ u c. after_take u w.history (offered w.history c) n))
      (own_step v (lone_of w) (OwnTake n)) good awaits now in
      let taken = taken-moved v from w.history (client_of (slice_get w.connections k)) n
      (good_client v from w.history (slice_get w.connections k) good) in
      both (j == k)
      (λ e. rw (e, eqb-true j k e) (ap₂ (λ x xs. x ∷ xs) (sym taken) (rw (e, eqb-true j k e) at more)))
      (λ e. rw e (rw e at more))
  isolation_from (Close j ∷ es) config w good awaits =
      let more = changed_isolated es (isolation_from es) config w j closed (own_step v (lone_of w) OwnClose) good awaits
      (closed_lone v from w.history (slice_get w.connections k) good) in
      both (j == k) (λ e. rw e (rw e at more)) (λ e. rw e (rw e at more))
  isolation_from (Arrive r ∷ es) config w good awaits =
      arrived_isolated es (isolation_from es) config w (accepted config r) good awaits
  isolation_from (Reload new ∷ es) config w good awaits =
      reloaded_isolated es (isolation_from es) config w new good awaits

pub isolated : (config : Config) (events : List Event) (k : ℕ)
    → handed_to k (handed config events) ≡ alone (own_view config events k) (seen config events k)
isolated config events k = isolation_from (own_view config events k)
    (address_of events k) k events config empty_world tt
    (λ m e. let same : m ≡ k = omega arith in (ap (own_view config events) same, ap (address_of events) same))

handed_to-append : (k : ℕ) (xs ys : List Handed) → handed_to k (xs ++ ys) ≡ handed_to k xs ++ handed_to k ys
handed_to-append k xs ys =
    let taken : Handed → Taken = λ x. record { bytes = x.bytes; ended = x.ended } in
    let whose : Handed → Bool = λ x. x.client == k in
    ap (map taken) (filter-append whose xs ys) ∙ map-append taken (filter whose xs) (filter whose ys)

-- what a client alone is handed grows by what further events hand
pub goes-on : (config : Config) (events more : List Event) (k : ℕ)
    → alone (own_view config (events ++ more) k) (seen config (events ++ more) k)
    ≡ alone (own_view config events k) (seen config events k)
    ++ handed_to k (handed_from (config_after config events) (world_after config events) more)
goes-on config events more k =
    sym (isolated config (events ++ more) k)
    ∙ ap (handed_to k) (handed_from-append config empty_world events more)
    ∙ handed_to-append k (handed config events)
    (handed_from (config_after config events) (world_after config events) more)
    ∙ ap (λ l. l ++ handed_to k (handed_from (config_after config events) (world_after config events) more))
    (isolated config events k)
