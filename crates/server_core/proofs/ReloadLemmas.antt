-- What a server stands for once a new configuration came into force.
use Rattle.std.proofs.Common.{◌≡◌, ℕ, ◌+◌, ◌<◌, ◌≤◌, ◌==◌, true, false, if◌then◌else◌, List, [], ◌∷◌, map, drop}
use Rattle.std.proofs.Common.{filter_map, length, slice_get, slice_index_or, Option, Some, None, option_map, unwrap_or}
use Rattle.std.proofs.Common.{refl, sym, ap, ap₂, subst, ◌∙◌, arith, get_or, eqb-true}
use Rattle.std.specs.Prelude.{IsSome}
use Rattle.std.specs.Net.Addr.{ipv4_bits}
use Rattle.std.proofs.lemmas.Bool.{eqb-false}
use Rattle.std.proofs.lemmas.List.{get_or_default, length-map}
use Rattle.std.proofs.lemmas.Option.{slice_get-map}
use Rattle.slab.specs.Slab.{Slab, get}
use Rattle.protocol.specs.Catalog.{Config, Entry, Station, View, view_of, listing, is_same_view, is_same_but_for_access}
use Rattle.protocol.specs.Catalog.{stations_of}
use Rattle.protocol.specs.History.{Arrival, Request}
use Rattle.protocol.specs.Session.{choices_of, wish_of}
use Rattle.protocol.specs.Session.Negotiated.{Multi as MultiNegotiated}
use Rattle.protocol.specs.Client.{Client, State as ClientState, cut, request_of}
use Rattle.protocol.specs.Client.State.{Negotiating as ClientNegotiating, Listing as ClientListing}
use Rattle.protocol.specs.Client.State.{Transfer as ClientTransfer}
use Rattle.protocol.specs.World.{Connection, World, config_by, reviewed, step}
use Rattle.protocol.specs.World.Event.{Reload}
use Rattle.protocol.proofs.Configs.{configurations_compared, reloaded_where, reloaded_not, reviewed_where, reviewed_not}
use Rattle.protocol.proofs.Connections.{slice_get-each, length-each}
use Rattle.protocol.proofs.FoundLemmas.{both}
use Rattle.catalog.specs.Orders.{FitsIn}
use Rattle.catalog.specs.Places.{station_at, nowhere, view_in, Seen}
use Rattle.station_ring.specs.HeldRecords.{RingsValue, holdings_of, ring_of}
use Rattle.sl_lines.specs.declared.actions.Action.{Action}
use Rattle.session_state.specs.NamedValues.{Choice}
use Rattle.session_state.specs.NamedValues.{ModeValue}
use Rattle.session_state.specs.NamedValues.ModeValue.{Uni, Multi}
use Rattle.session_state.specs.declared.session.State.{State}
use Rattle.session_state.specs.declared.session.State.TheVariants.{Negotiating, Listing, Starting, Transfer, Ending}
use Rattle.session_state.specs.Choices.{action_value, chosen_of, negotiated_in, request_in, request_with}
use Rattle.session_state.specs.Sessions.{SessionValue, client_in, session_view, state_in}
use Rattle.transfer.proofs.PassedLemmas.{none-passed}
use Rattle.server_core.specs.declared.clients.Clients.{Clients}
use Rattle.server_core.specs.declared.clients.Opened.{Opened}
use Rattle.server_core.specs.declared.marks.Marks.{Marks}
use Rattle.server_core.specs.Clients.{AreApart, AreRising, IsTable, addresses_of, no_one, sessions_of, slot_in}
use Rattle.server_core.specs.Marks.{AreMarked, KeepsRequests, idle_in}
use Rattle.server_core.specs.Reloads.{AreReviewed, cut_session, reviewed_session}
use Rattle.server_core.specs.ServerValues.{AreSettled, IsSettled, OpenClient, ServerValue, StandsAt, address_at}
use Rattle.server_core.specs.ServerValues.{address_with, addressed, open_client_at, open_client_of, open_client_with}
use Rattle.server_core.specs.ServerValues.{open_client, StayOpen}
use Rattle.server_core.proofs.SessionLemmas.{serving}
use Rattle.server_core.proofs.NumberLemmas.{IsPlacedAt, bits_at, place-of, slot_at, slots-apart}
use Rattle.server_core.proofs.SlotLemmas.{address-there, session-nowhere, session-there, sessions-counted}
use Rattle.server_core.proofs.SlotLemmas.{written-table}

-- ---- what does not depend on the lists of addresses
module _ (g new : Config) (same : is_same_but_for_access g new ≡ true) where
  same_titles : new.title ≡ g.title
  same_titles = sym ((configurations_compared g new).0 same).0

  same_stations : stations_of new ≡ stations_of g
  same_stations = sym ((configurations_compared g new).0 same).2

  pub same_count : length new.entries ≡ length g.entries
  same_count = sym (length-map new.entries (λ e. e.station)) ∙ ap length same_stations
      ∙ length-map g.entries (λ e. e.station)

  station-in : (es : List Entry) (place : ℕ)
      → station_at es place ≡ unwrap_or (slice_get (map (λ e. e.station) es) place) nowhere
  station-in es place = ap (λ o. unwrap_or o nowhere) (sym (slice_get-map (λ e. e.station) es place))

  stations-at : station_at new.entries ≡ station_at g.entries
  stations-at =
      λ i place. (station-in new.entries place ∙ ap (λ ss. unwrap_or (slice_get ss place) nowhere) same_stations
      ∙ sym (station-in g.entries place)) i

  pub same-view : (seen : Seen) → view_in new seen ≡ view_in g seen
  same-view seen =
      ap₂ (λ (t : List ℕ) (st : ℕ → Station). let v : View =
      record { title = t; stations = map st seen.places } in v) same_titles stations-at

  same-negotiated : (mode : ModeValue) → negotiated_in new mode ≡ negotiated_in g mode
  same-negotiated (Uni patterns) = refl
  same-negotiated (Multi n) =
      ap
      (λ (st : ℕ → Station). MultiNegotiated
      (map (λ c. record { station = st c.station; patterns = c.patterns; action = option_map action_value c.action })
      n.choices) n.current) stations-at

  same-request-with : (c : Choice) (o : Option Action) → request_with new c o ≡ request_with g c o
  same-request-with c None = refl
  same-request-with c (Some action) =
      ap (λ (st : ℕ → Station). let r : Option Request =
      Some (record { station = st c.station; patterns = c.patterns; action = action_value action; from = c.first })
      in r) stations-at

  same-requests : (cs : List Choice) → filter_map (request_in new) cs ≡ filter_map (request_in g) cs
  same-requests cs = ap (λ (r : Choice → Option Request). filter_map r cs) (λ i c. same-request-with c c.action i)

  same-state : (h : List Arrival) (places : Seen) (mode : ModeValue) (s : State)
      → state_in new h (view_in new places) mode s ≡ state_in g h (view_in g places) mode s
  same-state h places mode Negotiating = ap ClientNegotiating (same-negotiated mode)
  same-state h places mode (Listing made) =
      ap₂ (λ v n. ClientListing (drop made (listing v)) n) (same-view places) (same-negotiated mode)
  same-state h places mode Starting =
      ap (λ n. ClientTransfer (map (request_of h) (filter_map wish_of (choices_of n))) 0) (same-negotiated mode)
  same-state h places mode (Transfer next) = ap (λ rs. ClientTransfer rs next) (same-requests (chosen_of mode))
  same-state h places mode Ending = refl

  same-client : (h : List Arrival) (s : SessionValue) → client_in new h s ≡ client_in g h s
  same-client h s =
      ap (λ (t : ClientState). let c : Client =
      record { state = t; open_line = s.open_line; unread = s.unread; waiting = s.waiting } in c)
      (same-state h s.places s.mode s.state)

  same-open : (h : List Arrival) (s : SessionValue) → open_client_of new h s ≡ open_client_of g h s
  same-open h s = ap₂ (λ (v : View) (c : Client). let x : OpenClient = record { view = v; client = c } in x)
      (same-view s.places) (same-client h s)

  same-opened : (h : List Arrival) (o : Option (Option SessionValue)) → open_client new h o ≡ open_client g h o
  same-opened h None = refl
  same-opened h (Some None) = refl
  same-opened h (Some (Some s)) = ap (λ x. Some x) (same-open h s)

  rings-of : (es : List Entry) (h : List Arrival)
      → map (λ e. ring_of e.station h) es ≡ map (λ s. ring_of s h) (map (λ e. e.station) es)
  rings-of [] h = refl
  rings-of (e ∷ es) h = ap (λ rs. ring_of e.station h ∷ rs) (rings-of es h)

  pub same-holdings : (h : List Arrival) → holdings_of new h ≡ holdings_of g h
  unfolding holdings_of
  same-holdings h =
      ap (λ rs. let x : RingsValue = record { rings = rs; arrivals = length h } in x)
      (rings-of new.entries h ∙ ap (map (λ s. ring_of s h)) same_stations ∙ sym (rings-of g.entries h))

  pub settled-under : (rings : RingsValue) (slots : Slab SessionValue) → AreSettled g rings slots
      → AreSettled new rings slots
  settled-under rings slots settled slot s there =
      let was = settled slot s there in
      record {
        places = subst (λ n. FitsIn n (station_at new.entries) s.places) (sym same_count)
            (subst (λ st. FitsIn (length g.entries) st s.places) (sym stations-at) was.places);
        started = was.started;
        passed = was.passed;
      }

  idle-under : (rings : RingsValue) (s : SessionValue) (t : State) → idle_in g rings s t → idle_in new rings s t
  idle-under rings s Negotiating idle = idle
  idle-under rings s (Listing made) idle = (idle.0, ap (λ v. slice_get (listing v) made) (same-view s.places) ∙ idle.1)
  idle-under rings s Starting idle = idle
  idle-under rings s (Transfer next) idle = idle
  idle-under rings s Ending idle = idle

  pub marked-under : (rings : RingsValue) (marks : Marks) (slots : Slab SessionValue) → AreMarked g rings marks slots
      → AreMarked new rings marks slots
  marked-under rings marks slots are = record {
    held = λ slot s there. let was =
        are.held slot s there in record {
          room = was.room;
          idle = λ unmarked. record { by_state = let i = was.idle unmarked in idle-under rings s s.state i.by_state };
          sends = was.sends;
          asks = was.asks;
        };
    free = are.free;
  }

-- ---- connections

open-reviewed_none : (new : Config) (x : Option Connection) → None ≡ open_client_at x
    → None ≡ open_client_at (option_map (reviewed new) x)
open-reviewed_none new None e = refl
open-reviewed_none new (Some k) e = by k.client e
  where
    by : (o : Option Client) → None ≡ open_client_with k.view o
        → None ≡ open_client_at (Some (reviewed new (record k { client = o })))
    by None e = both (is_same_view (view_of new k.address) k.view) (λ y. rw y refl) (λ n. rw n refl)
    by (Some c) e = absurd cc

address-reviewed : (new : Config) (x : Option Connection) → address_at (option_map (reviewed new) x) ≡ address_at x
address-reviewed new None = refl
address-reviewed new (Some k) =
    both (is_same_view (view_of new k.address) k.view)
    (λ y. rw y refl)
    (λ n. rw n (by k.client))
  where
    by : (o : Option Client) → address_with k.address (option_map cut o) ≡ address_with k.address o
    by None = refl
    by (Some c) = refl

abbrev reviewed_open_client : Config → ℕ → OpenClient → OpenClient
reviewed_open_client new a x = if is_same_view (view_of new a) x.view then x else record x { client = cut x.client }

open-reviewed : (new : Config) (a : ℕ) (seat : OpenClient) (x : Option Connection) → Some seat ≡ open_client_at x
    → Some a ≡ address_at x → Some (reviewed_open_client new a seat) ≡ open_client_at (option_map (reviewed new) x)
open-reviewed new a seat None e f = absurd cc
open-reviewed new a seat (Some k) e f = by k.client e f
  where
    by : (o : Option Client) → Some seat ≡ open_client_with k.view o → Some a ≡ address_with k.address o
        → Some (reviewed_open_client new a seat) ≡ open_client_at (Some (reviewed new (record k { client = o })))
    by None e f = absurd cc
    by (Some c) e f =
        let is : seat ≡ record { view = k.view; client = c } = cc in
        let from : a ≡ k.address = cc in
        ap₂ (λ b y. Some (reviewed_open_client new b y)) from is
        ∙ both (is_same_view (view_of new k.address) k.view) (λ y. rw y refl) (λ n. rw n refl)

-- ---- the server
module _ (g new : Config) (rings : RingsValue) (c : Clients) (slots : Slab SessionValue)
    (same : is_same_but_for_access g new ≡ true) (table : IsTable c) (kept : StayOpen c.slots slots)
    (each : AreReviewed new c.opened.items c.slots slots) where
  abbrev after : Clients
  after = record c { slots = slots }

  session-reviewed : (h : List Arrival) (a : ℕ) (s : SessionValue)
      → open_client_of new h (reviewed_session new a s) ≡ reviewed_open_client new a (open_client_of g h s)
  session-reviewed h a s =
      let v = same-view g new same s.places in
      both (is_same_view (view_of new a) (session_view new s))
      (λ y. let z : is_same_view (view_of new a) (session_view g s) ≡ true = ap (is_same_view (view_of new a)) (sym v)
      ∙ y in rw (y, z) (same-open g new same h s))
      (λ n. let z : is_same_view (view_of new a) (session_view g s) ≡ false = ap (is_same_view (view_of new a)) (sym v)
      ∙ n in rw (
        n,
        z,
      ) (ap (λ (w : View). let x : OpenClient = record { view = w; client = cut (client_in g h s) } in x) v))

  reviewed-clients : (config : Config) (w : World) → StandsAt (serving g rings c) config w → (k : ℕ) → (o : Option ℕ)
      → slot_in c.opened.items k ≡ o
      → open_client new w.history (slice_get (sessions_of after) k)
      ≡ open_client_at (option_map (reviewed new) (slice_get w.connections k))
  reviewed-clients config w stands k None none =
      session-nowhere new w.history after k none
      ∙ open-reviewed_none new (slice_get w.connections k) (sym (session-nowhere config w.history c k none)
      ∙ stands.clients k)
  reviewed-clients config w stands k (Some slot) there = by (get c.slots slot) (table.there k slot there) refl
    where
      address : (i : ℕ) × IsPlacedAt c.opened.items k slot i
      address = place-of c.opened.items k slot there

      by : (o : Option SessionValue) → IsSome o → get c.slots slot ≡ o
          → open_client new w.history (slice_get (sessions_of after) k)
          ≡ open_client_at (option_map (reviewed new) (slice_get w.connections k))
      by None none is = absurd (let q : false ≡ true = none in cc)
      by (Some s) some is =
          let a = bits_at c.opened.items address.0 in
          let from = address.1.has_address in
          let was : Some (open_client_of g w.history s) ≡ open_client_at (slice_get w.connections k) =
          ap (open_client g w.history) (sym (session-there c k slot table there ∙ ap Some is))
          ∙ ap (λ q. open_client q w.history (slice_get (sessions_of c) k)) stands.config_is ∙ stands.clients k in
          let came : Some a ≡ address_at (slice_get w.connections k) =
          sym (ap addressed (address-there c k slot table there) ∙ from) ∙ stands.addresses k in
          ap (open_client new w.history) (session-there after k slot (written-table c slots table kept) there
          ∙ ap Some (each k slot a s there from is))
          ∙ ap Some (session-reviewed w.history a s)
          ∙ open-reviewed new a (open_client_of g w.history s) (slice_get w.connections k) was came

  same-after : (k : ℕ) → addressed (slice_get (addresses_of after) k) ≡ addressed (slice_get (addresses_of c) k)
  unfolding addresses_of
  same-after k = refl

  pub reload-stands : (config : Config) (w : World) → StandsAt (serving g rings c) config w
      → StandsAt (serving new rings after) (config_by config (Reload new)) (step config w (Reload new))
  reload-stands config w stands =
      let alike : is_same_but_for_access config new
      ≡ true = ap (λ q. is_same_but_for_access q new) (sym stands.config_is) ∙ same in
      let there : StandsAt (serving new rings after) new
      (record w { connections = map (reviewed new) w.connections }) = record {
        config_is = refl;
        holds = stands.holds ∙ sym (same-holdings g new same w.history);
        count = sessions-counted after ∙ sym (sessions-counted c) ∙ stands.count
            ∙ sym (length-each w.connections (reviewed new));
        clients = λ k. reviewed-clients config w stands k (slot_in c.opened.items k) refl
            ∙ ap open_client_at (sym (slice_get-each w.connections k (reviewed new)));
        addresses = λ k. same-after k ∙ stands.addresses k
            ∙ sym (ap address_at (slice_get-each w.connections k (reviewed new))
            ∙ address-reviewed new (slice_get w.connections k));
      } in
      subst {A = Config × List Connection}
      (λ p. StandsAt (serving new rings after) p.0 (record w { connections = p.1 }))
      (λ i. (sym (reloaded_where config new alike) i, sym (reviewed_where config new w.connections alike) i)) there

-- One that is refused changes nothing.
pub refused-reload : (server : ServerValue) (new : Config) → is_same_but_for_access server.config new ≡ false
    → (config : Config) (w : World) → StandsAt server config w
    → StandsAt server (config_by config (Reload new)) (step config w (Reload new))
refused-reload server new differs config w stands =
    let apart : is_same_but_for_access config new
    ≡ false = ap (λ q. is_same_but_for_access q new) (sym stands.config_is) ∙ differs in
    subst {A = Config × List Connection} (λ p. StandsAt server p.0 (record w { connections = p.1 }))
    (λ i. (sym (reloaded_not config new apart) i, sym (reviewed_not config new w.connections apart) i)) stands

-- ---- all clients, one after the other
pub one-at : (os : List Opened) (i : ℕ) (one : Opened) → i < length os → one ≡ get_or os i one
    → (one.slot ≡ slot_at os i) × (ipv4_bits one.address ≡ bits_at os i)
unfolding slot_at bits_at
one-at os i one lt is =
    let same : one ≡ slice_index_or os i no_one = is ∙ get_or_default os i one no_one lt in
    (ap (λ (o : Opened). o.slot) same, ap (λ (o : Opened). ipv4_bits o.address) same)

module _ (new : Config) (os : List Opened) (start : Slab SessionValue) where
  abbrev pub IsDone : Slab SessionValue → ℕ → Type 0
  IsDone slots i = (j : ℕ) → j < i → j < length os → (s : SessionValue) → get start (slot_at os j) ≡ Some s
      → get slots (slot_at os j) ≡ Some (reviewed_session new (bits_at os j) s)

  abbrev pub IsLeft : Slab SessionValue → ℕ → Type 0
  IsLeft slots i = (j : ℕ) → i ≤ j → j < length os → get slots (slot_at os j) ≡ get start (slot_at os j)

  module _ (rising : AreRising os) (apart : AreApart os) (i : ℕ) (one : Opened) (lt : i < length os)
      (is : one ≡ get_or os i one) (before after : Slab SessionValue)
      (here : (s : SessionValue) → get before one.slot ≡ Some s
      → get after one.slot ≡ Some (reviewed_session new (ipv4_bits one.address) s))
      (others : (other : ℕ) → (other ≡ one.slot → ⊥) → get after other ≡ get before other) where
    other-place : (j : ℕ) → j < length os → (j ≡ i → ⊥) → get after (slot_at os j) ≡ get before (slot_at os j)
    other-place j inside differs =
        others (slot_at os j) (λ e. differs (slots-apart os rising apart j i inside lt (e ∙ (one-at os i one lt is).0)))

    this-place : IsLeft before i → (s : SessionValue) → get start (slot_at os i) ≡ Some s
        → get after (slot_at os i) ≡ Some (reviewed_session new (bits_at os i) s)
    this-place left s there =
        let at = one-at os i one lt is in
        let was : get before one.slot ≡ Some s = ap (get before) at.0 ∙ left i (omega arith) lt ∙ there in
        ap (get after) (sym at.0) ∙ here s was ∙ ap (λ a. Some (reviewed_session new a s)) at.1

    pub done-step : IsDone before i → IsLeft before i → IsDone after (i + 1)
    done-step done left j below inside s there =
        both (j == i)
        (λ y. let e = eqb-true j i y in
        subst (λ n. get after (slot_at os n) ≡ Some (reviewed_session new (bits_at os n) s)) (sym e)
        (this-place left s (ap (λ n. get start (slot_at os n)) (sym e) ∙ there)))
        (λ n. let differs = eqb-false j i n in
        other-place j inside differs ∙ done j (omega (arith, below, differs)) inside s there)

    pub left-step : IsLeft before i → IsLeft after (i + 1)
    left-step left j past inside = other-place j inside (λ e. omega (arith, e, past)) ∙ left j (omega arith) inside

  pub all-reviewed : (slots : Slab SessionValue) (i : ℕ) → length os ≤ i → IsDone slots i
      → AreReviewed new os start slots
  all-reviewed slots i past done k slot a s there from was =
      let place = place-of os k slot there in
      let inside = place.1.inside in
      let address : bits_at os place.0 ≡ a = let q : Some (bits_at os place.0) ≡ Some a = sym place.1.has_address
      ∙ from in cc in
      let here = done place.0 (omega (arith, past, inside)) inside s (ap (get start) place.1.has_slot ∙ was) in
      ap (get slots) (sym place.1.has_slot) ∙ here ∙ ap (λ b. Some (reviewed_session new b s)) address

-- ---- one client
pub cut-settled : (config : Config) (rings : RingsValue) (a : ℕ) (s : SessionValue) → IsSettled config rings s
    → IsSettled config rings (reviewed_session config a s)
cut-settled config rings a s settled =
    both (is_same_view (view_of config a) (session_view config s))
    (λ y. rw y settled)
    (λ n. rw n
    (record {
      places = settled.places;
      started = λ e. absurd (let q : Ending ≡ Starting = e in cc);
      passed = none-passed rings (cut_session s) (λ next e. let q : Ending ≡ Transfer next = e in cc);
    }))

pub cut-requests : (config : Config) (a : ℕ) (s : SessionValue)
    → is_same_view (view_of config a) (session_view config s) ≡ false → KeepsRequests s (reviewed_session config a s)
cut-requests config a s n = rw n (record { kept = λ sends. absurd (let q : false ≡ true = sends in cc) })

pub uncut-same : (config : Config) (a : ℕ) (s : SessionValue)
    → is_same_view (view_of config a) (session_view config s) ≡ true → reviewed_session config a s ≡ s
uncut-same config a s y = rw y refl
