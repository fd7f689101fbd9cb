-- Packets that are handed one after the other.
use Rattle.std.proofs.Common.{◌≡◌, ℕ, zero, suc, ◌+◌, true, false, Bool, if◌then◌else◌, List, [], ◌∷◌, ◌++◌, length}
use Rattle.std.proofs.Common.{refl, sym, ap}
use Rattle.std.proofs.Common.{subst, ◌∙◌, arith, Option, Some, None, Result, option_map, unwrap_or, slice_get}
use Rattle.std.proofs.Common.{add-one, ap₂, append-nil, append_assoc, length-append}
use Rattle.std.specs.Prelude.{All, ◌≢◌}
use Rattle.std.specs.List.{concat}
use Rattle.std.specs.Result.{result_ok}
use Rattle.std.proofs.lemmas.List.Elements.{All-append}
use Rattle.std.proofs.lemmas.List.{drop_all, take_all}
use Rattle.protocol.specs.Catalog.{Config, View}
use Rattle.protocol.specs.History.{Arrival}
use Rattle.protocol.specs.Client.{Client, after_take, is_ending, is_nothing, left_with, listed, offered, read_on}
use Rattle.protocol.specs.World.{Connection, World, at, changed, client_of, step}
use Rattle.protocol.specs.World.Event.{Take}
use Rattle.protocol.proofs.Connections.{slice_get-at_same}
use Rattle.slab.specs.Slab.{Slab, get, Updates}
use Rattle.session_state.specs.Sessions.{SessionValue, but_for_cursors, client_in, session_view}
use Rattle.session_state.specs.declared.session.State.{State}
use Rattle.session_state.specs.declared.session.State.TheVariants.{Negotiating, Listing, Starting, Transfer, Ending}
use Rattle.transfer.specs.Choosing.{IsHanded, is_transfer}
use Rattle.transfer.specs.Runs.{AreHanded}
use Rattle.transfer.specs.Runs.AreHanded.{none as none-handed, more as more-handed}
use Rattle.transfer.specs.Sleeping.{Sleeps}
use Rattle.transfer.proofs.StartLemmas.{client-same}
use Rattle.catalog.specs.Places.{view_in, Seen}
use Rattle.station_ring.specs.HeldRecords.{RingsValue}
use Rattle.server_core.specs.Clients.{IsTable, slot_in}
use Rattle.server_core.specs.declared.clients.Clients.{Clients}
use Rattle.server_core.specs.declared.client.Filled.{Filled}
use Rattle.server_core.specs.declared.client.Gone.{Gone}
use Rattle.server_core.specs.declared.client.Offer.{Offer}
use Rattle.server_core.specs.declared.client.Offer.TheVariants.{Bytes, Idle}
use Rattle.server_core.specs.Filling.{Fills, IsFilled, client_at, lent_to}
use Rattle.server_core.specs.Filling.Fills.{none, more}
use Rattle.server_core.specs.Handing.{AreWhole, HandsPackets, OnlySends, handing_on, offered_open_of, packets_of}
use Rattle.server_core.specs.Handing.{waiting_after, waiting_at}
use Rattle.server_core.specs.Marks.{IsIdle, idle_in}
use Rattle.server_core.specs.Refusals.{offer_of, offer_when}
use Rattle.server_core.specs.ServerValues.{OpenClient, ServerValue, StandsAt, client_of_open, goes_on, handing}
use Rattle.server_core.specs.ServerValues.{SlotGoesOn, open_client, open_client_at, open_client_of, open_client_with}
use Rattle.server_core.specs.ServerValues.{taking}
use Rattle.server_core.proofs.CurrentLemmas.{KeepsOver, offered-over, taken-over}
use Rattle.server_core.proofs.OfferLemmas.{offered-waiting}
use Rattle.server_core.proofs.SessionLemmas.{goes-there, opened-there, serving, with-marks}
use Rattle.server_core.proofs.StandsLemmas.{client_of-open, taken-of}
use Rattle.server_core.proofs.TakeLemmas.{at-composed, offer-then-take, offered-there, same-at, take-then-offer}

-- ---- lists

concat-more : (ps : List (List ℕ)) (p : List ℕ) → concat (ps ++ p ∷ []) ≡ concat ps ++ p
concat-more [] p = append-nil p
concat-more (q ∷ ps) p = ap (λ l. q ++ l) (concat-more ps p) ∙ sym (append_assoc q (concat ps) p)

all-one : (P : List ℕ → Type 0) (p : List ℕ) → P p → All P (p ∷ [])
all-one P p here zero d inside = here
all-one P p here (suc k) d inside = absurd (omega (arith, inside))

some_wait : (ws : List ℕ) → length ws ≡ 520 → is_nothing ws ≡ false
some_wait [] e = absurd (omega (arith, e))
some_wait (b ∷ ws) e = refl

-- ---- one packet after the other

-- an open client that goes on by nothing
pub stays : (h : List Arrival) (o : Option OpenClient) → o ≡ goes_on (handing_on h 0) o
unfolding handing_on
stays h None = refl
stays h (Some x) = refl

goes-more : (h : List Arrival) (n : ℕ) (o : Option OpenClient)
    → goes_on (handing h 520) (goes_on (handing_on h n) o) ≡ goes_on (handing_on h (suc n)) o
unfolding handing_on
goes-more h n None = refl
goes-more h n (Some x) = refl

pub hands-none : (h : List Arrival) (o : Option OpenClient) (out : List ℕ) → HandsPackets h o o 0 out out
unfolding packets_of AreWhole
hands-none h o out = record { goes = stays h o; bytes = sym (append-nil out); whole = tt }

pub hands-more : (h : List Arrival) (a m r : Option OpenClient) (n : ℕ) (out mid last : List ℕ)
    → HandsPackets h a m n out mid → length (waiting_at m) ≡ 520 → r ≡ goes_on (handing h 520) m
    → last ≡ mid ++ waiting_at m → HandsPackets h a r (n + 1) out last
unfolding packets_of AreWhole
hands-more h a m r n out mid last before size next is =
    let here : waiting_at m ≡ waiting_after h n a = ap waiting_at before.goes in
    subst (λ i. HandsPackets h a r i out last) (sym (add-one n)) (record {
      goes = next ∙ ap (goes_on (handing h 520)) before.goes ∙ goes-more h n a;
      bytes = is ∙ ap (λ l. l ++ waiting_at m) before.bytes
          ∙ append_assoc out (concat (packets_of h n a)) (waiting_at m)
          ∙ ap (λ l. out ++ (concat (packets_of h n a) ++ l)) here
          ∙ ap (λ l. out ++ l) (sym (concat-more (packets_of h n a) (waiting_after h n a)));
      whole = (before.whole, sym (ap length here) ∙ size);
    })

pub packets-counted : (h : List Arrival) (n : ℕ) (o : Option OpenClient) → length (packets_of h n o) ≡ n
unfolding packets_of
packets-counted h zero o = refl
packets-counted h (suc n) o =
    length-append (packets_of h n o) (waiting_after h n o ∷ []) ∙ ap (λ i. i + 1) (packets-counted h n o) ∙ add-one n

pub packets-whole : (h : List Arrival) (n : ℕ) (o : Option OpenClient) → AreWhole h n o
    → All (λ p. length p ≡ 520) (packets_of h n o)
unfolding packets_of AreWhole
packets-whole h zero o whole = λ k d inside. absurd (omega (arith, inside))
packets-whole h (suc n) o whole =
    All-append (λ p. length p ≡ 520) (packets_of h n o) (waiting_after h n o ∷ []) (packets-whole h n o whole.0)
    (all-one (λ p. length p ≡ 520) (waiting_after h n o) whole.1)

-- Packets after packets.
pub hands-join : (h : List Arrival) (a m r : Option OpenClient) (n k : ℕ) (out mid last : List ℕ)
    → HandsPackets h a m n out mid → HandsPackets h m r k mid last → HandsPackets h a r (k + n) out last
unfolding packets_of AreWhole
hands-join h a m r n zero out mid last one rest =
    let same : n ≡ 0 + n = omega arith in
    subst (λ i. HandsPackets h a r i out last) same
    (subst (λ l. HandsPackets h a r n out l) (sym (rest.bytes ∙ append-nil mid))
    (subst (λ o. HandsPackets h a o n out mid) (sym (rest.goes ∙ sym (stays h m))) one))
hands-join h a m r n (suc k) out mid last one rest =
    let here : Option OpenClient = goes_on (handing_on h k) m in
    let sent : List ℕ = mid ++ concat (packets_of h k m) in
    subst (λ i. HandsPackets h a r i out last) (omega arith)
    (hands-more h a here r (k + n) out sent last
    (hands-join h a m here n k out mid sent one (record { goes = refl; bytes = refl; whole = rest.whole.0 }))
    rest.whole.1 (rest.goes ∙ sym (goes-more h k m))
    (rest.bytes ∙ ap (λ l. mid ++ l) (concat-more (packets_of h k m) (waiting_after h k m))
    ∙ sym (append_assoc mid (concat (packets_of h k m)) (waiting_after h k m))))

-- a session of which a whole packet was handed
pub first-handed : (config : Config) (h : List Arrival) (a m : SessionValue) (out mid : List ℕ)
    → length a.waiting ≡ 520
    → client_in config h m ≡ after_take (session_view config a) h (client_in config h a) 520 → m.places ≡ a.places
    → mid ≡ out ++ a.waiting
    → HandsPackets h (Some (open_client_of config h a)) (Some (offered_open_of config h m)) 1 out mid
first-handed config h a m out mid size client places is =
    hands-more h (Some (open_client_of config h a)) (Some (open_client_of config h a))
    (Some (offered_open_of config h m)) 0 out out mid (hands-none h (Some (open_client_of config h a)) out) size
    (ap₂ (λ (p : Seen) (q : Client). let t : Option OpenClient =
    Some (record { view = view_in config p; client = offered h q }) in t)
    places (taken-of config h 520 a m (omega arith) (omega (arith, size)) client)) is

-- ---- packets that never wait

listed-sends : (config : Config) (h : List Arrival) (s : SessionValue) (t : State) → is_transfer t ≡ true
    → listed (client_in config h (record s { state = t })).state ≡ (client_in config h (record s { state = t })).state
listed-sends config h s Negotiating sends = absurd cc
listed-sends config h s (Listing made) sends = absurd cc
listed-sends config h s Starting sends = absurd cc
listed-sends config h s (Transfer next) sends = refl
listed-sends config h s Ending sends = absurd cc

-- Where all of a packet is taken while nothing is unread, the packet alone is gone.
all-taken : (config : Config) (h : List Arrival) (v : View) (s : SessionValue) (packet : List ℕ) → length packet ≡ 520
    → OnlySends s → after_take v h (client_in config h (record s { waiting = packet })) 520 ≡ client_in config h s
all-taken config h v s packet size only =
    let c : Client = client_in config h (record s { waiting = packet }) in
    ap₂ (λ (b : Bool) (l : List ℕ). if b then c else left_with v h c l)
    (ap is_nothing (take_all 520 packet (omega (arith, size))) ∙ some_wait packet size)
    (drop_all 520 packet (omega (arith, size)))
    ∙ ap (λ (u : List ℕ). read_on v h u (record c { state = listed c.state; waiting = [] })) only.read
    ∙ ap (λ t. let x : Client = record { state = t; open_line = s.open_line; unread = []; waiting = [] } in x)
    (listed-sends config h s s.state only.sends)
    ∙ ap₂ (λ (u w : List ℕ). let x : Client = record (client_in config h s) { unread = u; waiting = w } in x)
    (sym only.read) (sym only.nothing)

taking-all : (config : Config) (h : List Arrival) (v : View) (s : SessionValue) (packet : List ℕ) → length packet ≡ 520
    → OnlySends s → taking h 520 v (client_in config h (record s { waiting = packet })) ≡ client_in config h s
unfolding taking
taking-all config h v s packet size only =
    ap (λ c. after_take v h c 520)
    (sym (offered-waiting h (client_in config h (record s { waiting = packet })) (some_wait packet size)))
    ∙ all-taken config h v s packet size only

-- A packet that was handed as it was chosen is one that waited and was taken.
hands-next : (config : Config) (h : List Arrival) (a : Option OpenClient) (m r : SessionValue) (n : ℕ)
    (out mid last : List ℕ) → HandsPackets h a (Some (offered_open_of config h m)) n out mid
    → IsHanded config h m r mid last → OnlySends r → r.places ≡ m.places
    → HandsPackets h a (Some (offered_open_of config h r)) (n + 1) out last
hands-next config h a m r n out mid last before is only places =
    let waits : (offered h (client_in config h m)).waiting ≡ is.packet =
    ap (λ (c : Client). c.waiting) (sym is.offers) in
    let taken : client_in config h r ≡ taking h 520 (session_view config m) (offered h (client_in config h m)) =
    sym (taking-all config h (session_view config m) r is.packet is.size only)
    ∙ ap (taking h 520 (session_view config m)) is.offers in
    hands-more h a (Some (offered_open_of config h m)) (Some (offered_open_of config h r)) n out mid last before
    (ap length waits ∙ is.size)
    (ap₂ (λ (p : Seen) (q : Client). let t : Option OpenClient =
    Some (record { view = view_in config p; client = offered h q }) in t) places taken)
    (is.bytes ∙ ap (λ l. mid ++ l) (sym waits))

-- Packets that were handed as they were chosen are so many that waited and were taken.
hands-each : (config : Config) (h : List Arrival) (a : Option OpenClient) (m : SessionValue) (k : ℕ)
    (out mid : List ℕ) → HandsPackets h a (Some (offered_open_of config h m)) k out mid → OnlySends m → (t : State)
    (n : ℕ) (last : List ℕ) → AreHanded config h m mid t n last
    → HandsPackets h a (Some (offered_open_of config h (record m { state = t }))) (k + n) out last
hands-each config h a m k out mid before only _ _ _ none-handed =
    let same : k ≡ k + 0 = omega arith in
    subst (λ i. HandsPackets h a (Some (offered_open_of config h m)) i out mid) same before
hands-each config h a m k out mid before only _ _ _ (more-handed t t' n mid' last handed sends is) =
    let all : k + n + 1 ≡ k + (n + 1) = omega arith in
    subst (λ i. HandsPackets h a (Some (offered_open_of config h (record m { state = t' }))) i out last) all
    (hands-next config h a (record m { state = t }) (record m { state = t' }) (k + n) out mid' last
    (hands-each config h a m k out mid before only t n mid' handed) is
    (record { sends = sends; nothing = only.nothing; read = only.read }) refl)

pub hands-run : (config : Config) (h : List Arrival) (a : Option OpenClient) (m r : SessionValue) (k n : ℕ)
    (out mid last : List ℕ) → HandsPackets h a (Some (offered_open_of config h m)) k out mid → OnlySends m
    → AreHanded config h m mid r.state n last → but_for_cursors r ≡ but_for_cursors (record m { state = r.state })
    → HandsPackets h a (Some (offered_open_of config h r)) (k + n) out last
hands-run config h a m r k n out mid last before only handed same =
    subst (λ o. HandsPackets h a o (k + n) out last)
    (sym (ap₂ (λ (p : Seen) (q : Client). let t : Option OpenClient =
    Some (record { view = view_in config p; client = offered h q }) in t)
    (ap (λ (s : SessionValue). s.places) same) (client-same config h r (record m { state = r.state }) same)))
    (hands-each config h a m k out mid before only r.state n last handed)

-- Where nothing is handed any more, what comes next was made to wait.
pub hands-last : (config : Config) (h : List Arrival) (a : Option OpenClient) (m r : SessionValue) (n : ℕ)
    (out mid : List ℕ) → HandsPackets h a (Some (offered_open_of config h m)) n out mid
    → client_in config h r ≡ offered h (client_in config h m) → r.places ≡ m.places
    → HandsPackets h a (Some (open_client_of config h r)) n out mid
hands-last config h a m r n out mid before client places =
    subst (λ o. HandsPackets h a o n out mid)
    (sym (ap₂ (λ (p : Seen) (q : Client). let t : Option OpenClient =
    Some (record { view = view_in config p; client = q }) in t) places client)) before

pub still-sends : (m r : SessionValue) → OnlySends m → is_transfer r.state ≡ true
    → but_for_cursors r ≡ but_for_cursors (record m { state = r.state }) → OnlySends r
still-sends m r only sends same = record {
  sends = sends;
  nothing = ap (λ (s : SessionValue). s.waiting) same ∙ only.nothing;
  read = ap (λ (s : SessionValue). s.unread) same ∙ only.read;
}

transfer-idle : (config : Config) (h : List Arrival) (s : SessionValue) (t : State) → is_transfer t ≡ true
    → is_ending (client_in config h (record s { state = t })).state ≡ false
transfer-idle config h s Negotiating sends = absurd cc
transfer-idle config h s (Listing made) sends = absurd cc
transfer-idle config h s Starting sends = absurd cc
transfer-idle config h s (Transfer next) sends = refl
transfer-idle config h s Ending sends = absurd cc

-- what an offer found that chose nothing
pub nothing-found : (config : Config) (h : List Arrival) (m r : SessionValue) → OnlySends m
    → but_for_cursors r ≡ but_for_cursors m → Idle ≡ offer_of (client_in config h r)
nothing-found config h m r only same =
    sym (ap₂ offer_when
    (ap is_nothing (ap (λ (s : SessionValue). s.waiting) same ∙ only.nothing))
    (transfer-idle config h r r.state
    (ap is_transfer (ap (λ (s : SessionValue). s.state) same) ∙ only.sends)))

-- and one that has END waiting
pub end-found : (config : Config) (h : List Arrival) (r : SessionValue) → is_nothing r.waiting ≡ false
    → Bytes ≡ offer_of (client_in config h r)
end-found config h r some = sym (ap (λ b. offer_when b (is_ending (client_in config h r).state)) some)

idle-by : (config : Config) (rings : RingsValue) (s : SessionValue) (t : State) → is_transfer t ≡ true
    → Sleeps rings s → idle_in config rings s t
idle-by config rings s Negotiating sends sleeps = absurd cc
idle-by config rings s (Listing made) sends sleeps = absurd cc
idle-by config rings s Starting sends sleeps = absurd cc
idle-by config rings s (Transfer next) sends sleeps = sleeps
idle-by config rings s Ending sends sleeps = absurd cc

pub sleeper-idle : (config : Config) (rings : RingsValue) (m r : SessionValue) → OnlySends m
    → but_for_cursors r ≡ but_for_cursors m → Sleeps rings r → IsIdle config rings r
sleeper-idle config rings m r only same sleeps = record {
  by_state = idle-by config rings r r.state
      (ap is_transfer (ap (λ (s : SessionValue). s.state) same) ∙ only.sends) sleeps;
}

-- the same of the session in a slot
pub hands-in-slot : (config : Config) (h : List Arrival) (old new : Slab SessionValue) (slot n : ℕ)
    (a r : SessionValue) (out out' : List ℕ) → get old slot ≡ Some a → Updates old new slot (Some r)
    → HandsPackets h (Some (open_client_of config h a)) (Some (open_client_of config h r)) n out out'
    → HandsPackets h (open_client config h (Some (get old slot))) (open_client config h (Some (get new slot))) n out
    out'
hands-in-slot config h old new slot n a r out out' there updates hands =
    subst (λ o. HandsPackets h (open_client config h (Some o)) (open_client config h (Some (get new slot))) n out out')
    (sym there)
    (subst (λ o. HandsPackets h (Some (open_client_of config h a)) (open_client config h (Some o)) n out out')
    (sym updates.changed) hands)

pub slot-goes : (config : Config) (h : List Arrival) (old new : Slab SessionValue) (slot n : ℕ) (out out' : List ℕ)
    → HandsPackets h (open_client config h (Some (get old slot))) (open_client config h (Some (get new slot))) n out
    out'
    → ((other : ℕ) → other ≢ slot → get new other ≡ get old other)
    → SlotGoesOn config h old new slot (handing_on h n)
slot-goes config h old new slot n out out' hands others = record { here = hands.goes; others = others }

-- a client that is over stays so
pub handing-over : (h : List Arrival) (n : ℕ) → KeepsOver (handing_on h n)
unfolding handing_on
handing-over h zero v c over = over
handing-over h (suc n) v c over =
    offered-over h v (taking h 520 v (handing_on h n v c))
    (taken-over h 520 v (handing_on h n v c) (handing-over h n v c over))

-- ---- the worlds

-- the world after so many packets
abbrev pub world_on : Config → World → ℕ → ℕ → World
world_on config w k zero = w
world_on config w k (suc n) = step config (world_on config w k n) (Take k 520)

-- the open client of a number that is offered something
abbrev pub offered_at : Config → World → ℕ → Option OpenClient
offered_at config w k = open_client_at (slice_get (step config w (Take k 0)).connections k)

-- the world of an offer, in which the client was handed so many packets
abbrev pub going : Config → World → ℕ → ℕ → World
going config w k n =
    record w { connections = at (step config w (Take k 0)).connections k (changed (handing_on w.history n)) }

changed-there : (cs : List Connection) (k : ℕ) (f : View → Client → Client)
    → client_of (slice_get (at cs k (changed f)) k) ≡ client_of_open (goes_on f (open_client_at (slice_get cs k)))
changed-there cs k f = ap client_of (slice_get-at_same cs k (changed f)) ∙ by (slice_get cs k)
  where
    inner : (v : View) (o : Option Client)
        → option_map (f v) o ≡ client_of_open (goes_on f (open_client_with v o))
    inner v None = refl
    inner v (Some c) = refl

    by : (o : Option Connection)
        → client_of (option_map (changed f) o) ≡ client_of_open (goes_on f (open_client_at o))
    by None = refl
    by (Some x) = inner x.view x.client

-- what waits for a client, if there is one
abbrev waits_of : Option Client → List ℕ
waits_of o = unwrap_or (option_map (λ c. c.waiting) o) []

waits-open : (o : Option OpenClient) → waits_of (client_of_open o) ≡ waiting_at o
waits-open None = refl
waits-open (Some x) = refl

lent-offered : (h : List Arrival) (o : Option Client)
    → unwrap_or (option_map (λ c. (offered h c).waiting) o) [] ≡ waits_of (option_map (offered h) o)
lent-offered h None = refl
lent-offered h (Some c) = refl

module _ (config : Config) (w : World) (k : ℕ) where
  -- the client after an offer, where the world is known
  client-on : (n : ℕ) → going config w k n ≡ step config (world_on config w k n) (Take k 0)
      → option_map (offered (world_on config w k n).history) (client_at (world_on config w k n) k)
      ≡ client_of_open (goes_on (handing_on w.history n) (offered_at config w k))
  client-on n same =
      sym (offered-there config (world_on config w k n) k)
      ∙ sym (ap (λ (x : World). client_of (slice_get x.connections k)) same)
      ∙ changed-there (step config w (Take k 0)).connections k (handing_on w.history n)

  lent-on : (n : ℕ) → going config w k n ≡ step config (world_on config w k n) (Take k 0)
      → lent_to (world_on config w k n) k ≡ waiting_after w.history n (offered_at config w k)
  lent-on n same =
      lent-offered (world_on config w k n).history (client_at (world_on config w k n) k)
      ∙ ap waits_of (client-on n same)
      ∙ waits-open (goes_on (handing_on w.history n) (offered_at config w k))

  some-lent : (x : World) (size : length (lent_to x k) ≡ 520) (c : Client)
      → client_of (slice_get x.connections k) ≡ Some c → is_nothing (offered x.history c).waiting ≡ false
  some-lent x size c there =
      some_wait (offered x.history c).waiting
      (sym (ap (λ (o : Option Client). length (unwrap_or (option_map (λ d. (offered x.history d).waiting) o) [])) there)
      ∙ size)

  pub same-world : (n : ℕ) → AreWhole w.history n (offered_at config w k)
      → going config w k n ≡ step config (world_on config w k n) (Take k 0)
  unfolding handing_on AreWhole
  same-world zero whole =
      ap (λ (cs : List Connection). record w { connections = cs })
      (same-at (step config w (Take k 0)).connections k (handing_on w.history 0) (λ x c there client. refl))
  same-world (suc n) whole =
      let same = same-world n whole.0 in
      let size : length (lent_to (world_on config w k n) k) ≡ 520 = ap length (lent-on n same) ∙ whole.1 in
      sym (ap (λ (cs : List Connection). record w { connections = cs })
      (at-composed (step config w (Take k 0)).connections k (handing_on w.history n) (handing w.history 520)))
      ∙ take-then-offer config (going config w k n) k 520
      ∙ ap (λ x. step config (step config x (Take k 520)) (Take k 0)) same
      ∙ ap (λ x. step config x (Take k 0))
      (offer-then-take config (world_on config w k n) k 520 (some-lent (world_on config w k n) size))

  -- one more at the end
  fills-more : (a b : World) (ps : List (List ℕ)) (p : List ℕ) → Fills config k a ps b → length p ≡ 520
      → lent_to b k ≡ p → Fills config k a (ps ++ p ∷ []) (step config b (Take k 520))
  fills-more a b ps p none size lent =
      more p (omega (arith, size)) lent
      (subst (λ n. Fills config k (step config b (Take k n)) [] (step config b (Take k 520))) (sym size) none)
  fills-more a b ps p (more bytes some is rest) size lent =
      more bytes some is (fills-more (step config a (Take k (length bytes))) b _ p rest size lent)

  pub fills-on : (n : ℕ) → AreWhole w.history n (offered_at config w k)
      → Fills config k w (packets_of w.history n (offered_at config w k)) (world_on config w k n)
  unfolding AreWhole packets_of
  fills-on zero whole = none
  fills-on (suc n) whole =
      fills-more w (world_on config w k n) (packets_of w.history n (offered_at config w k))
      (waiting_after w.history n (offered_at config w k)) (fills-on n whole.0) whole.1
      (lent-on n (same-world n whole.0))

  offers-of : (h : List Arrival) (o : Option Client)
      → option_map offer_of (option_map (offered h) o) ≡ option_map (λ c. offer_of (offered h c)) o
  offers-of h None = refl
  offers-of h (Some c) = refl

  -- what an offer found, of the client as it was offered something
  pub found-open : (found : Result Offer Gone)
      → result_ok found ≡ option_map (λ c. offer_of (offered w.history c)) (client_at w k)
      → result_ok found ≡ option_map offer_of (client_of_open (offered_at config w k))
  found-open found answer =
      answer ∙ sym (offers-of w.history (client_at w k))
      ∙ ap (option_map offer_of) (sym (offered-there config w k)
      ∙ client_of-open (slice_get (step config w (Take k 0)).connections k))

  pub is-filled : (out out' : List ℕ) (filled : Filled) (server' : ServerValue) (after : Option OpenClient)
      → HandsPackets w.history (offered_at config w k) after filled.count out out'
      → StandsAt server' config (going config w k filled.count)
      → result_ok filled.found ≡ option_map offer_of (client_of_open after)
      → IsFilled config w k out out' filled server'
  is-filled out out' filled server' after hands stands found =
      let n = filled.count in
      let same = same-world n hands.whole in
      record {
        pieces = packets_of w.history n (offered_at config w k);
        beyond = world_on config w k n;
        fills = fills-on n hands.whole;
        offers = record {
          stands = subst (StandsAt server' config) same stands;
          answer = found ∙ ap (λ o. option_map offer_of (client_of_open o)) hands.goes
              ∙ sym (ap (option_map offer_of) (client-on n same))
              ∙ offers-of (world_on config w k n).history (client_at (world_on config w k n) k);
        };
        bytes = hands.bytes;
        sizes = packets-whole w.history n (offered_at config w k) hands.whole;
        count = packets-counted w.history n (offered_at config w k);
      }

-- A server of which the client in a slot was handed packets.
pub filled-there : (g : Config) (rings : RingsValue) (c : Clients) (number : ℕ) (config : Config) (w : World)
    (marks : List Bool) (new : Slab SessionValue) (slot : ℕ) → IsTable c → slot_in c.opened.items number ≡ Some slot
    → StandsAt (serving g rings c) config (step config w (Take number 0)) → (found : Result Offer Gone)
    → result_ok found ≡ option_map (λ x. offer_of (offered w.history x)) (client_at w number)
    → (out out' : List ℕ) (filled : Filled)
    → HandsPackets w.history (open_client g w.history (Some (get c.slots slot)))
    (open_client g w.history (Some (get new slot))) filled.count out out'
    → ((other : ℕ) → other ≢ slot → get new other ≡ get c.slots other)
    → (result_ok found ≡ option_map offer_of (client_of_open (open_client g w.history (Some (get c.slots slot))))
    → result_ok filled.found ≡ option_map offer_of (client_of_open (open_client g w.history (Some (get new slot)))))
    → IsFilled config w number out out' filled (record (serving g rings (record c { slots = new })) { marks = marks })
filled-there g rings c number config w marks new slot table there here found answer out out' filled hands others next =
    let at = opened-there g rings c number config (step config w (Take number 0)) slot table there here in
    is-filled config w number out out' filled
    (record (serving g rings (record c { slots = new })) { marks = marks })
    (open_client g w.history (Some (get new slot)))
    (subst (λ o. HandsPackets w.history o (open_client g w.history (Some (get new slot))) filled.count out out') at
    hands)
    (with-marks (serving g rings (record c { slots = new })) marks config (going config w number filled.count)
    (goes-there g rings c number config (step config w (Take number 0)) (handing_on w.history filled.count) new slot
    table there (slot-goes g w.history c.slots new slot filled.count out out' hands others) here))
    (next (found-open config w number found answer ∙ ap (λ o. option_map offer_of (client_of_open o)) (sym at)))
