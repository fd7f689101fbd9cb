-- What a record that arrives does to what a server stands for.
use Rattle.std.proofs.Common.{◌≡◌, ◌≢◌, ℕ, ◌+◌, ◌<◌, true, false, Bool, is_some, is_ok, List, [], ◌∷◌, ◌++◌, length}
use Rattle.std.proofs.Common.{position, Option, Some, None, Result, Ok, Err, slice_get, nat_lt, lt-ltb, suc, unwrap_or}
use Rattle.std.proofs.Common.{option_map, if◌then◌else◌, refl, sym, ap, subst, ◌∙◌, arith}
use Rattle.std.specs.List.{list_any, position_or_len}
use Rattle.std.proofs.lemmas.Bool.Decides.{nat_tests}
use Rattle.std.proofs.lemmas.List.Quantifiers.{position-Some}
use Rattle.std.proofs.lemmas.List.Folds.{list_any_at}
use Rattle.std.proofs.lemmas.Option.{slice_get-get_or}
use Rattle.protocol.specs.declared.record.RecordFault.{RecordFault}
use Rattle.protocol.specs.Record.{Facts, header_of}
use Rattle.protocol.specs.Catalog.{Config, Entry, has_codes}
use Rattle.protocol.specs.History.{Arrival, is_of, number_at}
use Rattle.protocol.specs.World.{World, accepted, arrival_with, arrived, is_configured, step}
use Rattle.protocol.specs.World.Event.{Arrive}
use Rattle.protocol.proofs.FoundLemmas.{both}
use Rattle.catalog.specs.Places.{station_at, nowhere, HasDistinctCodes}
use Rattle.station_ring.specs.declared.held.Summary.{Summary}
use Rattle.station_ring.specs.HeldRecords.{AllGrow, GrowByOne, RingsValue, holdings_of, summary_of}
use Rattle.transfer.proofs.PassedLemmas.{grown-passed}
use Rattle.session_state.specs.declared.session.State.{State}
use Rattle.session_state.specs.declared.session.State.TheVariants.{Negotiating, Listing, Starting, Transfer, Ending}
use Rattle.session_state.specs.Sessions.{SessionValue, client_in, session_view}
use Rattle.server_core.specs.declared.arrivals.ArriveFault.{ArriveFault}
use Rattle.server_core.specs.declared.arrivals.ArriveFault.TheVariants.{UnknownStation}
use Rattle.server_core.specs.Arrivals.{answer_to, numbered, place_of, place_or_unknown, placed_by, IsPlaced}
use Rattle.slab.specs.Slab.{Slab}
use Rattle.server_core.specs.ServerValues.{IsSettled, ServerValue, StandsAt, open_client, addressed, OpenClient}
use Rattle.server_core.specs.ServerValues.{AreSettled}

-- ---- who a record is of

-- Some element passes where the first that does has a place.
any-position : {X : Type 0} (p : X → Bool) (xs : List X) → list_any p xs ≡ nat_lt (position_or_len p xs) (length xs)
any-position p [] = refl
any-position p (x ∷ xs) = both (p x) (λ y. rw y (sym (lt-ltb 0 (suc (length xs)) (omega arith))))
    (λ n. rw n (any-position p xs ∙ shifted (position_or_len p xs) (length xs)))
  where
    shifted : (i n : ℕ) → nat_lt i n ≡ nat_lt (1 + i) (suc n)
    shifted i n = grind (arith, nat_tests)

none-passes : {X : Type 0} (p : X → Bool) (xs : List X) → position p xs ≡ None → list_any p xs ≡ false
none-passes p xs e =
    both (nat_lt (position_or_len p xs) (length xs))
    (λ y. absurd (let some : Some (position_or_len p xs) ≡ None = rw y at e in cc))
    (λ n. any-position p xs ∙ n)

no-entry : Entry
no-entry = record { station = nowhere; access = None }

-- The station at the place of a record is there and has its codes.
pub place-there : (config : Config) (x : Facts) (place : ℕ) → place_of config x ≡ Some place
    → (place < length config.entries) × (has_codes x.network x.station (station_at config.entries place) ≡ true)
place-there config x place e =
    let first = position-Some (λ y. has_codes x.network x.station y.station) config.entries place no-entry e in (
      first.0,
      ap (λ o. has_codes x.network x.station (unwrap_or (option_map (λ y. y.station) o) nowhere))
          (slice_get-get_or config.entries place no-entry first.0) ∙ first.1,
    )

configured-there : (config : Config) (x : Facts) (place : ℕ) → place_of config x ≡ Some place
    → is_configured config x ≡ true
configured-there config x place e =
    let first = position-Some (λ y. has_codes x.network x.station y.station) config.entries place no-entry e in
    list_any_at (λ y. has_codes x.network x.station y.station) config.entries place no-entry first.0 first.1

-- the arrival that a record is
abbrev pub arrival_of : List ℕ → Facts → Arrival
arrival_of r x = record { bytes = r; facts = x }

-- A record of a station that is there is accepted.
pub accepted-there : (config : Config) (r : List ℕ) (place : ℕ) (summary : Summary)
    (is : IsPlaced config r place summary) → accepted config r ≡ Some (arrival_of r is.facts)
accepted-there config r place summary is =
    ap (arrival_with config r) is.is_read
    ∙ ap (λ b. if b then Some (arrival_of r is.facts) else None) (configured-there config is.facts place is.at)

-- One that is refused is not.
refused : (config : Config) (r : List ℕ) (fault : ArriveFault) → placed_by config (header_of r) ≡ Err fault
    → accepted config r ≡ None
refused config r fault e = by (header_of r) e
  where
    unknown : (x : Facts) (o : Option ℕ) → place_of config x ≡ o → place_or_unknown o ≡ Err fault
        → is_configured config x ≡ false
    unknown x None none q = none-passes (λ y. has_codes x.network x.station y.station) config.entries none
    unknown x (Some place) some q = absurd cc

    by : (q : Result Facts RecordFault) → placed_by config q ≡ Err fault → arrival_with config r q ≡ None
    by (Err f) q = refl
    by (Ok x) q = ap (λ b. if b then Some (arrival_of r x) else None) (unknown x (place_of config x) refl q)

-- ---- what a client is after an arrival

-- A session that is not about to start its transfer is the same client after whatever arrived.
client-later : (config : Config) (h later : List Arrival) (s : SessionValue) → s.state ≢ Starting
    → client_in config later s ≡ client_in config h s
client-later config h later s settled = by s.state refl
  where
    by : (t : State) → s.state ≡ t
        → client_in config later (record s { state = t }) ≡ client_in config h (record s { state = t })
    by Negotiating e = refl
    by (Listing made) e = refl
    by Starting e = absurd (settled e)
    by (Transfer next) e = refl
    by Ending e = refl

opened-later : (config : Config) (h later : List Arrival) (o : Option (Option SessionValue))
    → ((s : SessionValue) → o ≡ Some (Some s) → s.state ≢ Starting)
    → open_client config later o ≡ open_client config h o
opened-later config h later None settled = refl
opened-later config h later (Some None) settled = refl
opened-later config h later (Some (Some s)) settled =
    ap (λ c. let x : Option OpenClient = Some (record { view = session_view config s; client = c }) in x)
    (client-later config h later s (settled s refl))

-- ---- what a server stands for after an arrival

-- What the rings say of an arrival of the station at a place.
abbrev pub Arrives : RingsValue → RingsValue → ℕ → List ℕ → Summary → Type 0
Arrives old new place bytes summary = (config : Config) (h : List Arrival) (a : Arrival) → old ≡ holdings_of config h
    → HasDistinctCodes config.entries → is_of (station_at config.entries place) a ≡ true → a.bytes ≡ bytes
    → summary_of a.facts ≡ summary → new ≡ holdings_of config (h ++ a ∷ [])

pub arrive-stands : (old new : ServerValue) (r : List ℕ) (place : ℕ) (summary : Summary)
    → IsPlaced old.config r place summary → new.config ≡ old.config → new.sessions ≡ old.sessions
    → new.addresses ≡ old.addresses → HasDistinctCodes old.config.entries
    → ((k : ℕ) (s : SessionValue) → slice_get old.sessions k ≡ Some (Some s) → IsSettled old.config old.rings s)
    → Arrives old.rings new.rings place r summary → (config : Config) (w : World) → StandsAt old config w
    → StandsAt new config (step config w (Arrive r))
arrive-stands old new r place summary is same kept from distinct settled arrives config w stands =
    subst (λ c. StandsAt new c (step c w (Arrive r))) stands.config_is here
  where
    a : Arrival
    a = arrival_of r is.facts

    holds : new.rings ≡ holdings_of old.config (w.history ++ a ∷ [])
    holds = arrives old.config w.history a stands.holds distinct
        (place-there old.config is.facts place is.at).1 refl is.kept

    later : (k : ℕ) → open_client old.config (w.history ++ a ∷ []) (slice_get old.sessions k)
        ≡ open_client old.config w.history (slice_get old.sessions k)
    later k = opened-later old.config w.history (w.history ++ a ∷ []) (slice_get old.sessions k)
        (λ s e. (settled k s e).started)

    there : StandsAt new old.config (record w { history = w.history ++ a ∷ [] })
    there = record {
      config_is = same;
      holds = holds ∙ ap (λ g. holdings_of g (w.history ++ a ∷ [])) (sym same);
      count = ap length kept ∙ stands.count;
      clients = λ k. ap (λ l. open_client old.config (w.history ++ a ∷ []) (slice_get l k)) kept ∙ later k
          ∙ ap (λ g. open_client g w.history (slice_get old.sessions k)) stands.config_is ∙ stands.clients k;
      addresses = λ k. ap (λ l. addressed (slice_get l k)) from ∙ stands.addresses k;
    }

    here : StandsAt new old.config (step old.config w (Arrive r))
    here = subst (λ o. StandsAt new old.config (record w { history = arrived w.history o }))
        (sym (accepted-there old.config r place summary is)) there

pub refused-stands : (old : ServerValue) (r : List ℕ) (fault : ArriveFault)
    → placed_by old.config (header_of r) ≡ Err fault → (config : Config) (w : World) → StandsAt old config w
    → StandsAt old config (step config w (Arrive r))
refused-stands old r fault e config w stands =
    subst (λ o. StandsAt old config (record w { history = arrived w.history o }))
    (sym (refused config r fault (subst (λ c. placed_by c (header_of r) ≡ Err fault) stands.config_is e))) stands

-- ---- what it answers

pub answers-number : (config : Config) (h : List Arrival) (r : List ℕ) (place number : ℕ) (summary : Summary)
    → IsPlaced config r place summary → number ≡ number_at (station_at config.entries place) h (length h)
    → Ok number ≡ answer_to config h r
answers-number config h r place number summary is e =
    ap Ok e
    ∙ sym (ap (λ x. numbered config h (placed_by config x)) is.is_read
    ∙ ap (λ o. numbered config h (place_or_unknown o)) is.at)

-- ---- reading a record

pub placed-unknown : (config : Config) (r : List ℕ) (x : Facts) → header_of r ≡ Ok x → place_of config x ≡ None
    → placed_by config (header_of r) ≡ Err UnknownStation
placed-unknown config r x is none = ap (placed_by config) is ∙ ap place_or_unknown none

-- What sessions have passed stays passed while a record arrives.
pub arrive-settled : (config : Config) (before after : RingsValue) (slots : Slab SessionValue)
    → AllGrow before.rings after.rings → GrowByOne before.rings after.rings → after.arrivals ≡ before.arrivals + 1
    → AreSettled config before slots → AreSettled config after slots
arrive-settled config before after slots grow by_one more settled k s at =
    let was = settled k s at in
    record {
      places = was.places;
      started = was.started;
      passed = grown-passed before after s grow by_one more was.passed;
    }

-- ---- whether a record is accepted

-- A record is answered a number exactly if it is accepted.
pub answered-as-accepted : (config : Config) (h : List Arrival) (r : List ℕ)
    → is_ok (answer_to config h r) ≡ is_some (accepted config r)
answered-as-accepted config h r = by (header_of r)
  where
    inner : (x : Facts) (o : Option ℕ) → place_of config x ≡ o →
        is_ok (numbered config h (place_or_unknown o))
        ≡ is_some (if is_configured config x then Some (arrival_of r x) else None)
    inner x None none =
        sym
        (ap (λ b. is_some (if b then Some (arrival_of r x) else None))
        (none-passes (λ y. has_codes x.network x.station y.station) config.entries none))
    inner x (Some place) some =
        sym (ap (λ b. is_some (if b then Some (arrival_of r x) else None)) (configured-there config x place some))

    by : (q : Result Facts RecordFault)
        → is_ok (numbered config h (placed_by config q)) ≡ is_some (arrival_with config r q)
    by (Err f) = refl
    by (Ok x) = inner x (place_of config x) refl
