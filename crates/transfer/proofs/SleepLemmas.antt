-- Transfers that wait for records.
use Rattle.std.proofs.Common.{◌≡◌, ℕ, ℤ, zero, suc, Bool, true, false, ◌&&◌, List, [], ◌∷◌, Option, Some, None}
use Rattle.std.proofs.Common.{option_map, filter_map, slice_get, unwrap_or, nat_le, if◌then◌else◌, codes, refl, sym, ap}
use Rattle.std.proofs.Common.{ap₂, subst, ◌∙◌}
use Rattle.std.specs.Prelude.{find, is_some}
use Rattle.std.specs.List.{list_all, list_any}
use Rattle.std.proofs.lemmas.List.Elements.{filter_map-append}
use Rattle.protocol.specs.Catalog.{Config}
use Rattle.protocol.specs.History.{Arrival, Request, next, is_over, is_of, holds_after, holds_and_wants}
use Rattle.protocol.specs.Client.{Client, chosen, is_nothing, offered, packet_for}
use Rattle.protocol.specs.Client.State.{Ending as ClientEnding}
use Rattle.protocol.proofs.FoundLemmas.{both, Found, first_position_found}
use Rattle.protocol.proofs.Places.{slice_get-seam}
use Rattle.catalog.specs.Places.{station_at}
use Rattle.station_ring.specs.declared.held.Held.{Held}
use Rattle.station_ring.specs.Rings.{RingValue}
use Rattle.station_ring.specs.HeldRecords.{RingsValue, holdings_of}
use Rattle.station_ring.proofs.RingsLemmas.{ring_is, station_is_nowhere}
use Rattle.station_ring.proofs.HistoryLemmas.{holds_after-nowhere, holds_after-ring, walk_all}
use Rattle.sl_lines.specs.declared.actions.Action.{Action}
use Rattle.sl_lines.specs.declared.actions.Action.TheVariants.{Data, Fetch, Time}
use Rattle.session_state.specs.NamedValues.{Choice}
use Rattle.session_state.specs.declared.session.State.TheVariants.{Transfer}
use Rattle.session_state.specs.Choices.{chosen_of, request_in}
use Rattle.session_state.specs.Sessions.{SessionValue, client_in}
use Rattle.transfer.specs.Cursors.{IsReached, OfAll, is_after_end}
use Rattle.transfer.specs.Choosing.{is_over_of, least_of}
use Rattle.transfer.specs.Sleeping.{HasNothing, MayCome, MoreMayCome, Sleeps, over_in, starts_after}
use Rattle.transfer.specs.Wanting.{wants_held}
use Rattle.transfer.proofs.PassedLemmas.{same-next}
use Rattle.transfer.proofs.ChooseLemmas.{leads-nowhere, offered-transfer, over-cons, requests_of}
use Rattle.transfer.proofs.NextLemmas.{first-comes, nothing-asked, nowhere-comes}
use Rattle.transfer.proofs.PacketLemmas.{next-asked}
use Rattle.transfer.proofs.PositionLemmas.{Test, first_from, next-append, next-none}
use Rattle.transfer.proofs.RestLemmas.{reached-nothing, reached-nowhere, reached-ring, same-ring}

-- ---- a named station of which nothing comes now

pub nothing-of-none : (rings : RingsValue) (q : ℕ) (c : Choice) → c.action ≡ None → HasNothing rings q c
nothing-of-none rings q c none = record {
  reached = reached-nothing rings c none;
  unwanted = λ r there asked. absurd (let t : false ≡ true = sym (ap is_some none) ∙ asked in cc);
}

pub nothing-of-nowhere : (rings : RingsValue) (q : ℕ) (c : Choice) → slice_get rings.rings c.station ≡ None
    → HasNothing rings q c
nothing-of-nowhere rings q c none = record {
  reached = reached-nowhere rings c none;
  unwanted = λ r there asked. absurd (let t : None ≡ Some r = sym none ∙ there in cc);
}

none-found : (o : Option Held) → None ≡ option_map (λ x. x.stamp) o → o ≡ None
none-found None e = refl
none-found (Some x) e = absurd cc

pub nothing-of-ring : (rings : RingsValue) (q : ℕ) (c : Choice) (r : RingValue)
    → slice_get rings.rings c.station ≡ Some r → c.cursor.ring_place ≡ r.pushes
    → None ≡ option_map (λ x. x.stamp) (find (wants_held c q) r.held) → HasNothing rings q c
nothing-of-ring rings q c r there end none = record {
  reached = reached-ring rings c r there end;
  unwanted = λ x at asked. subst (λ (y : RingValue). find (wants_held c q) y.held ≡ None)
      (same-ring r x (slice_get rings.rings c.station) there at) (none-found _ none);
}

pub all-reached : (rings : RingsValue) (q : ℕ) (cs : List Choice) → OfAll (HasNothing rings q) cs
    → OfAll (IsReached rings) cs
all-reached rings q cs nothing i c at = (nothing i c at).reached

-- ---- all of them

pub sleeps-so : (rings : RingsValue) (s : SessionValue) (q : ℕ) → s.state ≡ Transfer q → s.waiting ≡ []
    → OfAll (HasNothing rings q) (chosen_of s.mode) → MoreMayCome rings (chosen_of s.mode) → Sleeps rings s
sleeps-so rings s q state nothing none more = record {
  nothing_waits = nothing;
  unwanted = λ next i c r now at there asked.
      let same : q ≡ next = same-next q next (sym state ∙ now) in
      subst (λ n. find (wants_held c n) r.held ≡ None) same ((none i c at).unwanted r there asked);
  more = more;
}

-- ---- what the definitions say of one that waits

one-none : (config : Config) (h : List Arrival) (rings : RingsValue) (c : Choice) (q : ℕ) → rings ≡ holdings_of config h
    → ((r : RingValue) → slice_get rings.rings c.station ≡ Some r → is_some c.action ≡ true
    → find (wants_held c q) r.held ≡ None) → None ≡ next h (filter_map (request_in config) (c ∷ [])) q
one-none config h rings c q holds unwanted = by (is_some c.action) refl
  where
    there : (o : Option RingValue) → slice_get rings.rings c.station ≡ o → is_some c.action ≡ true
        → None ≡ next h (filter_map (request_in config) (c ∷ [])) q
    there None none asked = nowhere-comes walk_all config c h rings q asked holds none
    there (Some r) some asked =
        sym (ap (option_map (λ (x : Held). x.stamp)) (unwanted r some asked))
        ∙ first-comes walk_all config c h rings r q asked holds some

    by : (b : Bool) → is_some c.action ≡ b → None ≡ next h (filter_map (request_in config) (c ∷ [])) q
    by false none = nothing-asked config c h q none
    by true asked = there (slice_get rings.rings c.station) refl asked

none-next : (config : Config) (h : List Arrival) (rings : RingsValue) (cs : List Choice) (q : ℕ)
    → rings ≡ holdings_of config h
    → ((i : ℕ) (c : Choice) (r : RingValue) → slice_get cs i ≡ Some c → slice_get rings.rings c.station ≡ Some r
    → is_some c.action ≡ true → find (wants_held c q) r.held ≡ None)
    → None ≡ next h (filter_map (request_in config) cs) q
none-next config h rings [] q holds unwanted = sym (next-none h q)
none-next config h rings (c ∷ cs) q holds unwanted =
    ap₂ least_of (one-none config h rings c q holds (λ r. unwanted 0 c r refl))
    (none-next config h rings cs q holds (λ i. unwanted (suc i)))
    ∙ sym (ap (λ rs. next h rs q) (filter_map-append (request_in config) (c ∷ []) cs)
    ∙ next-append h (filter_map (request_in config) (c ∷ [])) (filter_map (request_in config) cs) q)

-- One that may still send more is not over.
may-not-over : (config : Config) (h : List Arrival) (rings : RingsValue) (c : Choice) → rings ≡ holdings_of config h
    → MayCome rings c → is_over_of h (station_at config.entries c.station) c.action ≡ false
may-not-over config h rings c holds may = by c.action may.more
  where
    past : (last : ℤ) (begin : Option ℤ) (o : Option RingValue) → slice_get rings.rings c.station ≡ o
        → starts_after o begin last ≡ false → holds_after (station_at config.entries c.station) last h ≡ false
    past last begin None none more =
        ap (λ s. holds_after s last h) (station_is_nowhere config h c.station rings holds (sym none))
        ∙ sym (holds_after-nowhere h last)
    past last begin (Some r) some more =
        holds_after-ring (station_at config.entries c.station) last h
        ∙ sym
        (ap (λ (x : RingValue). list_any (is_after_end (Some (Time begin (Some last)))) x.held)
        (ring_is config h c.station rings r holds (sym some)))
        ∙ more

    by : (a : Option Action) → over_in (slice_get rings.rings c.station) a ≡ false
        → is_over_of h (station_at config.entries c.station) a ≡ false
    by None more = more
    by (Some (Data number begin)) more = refl
    by (Some (Fetch number begin)) more = more
    by (Some (Time begin None)) more = refl
    by (Some (Time begin (Some last))) more = past last begin (slice_get rings.rings c.station) refl more

some-not-over : (config : Config) (h : List Arrival) (cs : List Choice) (i : ℕ) (c : Choice) → slice_get cs i ≡ Some c
    → is_over_of h (station_at config.entries c.station) c.action ≡ false
    → list_all (is_over h) (filter_map (request_in config) cs) ≡ false
some-not-over config h [] i c at not = absurd cc
some-not-over config h (x ∷ cs) zero c at not =
    let same : x ≡ c = (let t : Some x ≡ Some c = at in cc) in
    over-cons config h x cs ∙ ap (λ b. b && list_all (is_over h) (filter_map (request_in config) cs))
    (ap (λ y. is_over_of h (station_at config.entries y.station) y.action) same ∙ not)
some-not-over config h (x ∷ cs) (suc i) c at not =
    over-cons config h x cs ∙ ap (λ b. is_over_of h (station_at config.entries x.station) x.action && b)
    (some-not-over config h cs i c at not) ∙ and-false (is_over_of h (station_at config.entries x.station) x.action)
  where
    and-false : (b : Bool) → (b && false) ≡ false
    and-false true = refl
    and-false false = refl

-- An offer to one that waits changes nothing.
pub sleeps-idle : (config : Config) (h : List Arrival) (rings : RingsValue) (s : SessionValue) (q : ℕ) → Sleeps rings s
    → s.state ≡ Transfer q → rings ≡ holdings_of config h → client_in config h s ≡ offered h (client_in config h s)
sleeps-idle config h rings s q sleeps state holds =
    leads-nowhere config h s q state sleeps.nothing_waits
    (none-next config h rings (chosen_of s.mode) q holds (λ i c r. sleeps.unwanted q i c r state))
    (some-not-over config h (chosen_of s.mode) sleeps.more.index sleeps.more.choice sleeps.more.there
    (may-not-over config h rings sleeps.more.choice holds sleeps.more.may))

-- It goes on waiting while the rings of the stations that it asks for stay as they are.
pub sleeps-on : (before after : RingsValue) (s : SessionValue)
    → ((i : ℕ) (c : Choice) → slice_get (chosen_of s.mode) i ≡ Some c → is_some c.action ≡ true
    → slice_get after.rings c.station ≡ slice_get before.rings c.station) → Sleeps before s → Sleeps after s
sleeps-on before after s same sleeps = record {
  nothing_waits = sleeps.nothing_waits;
  unwanted = λ next i c r state at there asked. sleeps.unwanted next i c r state at
      (sym (same i c at asked) ∙ there) asked;
  more = record {
    index = sleeps.more.index;
    choice = sleeps.more.choice;
    there = sleeps.more.there;
    may = record {
      asked = sleeps.more.may.asked;
      more = ap (λ (o : Option RingValue). over_in o sleeps.more.choice.action)
          (same sleeps.more.index sleeps.more.choice sleeps.more.there sleeps.more.may.asked) ∙ sleeps.more.may.more;
    };
  };
}

-- ---- what is offered where something is found

some-packet : (h : List Arrival) (p : ℕ) (a : Arrival) (rs : List Request) → list_any (λ r. is_of r.station a) rs ≡ true
    → is_nothing (packet_for h p a rs) ≡ false
some-packet h p a [] e = absurd cc
some-packet h p a (r ∷ rs) e = both (is_of r.station a) (λ y. rw y refl) (λ n. rw n (some-packet h p a rs (rw n at e)))

next-there : (h : List Arrival) (rs : List Request) (q p : ℕ) → next h rs q ≡ Some p
    → (a : Arrival) × (slice_get h p ≡ Some a)
next-there h rs q p e =
    let wanted : Test = λ i later a. list_any (holds_and_wants i later a) rs in
    let late : Test = λ i later a. nat_le q i && wanted i later a in
    let found : Found late h p = first_position_found late h [] h p refl (sym (first_from wanted q h) ∙ e) in (
      found.arrival,
      ap₂ slice_get (sym found.whole) (sym found.at)
          ∙ slice_get-seam found.before found.arrival found.later,
    )

pub offers-packet : (config : Config) (h : List Arrival) (s : SessionValue) (q p : ℕ) → s.state ≡ Transfer q
    → s.waiting ≡ [] → next h (requests_of config s) q ≡ Some p
    → is_nothing (offered h (client_in config h s)).waiting ≡ false
offers-packet config h s q p state nothing e =
    let there = next-there h (requests_of config s) q p e in
    ap (λ (c : Client). is_nothing c.waiting) (offered-transfer config h s q state nothing
    ∙ ap (chosen h (requests_of config s) q (client_in config h s)) e)
    ∙ ap (λ o. is_nothing (unwrap_or (option_map (λ a. packet_for h p a (requests_of config s)) o) [])) there.1
    ∙ some-packet h p there.0 (requests_of config s) (next-asked h (requests_of config s) q p there.0 e there.1)

pub offers-end : (config : Config) (h : List Arrival) (s : SessionValue) (q : ℕ) → s.state ≡ Transfer q → s.waiting ≡ []
    → next h (requests_of config s) q ≡ None → list_all (is_over h) (requests_of config s) ≡ true
    → is_nothing (offered h (client_in config h s)).waiting ≡ false
offers-end config h s q state nothing e over =
    ap (λ (c : Client). is_nothing c.waiting)
    (offered-transfer config h s q state nothing ∙ ap (chosen h (requests_of config s) q (client_in config h s)) e
    ∙ ap
    (λ b. if b then record (client_in config h s) {
      state = ClientEnding;
      unread = [];
      waiting = codes "END";
    } else client_in config h s) over)

pub offers-nothing : (config : Config) (h : List Arrival) (rings : RingsValue) (s : SessionValue) (q : ℕ)
    → Sleeps rings s → s.state ≡ Transfer q → rings ≡ holdings_of config h
    → is_nothing (offered h (client_in config h s)).waiting ≡ true
offers-nothing config h rings s q sleeps state holds =
    ap (λ (c : Client). is_nothing c.waiting) (sym (sleeps-idle config h rings s q sleeps state holds))
    ∙ ap is_nothing sleeps.nothing_waits
