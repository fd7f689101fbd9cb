-- What a client is handed depends on the server's stations by its own view alone.
use Rattle.std.proofs.Common.{◌≡◌, ℕ, zero, suc, ◌+◌, ◌&&◌, nat_lt, not, Bool, true, false, List, [], ◌∷◌, map, filter}
use Rattle.std.proofs.Common.{Option, Some, None, Result, Ok, Err, refl, sym, ap, ap₂, ◌∙◌, true≢false, arith}
use Rattle.std.specs.List.{list_any, Contains}
use Rattle.protocol.specs.Record.{Facts, header_of}
use Rattle.protocol.specs.declared.record.RecordFault.{RecordFault}
use Rattle.protocol.specs.Catalog.{Config, Entry, View, view_of, has_codes, sees, is_same_view, is_same_but_for_access}
use Rattle.protocol.specs.World.{Event, reloaded, handed, is_configured, arrival_with}
use Rattle.protocol.specs.World.Event.{Open, Bytes, Take, Close, Arrive, Reload}
use Rattle.protocol.specs.Alone.{OwnEvent, alone, address_of, own_view, cons_if, cons_visible, has_view, seen_from}
use Rattle.protocol.specs.Alone.{seen, handed_to, restricted, with_new, all_restricted, reloads_accepted}
use Rattle.protocol.specs.Alone.{KeepsVisible, configs_in_force}
use Rattle.protocol.specs.Alone.OwnEvent.{Arrives, OwnCut}
use Rattle.protocol.proofs.FoundLemmas.{both}
use Rattle.protocol.proofs.Configs.{same_configured, reloaded_where, reloaded_not}
use Rattle.protocol.proofs.OfferChains.{contains_here, contains_there}
use Rattle.protocol.proofs.AloneLemmas.{isolated}

-- clients with the same view and the same events of their own
pub alike : (config config' : Config) (events events' : List Event) (k k' : ℕ)
    → own_view config events k ≡ own_view config' events' k' → seen config events k ≡ seen config' events' k'
    → handed_to k (handed config events) ≡ handed_to k' (handed config' events')
alike config config' events events' k k' view own = isolated config events k ∙ ap₂ alone view own
    ∙ sym (isolated config' events' k')

-- A station that somebody sees is configured.
sees_configured : (x : Facts) (test : Entry → Bool) (es : List Entry)
    → list_any (has_codes x.network x.station) (map (λ e. e.station) (filter test es)) ≡ true
    → list_any (λ e. has_codes x.network x.station e.station) es ≡ true
sees_configured x test [] e = e
sees_configured x test (s ∷ es) e =
    both (has_codes x.network x.station s.station)
    (λ y. rw y)
    (λ n. rw n
    (both (test s) (λ t. sees_configured x test es (rw (t, n) at e)) (λ t. sees_configured x test es (rw t at e))))

-- Each station of the view is configured.
abbrev IsOf : View → Config → Type 0
IsOf v config = (x : Facts) → list_any (has_codes x.network x.station) v.stations ≡ true → is_configured config x ≡ true

view_configured : (config : Config) (a : ℕ) → IsOf (view_of config a) config
view_configured config a x e = sees_configured x (λ s. sees s.access config.access a) config.entries e

-- and stays so where a new configuration comes into force
before_reload : (v : View) (config new : Config) → IsOf v (reloaded config new) → IsOf v config
before_reload v config new is x e =
    both (is_same_but_for_access config new)
    (λ y. sym (same_configured config new y x) ∙ (rw y at is) x e)
    (λ n. (rw n at is) x e)

after_reload : (v : View) (config new : Config) → IsOf v config → IsOf v (reloaded config new)
after_reload v config new is x e =
    both (is_same_but_for_access config new)
    (λ y. rw y (same_configured config new y x ∙ is x e))
    (λ n. rw n (is x e))

own_configured : (config : Config) (es : List Event) (k : ℕ) → IsOf (own_view config es k) config
own_configured config [] k = λ x e. absurd (true≢false (sym e))
own_configured config (Open a ∷ es) zero = view_configured config a
own_configured config (Open a ∷ es) (suc k) = own_configured config es k
own_configured config (Bytes j bytes ∷ es) k = own_configured config es k
own_configured config (Take j count ∷ es) k = own_configured config es k
own_configured config (Close j ∷ es) k = own_configured config es k
own_configured config (Arrive r ∷ es) k = own_configured config es k
own_configured config (Reload new ∷ es) k =
    before_reload (own_view (reloaded config new) es k) config new (own_configured (reloaded config new) es k)

-- the arrival that a record is to a client, whatever else is configured
abbrev cons_header : View → List ℕ → Result Facts RecordFault → List OwnEvent → List OwnEvent
cons_header v r (Err f) es = es
cons_header v r (Ok x) es = cons_if (list_any (has_codes x.network x.station) v.stations)
    (Arrives (record { bytes = r; facts = x })) es

visible_header : (v : View) (config : Config) → IsOf v config
    → (r : List ℕ) (x : Result Facts RecordFault) (es : List OwnEvent)
    → cons_visible v (arrival_with config r x) es ≡ cons_header v r x es
visible_header v config is r (Err f) es = refl
visible_header v config is r (Ok x) es =
    both (is_configured config x)
    (λ y. rw y)
    (λ n. both (list_any (has_codes x.network x.station) v.stations)
    (λ e. absurd (true≢false (sym (is x e) ∙ n)))
    (λ e. rw (n, e)))

-- the configuration in force at first is one of those along the events
first_in_force : (config : Config) (es : List Event) → Contains (configs_in_force config es) config
first_in_force config [] = contains_here config []
first_in_force config (Open a ∷ es) = first_in_force config es
first_in_force config (Bytes j bytes ∷ es) = first_in_force config es
first_in_force config (Take j count ∷ es) = first_in_force config es
first_in_force config (Close j ∷ es) = first_in_force config es
first_in_force config (Arrive r ∷ es) = first_in_force config es
first_in_force config (Reload new ∷ es) = contains_here config (configs_in_force (reloaded config new) es)

first_of_two : {x y : Bool} {xs ys : List Bool} → x ∷ xs ≡ y ∷ ys → (x ≡ y) × (xs ≡ ys)
first_of_two e = (grind arith, grind arith)

-- Two servers, at the second of which each new configuration is another one.
module _ (f : Config → Config) (v : View) (from : Option ℕ) (k : ℕ) where
  -- Under each of the first server's configurations the address has the view where it has it under the other.
  abbrev SameSight : Config → List Event → Type 0
  SameSight config es = (c : Config) → Contains (configs_in_force config es) c
      → has_view (f c) from v ≡ has_view c from v

  abbrev SameSeen : List Event → Type 0
  SameSeen es = (config other : Config) (n : ℕ) → IsOf v config → IsOf v other
      → reloads_accepted other (map (with_new f) es) ≡ reloads_accepted config es → SameSight config es
      → seen_from other v from n k (map (with_new f) es) ≡ seen_from config v from n k es

  seen_reload : (es : List Event) → SameSeen es → (config other new : Config) (n : ℕ) → IsOf v config → IsOf v other
      → reloads_accepted other (Reload (f new) ∷ map (with_new f) es) ≡ reloads_accepted config (Reload new ∷ es)
      → SameSight config (Reload new ∷ es)
      → seen_from other v from n k (Reload (f new) ∷ map (with_new f) es)
      ≡ seen_from config v from n k (Reload new ∷ es)
  seen_reload es goes config other new n is is' accepted sight =
      let parts = first_of_two accepted in
      let later : SameSight (reloaded config new) es = λ c there. sight c
      (contains_there config (configs_in_force (reloaded config new) es) c there) in
      let rest = goes (reloaded config new) (reloaded other (f new)) n (after_reload v config new is)
      (after_reload v other (f new) is') parts.1 later in
      both (is_same_but_for_access config new)
      (λ y.
      let also : is_same_but_for_access other (f new) ≡ true = parts.0 ∙ y in
      let same = (rw y at later) new (first_in_force new es) in
      rw (
        y,
        also,
        same,
      ) (rw (y, also) at (ap (λ own. cons_if (not (has_view new from v) && nat_lt k n) OwnCut own) rest)))
      (λ m.
      let also : is_same_but_for_access other (f new) ≡ false = parts.0 ∙ m in
      rw (m, also) (rw (m, also) at rest))

  seen_same : (es : List Event) → SameSeen es
  seen_same [] config other n is is' accepted sight = refl
  seen_same (Open a ∷ es) config other n is is' accepted sight =
      rw (seen_same es config other (n + 1) is is' accepted sight)
  seen_same (Bytes j bytes ∷ es) config other n is is' accepted sight =
      rw (seen_same es config other n is is' accepted sight)
  seen_same (Take j count ∷ es) config other n is is' accepted sight =
      rw (seen_same es config other n is is' accepted sight)
  seen_same (Close j ∷ es) config other n is is' accepted sight = rw (seen_same es config other n is is' accepted sight)
  seen_same (Arrive r ∷ es) config other n is is' accepted sight =
      rw (seen_same es config other n is is' accepted sight)
      (visible_header v other is' r (header_of r) _ ∙ sym (visible_header v config is r (header_of r) _))
  seen_same (Reload new ∷ es) config other n is is' accepted sight =
      seen_reload es (seen_same es) config other new n is is' accepted sight

all_as_they_are : (es : List Event) → map (with_new (λ c. c)) es ≡ es
all_as_they_are [] = refl
all_as_they_are (Open a ∷ es) = rw (all_as_they_are es)
all_as_they_are (Bytes j bytes ∷ es) = rw (all_as_they_are es)
all_as_they_are (Take j count ∷ es) = rw (all_as_they_are es)
all_as_they_are (Close j ∷ es) = rw (all_as_they_are es)
all_as_they_are (Arrive r ∷ es) = rw (all_as_they_are es)
all_as_they_are (Reload new ∷ es) = rw (all_as_they_are es)

-- servers at which the client has the same view, and which accept the same new configurations
pub same_view : (config config' : Config) (events : List Event) (k : ℕ)
    → own_view config events k ≡ own_view config' events k
    → reloads_accepted config events ≡ reloads_accepted config' events
    → handed_to k (handed config events) ≡ handed_to k (handed config' events)
same_view config config' events k same accepted =
    let v = own_view config' events k in
    let is : IsOf v config = rw same at (own_configured config events k) in
    let seen_there = seen_same (λ c. c) v (address_of events k) k events config' config 0
    (own_configured config' events k) is (rw (all_as_they_are events) accepted) (λ c there. refl) in
    alike config config' events events k k same (rw same (rw (all_as_they_are events) at seen_there))

-- what passes the second test is the same where the first keeps each element that does
filter_kept : (keep test : Entry → Bool) (es : List Entry)
    → ((e : Entry) → Contains es e → test e ≡ true → keep e ≡ true) → filter test (filter keep es) ≡ filter test es
filter_kept keep test [] keeps = refl
filter_kept keep test (e ∷ es) keeps =
    let rest = filter_kept keep test es (λ x there. keeps x (contains_there e es x there)) in
    both (keep e)
    (λ y. rw (y, rest))
    (λ n. both (test e)
    (λ y. absurd (true≢false (sym (keeps e (contains_here e es) y) ∙ n)))
    (λ m. rw (n, m, rest)))

view_restricted : (config : Config) (keep : Entry → Bool) (a : ℕ)
    → ((e : Entry) → Contains config.entries e → sees e.access config.access a ≡ true → keep e ≡ true)
    → view_of (restricted keep config) a ≡ view_of config a
view_restricted config keep a keeps =
    rw (filter_kept keep (λ e. sees e.access config.access a) config.entries keeps)

address_restricted : (keep : Entry → Bool) (es : List Event) (k : ℕ)
    → address_of (all_restricted keep es) k ≡ address_of es k
address_restricted keep [] k = refl
address_restricted keep (Open a ∷ es) zero = refl
address_restricted keep (Open a ∷ es) (suc k) = address_restricted keep es k
address_restricted keep (Bytes j bytes ∷ es) k = address_restricted keep es k
address_restricted keep (Take j count ∷ es) k = address_restricted keep es k
address_restricted keep (Close j ∷ es) k = address_restricted keep es k
address_restricted keep (Arrive r ∷ es) k = address_restricted keep es k
address_restricted keep (Reload new ∷ es) k = address_restricted keep es k

module _ (keep : Entry → Bool) where
  abbrev SameOwn : List Event → Type 0
  SameOwn es = (config : Config) (k : ℕ) → KeepsVisible keep config es k
      → reloads_accepted (restricted keep config) (all_restricted keep es) ≡ reloads_accepted config es
      → own_view (restricted keep config) (all_restricted keep es) k ≡ own_view config es k

  own_reload : (es : List Event) → SameOwn es → (config new : Config) (k : ℕ)
      → KeepsVisible keep config (Reload new ∷ es) k
      → reloads_accepted (restricted keep config) (Reload (restricted keep new) ∷ all_restricted keep es)
      ≡ reloads_accepted config (Reload new ∷ es)
      → own_view (restricted keep config) (Reload (restricted keep new) ∷ all_restricted keep es) k
      ≡ own_view config (Reload new ∷ es) k
  own_reload es goes config new k hidden accepted =
      let parts = first_of_two accepted in
      let later : KeepsVisible keep (reloaded config new) es k = λ c a e there. hidden c a e
      (contains_there config (configs_in_force (reloaded config new) es) c there) in
      both (is_same_but_for_access config new)
      (λ y.
      let also : is_same_but_for_access (restricted keep config) (restricted keep new) ≡ true = parts.0 ∙ y in
      ap (λ c. own_view c (all_restricted keep es) k)
      (reloaded_where (restricted keep config) (restricted keep new) also)
      ∙ goes new k (rw y at later) (rw (y, also) at parts.1)
      ∙ sym (ap (λ c. own_view c es k) (reloaded_where config new y)))
      (λ m.
      let also : is_same_but_for_access (restricted keep config) (restricted keep new) ≡ false = parts.0 ∙ m in
      ap (λ c. own_view c (all_restricted keep es) k) (reloaded_not (restricted keep config) (restricted keep new) also)
      ∙ goes config k (rw m at later) (rw (m, also) at parts.1)
      ∙ sym (ap (λ c. own_view c es k) (reloaded_not config new m)))

  own_same : (es : List Event) → SameOwn es
  own_same [] config k hidden accepted = refl
  own_same (Open a ∷ es) config zero hidden accepted =
      view_restricted config keep a (λ e in_it seen. hidden config a e (first_in_force config es) in_it refl seen)
  own_same (Open a ∷ es) config (suc k) hidden accepted = own_same es config k hidden accepted
  own_same (Bytes j bytes ∷ es) config k hidden accepted = own_same es config k hidden accepted
  own_same (Take j count ∷ es) config k hidden accepted = own_same es config k hidden accepted
  own_same (Close j ∷ es) config k hidden accepted = own_same es config k hidden accepted
  own_same (Arrive r ∷ es) config k hidden accepted = own_same es config k hidden accepted
  own_same (Reload new ∷ es) config k hidden accepted = own_reload es (own_same es) config new k hidden accepted

  same_sight : (config : Config) (es : List Event) (k : ℕ) (v : View) → KeepsVisible keep config es k → (c : Config)
      → Contains (configs_in_force config es) c → (from : Option ℕ) → address_of es k ≡ from
      → has_view (restricted keep c) from v ≡ has_view c from v
  same_sight config es k v hidden c there None e = refl
  same_sight config es k v hidden c there (Some a) e =
      ap (λ w. is_same_view w v) (view_restricted c keep a (λ x in_it seen. hidden c a x there in_it e seen))

-- a server without stations that the client doesn't see under any configuration in force
pub without_hidden : (config : Config) (keep : Entry → Bool) (events : List Event) (k : ℕ)
    → KeepsVisible keep config events k
    → reloads_accepted (restricted keep config) (all_restricted keep events) ≡ reloads_accepted config events
    → handed_to k (handed (restricted keep config) (all_restricted keep events)) ≡ handed_to k (handed config events)
without_hidden config keep events k hidden accepted =
    let v = own_view config events k in
    let same = own_same keep events config k hidden accepted in
    let is : IsOf v (restricted keep config) = rw same at
    (own_configured (restricted keep config) (all_restricted keep events) k) in
    let seen_there = seen_same (restricted keep) v (address_of events k) k events config (restricted keep config) 0
    (own_configured config events k) is accepted
    (λ c there. same_sight keep config events k v hidden c there (address_of events k) refl) in
    alike (restricted keep config) config (all_restricted keep events) events k k same
    (rw (same, address_restricted keep events k) seen_there)
