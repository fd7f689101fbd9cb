-- Sessions have the views of their addresses, or are cut, between two configurations.
use Rattle.std.proofs.Common.{◌≡◌, ℕ, zero, suc, ◌<◌, ◌-◌, ◌==◌, true, false, true≢false, inl, inr, ◌⊎◌, nat_lt}
use Rattle.std.proofs.Common.{if◌then◌else◌, List, [], ◌∷◌, ◌++◌, length, take, drop, get_or, slice_get, slice_set}
use Rattle.std.proofs.Common.{Option, Some, None, refl, sym, ap, ap₂, subst, ◌∙◌, arith, eqb-true}
use Rattle.std.specs.Net.Addr.{ipv4_bits}
use Rattle.std.specs.Prelude.{IsSome, not, slice_index_or}
use Rattle.std.proofs.lemmas.Bool.{eqb-false}
use Rattle.std.proofs.lemmas.Option.{same_Some}
use Rattle.slab.specs.Slab.{Slab, get}
use Rattle.protocol.specs.Catalog.{Config, View, view_of, is_same_view, is_same_but_for_access}
use Rattle.protocol.specs.History.{Arrival}
use Rattle.protocol.specs.Client.{Client, inbox, is_ending, is_nothing, filled_in, offered, received, left_with, listed}
use Rattle.protocol.specs.Client.State.{Ending as ClientEnding}
use Rattle.protocol.proofs.FoundLemmas.{both}
use Rattle.protocol.proofs.Configs.{views_compared}
use Rattle.station_ring.specs.HeldRecords.{RingsValue}
use Rattle.catalog.specs.Places.{HasDistinctCodes}
use Rattle.station_ring.specs.declared.held.Summary.{Summary}
use Rattle.session_state.specs.declared.session.State.{State}
use Rattle.session_state.specs.declared.session.State.TheVariants.{Negotiating, Listing, Starting, Transfer, Ending}
use Rattle.session_state.specs.Sessions.{SessionValue, client_in, session_view, state_in}
use Rattle.server_core.specs.declared.clients.Clients.{Clients}
use Rattle.server_core.specs.declared.clients.Opened.{Opened}
use Rattle.server_core.specs.Arrivals.{IsPlaced}
use Rattle.server_core.specs.Clients.{AreApart, AreRising, IsTable, address_in, addresses_of, number_at, sessions_of}
use Rattle.server_core.specs.Clients.{slot_in}
use Rattle.server_core.specs.Reloads.{AreCurrent, AreCurrentIn, AreReviewed, HasHistory, IsCurrent, IsCut, cut_session}
use Rattle.server_core.specs.Reloads.{has_other_view, reviewed_session}
use Rattle.server_core.specs.ServerValues.{OpenClient, SlotGoesOn, StayOpen, goes_on, open_client_of, open_client}
use Rattle.server_core.specs.ServerValues.{taking}
use Rattle.server_core.proofs.ArriveLemmas.{Arrives, arrival_of, place-there}
use Rattle.server_core.proofs.NumberLemmas.{bits_at, its-slot-at, place-of, slot_in-below, slots-apart}
use Rattle.server_core.proofs.ReloadLemmas.{IsLeft, one-at, same-holdings, same-view}
use Rattle.server_core.proofs.SlotLemmas.{address-there, goes-by-number, session-nowhere, session-there, written-table}

-- ---- a client in its end stays there

abbrev IsOver : Client → Type 0
IsOver c = (c.state ≡ ClientEnding) × (c.unread ≡ [])

-- Whatever is done to a client that is cut, it stays so.
abbrev pub KeepsOver : (View → Client → Client) → Type 0
KeepsOver f = (v : View) (c : Client) → IsOver c → IsOver (f v c)

pub looked-over : KeepsOver (λ v c. c)
looked-over v c over = over

pub received-over : (h : List Arrival) (bytes : List ℕ) → KeepsOver (λ v c. received v h bytes c)
received-over h bytes v c over =
    both (nat_lt (inbox - length c.unread) (length bytes))
    (λ y. rw y over)
    (λ n. let ends : is_ending c.state ≡ true = ap is_ending over.0 in rw (n, ends) over)

offered-same : (h : List Arrival) (c : Client) → IsOver c → offered h c ≡ c
offered-same h c over =
    both (is_nothing c.waiting)
    (λ y. ap (λ b. if b then filled_in h c c.state else c) y ∙ ap (filled_in h c) over.0)
    (λ n. ap (λ b. if b then filled_in h c c.state else c) n)

pub offered-over : (h : List Arrival) → KeepsOver (λ v c. offered h c)
offered-over h v c over = subst IsOver (sym (offered-same h c over)) over

left-over : (h : List Arrival) (v : View) (c : Client) (left : List ℕ) → IsOver c → IsOver (left_with v h c left)
left-over h v c (b ∷ bs) over = over
left-over h v c [] over = rw over.1 (ap listed over.0, refl)

pub taken-over : (h : List Arrival) (n : ℕ) → KeepsOver (taking h n)
unfolding taking
taken-over h n v c over =
    let d : Client = offered h c in
    let still : IsOver d = offered-over h v c over in
    both (is_nothing (take n d.waiting))
    (λ y. subst IsOver (sym (ap (λ b. if b then d else left_with v h d (drop n d.waiting)) y)) still)
    (λ m. subst IsOver (sym (ap (λ b. if b then d else left_with v h d (drop n d.waiting)) m))
    (left-over h v d (drop n d.waiting) still))

-- ---- a session that goes on

in-its-end : (config : Config) (h : List Arrival) (s : SessionValue) → (client_in config h s).state ≡ ClientEnding
    → s.state ≡ Ending
in-its-end config h s ends = by s.state ends
  where
    by : (t : State) → state_in config h (session_view config s) s.mode t ≡ ClientEnding → t ≡ Ending
    by Negotiating e = absurd cc
    by (Listing made) e = absurd cc
    by Starting e = absurd cc
    by (Transfer next) e = absurd cc
    by Ending e = refl

is-over : (config : Config) (h : List Arrival) (s : SessionValue) → IsCut s → IsOver (client_in config h s)
is-over config h s is = (ap (state_in config h (session_view config s) s.mode) is.0, is.1)

is-cut : (config : Config) (h : List Arrival) (s : SessionValue) → IsOver (client_in config h s) → IsCut s
is-cut config h s over = (in-its-end config h s over.0, over.1)

module _ (config : Config) (h : List Arrival) (f : View → Client → Client) (keeps : KeepsOver f) (a : ℕ) where
  abbrev gone-on : SessionValue → OpenClient
  gone-on r = record (open_client_of config h r) { client = f (session_view config r) (client_in config h r) }

  session-goes : (s r : SessionValue) → Some (open_client_of config h s) ≡ Some (gone-on r) → IsCurrent config a r
      → IsCurrent config a s
  session-goes s r same current differs =
      let is : open_client_of config h s ≡ gone-on r = cc in
      let view : session_view config s ≡ session_view config r = ap (λ (x : OpenClient). x.view) is in
      let client : client_in config h s ≡ f (session_view config r) (client_in config h r) =
      ap (λ (x : OpenClient). x.client) is in
      let was : IsCut r = current (ap (is_same_view (view_of config a)) (sym view) ∙ differs) in
      is-cut config h s (subst IsOver (sym client)
      (keeps (session_view config r) (client_in config h r) (is-over config h r was)))

  option-goes : (s : SessionValue) (o : Option (Option SessionValue))
      → Some (open_client_of config h s) ≡ goes_on f (open_client config h o)
      → ((r : SessionValue) → o ≡ Some (Some r) → IsCurrent config a r) → IsCurrent config a s
  option-goes s None same current = absurd cc
  option-goes s (Some None) same current = absurd cc
  option-goes s (Some (Some r)) same current = session-goes s r same (current r refl)

module _ (config : Config) (h : List Arrival) (c : Clients) (number slot : ℕ) (f : View → Client → Client)
    (keeps : KeepsOver f) where
  pub current-goes : (new : Slab SessionValue) → IsTable c → slot_in c.opened.items number ≡ Some slot
      → SlotGoesOn config h c.slots new slot f
      → AreCurrent config (sessions_of c) (addresses_of c)
      → AreCurrent config (sessions_of (record c { slots = new })) (addresses_of (record c { slots = new }))
  unfolding sessions_of addresses_of
  current-goes new table there goes current k a s has from =
      let only = goes-by-number config h c.opened.items c.slots new c.opens number slot f table.apart there
      (slot_in-below c.opens c.opened.items number slot table.below there) goes in
      both (k == number)
      (λ y.
      let e : k ≡ number = eqb-true k number y in
      let here : slice_get (sessions_of (record c { slots = new })) number ≡ Some (Some s) =
      ap (slice_get (sessions_of (record c { slots = new }))) (sym e) ∙ has in
      option-goes config h f keeps a s (slice_get (sessions_of c) number) (ap (open_client config h) (sym here)
      ∙ only.here)
      (λ r was. current number a r was (ap (slice_get (addresses_of c)) (sym e) ∙ from)))
      (λ n. current k a s (sym (only.others k (eqb-false k number n)) ∙ has) from)

-- ---- clients that come and go

-- Whose sessions and addresses are the same.
pub current-same : (config : Config) (xs ys : List (Option SessionValue)) (addresses bs : List (Option ℕ)) → ys ≡ xs
    → bs ≡ addresses → AreCurrent config xs addresses → AreCurrent config ys bs
current-same config xs ys addresses bs same from current k a s has is =
    current k a s (ap (λ zs. slice_get zs k) (sym same) ∙ has) (ap (λ zs. slice_get zs k) (sym from) ∙ is)

module _ {X Y : Type 0} (x : X) (y : Y) where
  -- Two lists to which one more is added are the same before it.
  last-or-before : (xs : List X) (ys : List Y) (k : ℕ) (x' : X) (y' : Y) → length xs ≡ length ys
      → slice_get (xs ++ x ∷ []) k ≡ Some x' → slice_get (ys ++ y ∷ []) k ≡ Some y' →
      ((slice_get xs k ≡ Some x') × (slice_get ys k ≡ Some y')) ⊎ ((x ≡ x') × (y ≡ y'))
  last-or-before [] [] zero x' y' count e f = inr (cc, cc)
  last-or-before [] [] (suc k) x' y' count e f = absurd cc
  last-or-before [] (w ∷ ws) k x' y' count e f = absurd (omega (arith, count))
  last-or-before (z ∷ zs) [] k x' y' count e f = absurd (omega (arith, count))
  last-or-before (z ∷ zs) (w ∷ ws) zero x' y' count e f = inl (e, f)
  last-or-before (z ∷ zs) (w ∷ ws) (suc k) x' y' count e f = last-or-before zs ws k x' y' (omega (arith, count)) e f

-- One more opens.
pub current-opens : (config : Config) (xs : List (Option SessionValue)) (addresses : List (Option ℕ)) (s : SessionValue)
    (a : ℕ)
    → length xs ≡ length addresses → IsCurrent config a s → AreCurrent config xs addresses
    → AreCurrent config (xs ++ Some s ∷ []) (addresses ++ Some a ∷ [])
current-opens config xs addresses s a count here current k b t has from =
    by (last-or-before (Some s) (Some a) xs addresses k (Some t) (Some b) count has from)
  where
    by : ((slice_get xs k ≡ Some (Some t)) × (slice_get addresses k ≡ Some (Some b)))
        ⊎ ((Some s ≡ Some t) × (Some a ≡ Some b)) → IsCurrent config b t
    by (inl p) = current k b t p.0 p.1
    by (inr q) = subst (λ (n : ℕ). IsCurrent config n t) (same_Some a b q.1)
        (subst (IsCurrent config a) (same_Some s t q.0) here)

-- the session of one that opens
pub current-new : (config : Config) (a : ℕ) (s : SessionValue) → session_view config s ≡ view_of config a
    → IsCurrent config a s
current-new config a s sees differs =
    absurd (true≢false (sym ((views_compared (view_of config a) (session_view config s)).1 (sym sees)) ∙ differs))

-- What is there once a place was emptied was there before.
left-there : {X : Type 0} (xs : List (Option X)) (n k : ℕ) (x : X) → slice_get (slice_set xs n None) k ≡ Some (Some x)
    → slice_get xs k ≡ Some (Some x)
left-there [] n k x e = e
left-there (y ∷ ys) zero zero x e = absurd cc
left-there (y ∷ ys) zero (suc k) x e = e
left-there (y ∷ ys) (suc n) zero x e = e
left-there (y ∷ ys) (suc n) (suc k) x e = left-there ys n k x e

-- One closes.
pub current-closes : (config : Config) (xs : List (Option SessionValue)) (addresses : List (Option ℕ)) (n : ℕ)
    → AreCurrent config xs addresses → AreCurrent config (slice_set xs n None) (slice_set addresses n None)
current-closes config xs addresses n current k a s has from =
    current k a s (left-there xs n k s has) (left-there addresses n k a from)

-- A client that closes leaves the others as they were.
pub current-closed : (config : Config) (c new : Clients) (n : ℕ) → sessions_of new ≡ slice_set (sessions_of c) n None
    → addresses_of new ≡ slice_set (addresses_of c) n None →
    AreCurrent config (sessions_of c) (addresses_of c) → AreCurrent config (sessions_of new) (addresses_of new)
current-closed config c new n closed left current =
    current-same config (slice_set (sessions_of c) n None) (sessions_of new) (slice_set (addresses_of c) n None)
    (addresses_of new) closed left (current-closes config (sessions_of c) (addresses_of c) n current)

-- where there is none
pub current-none : (config : Config) (c : Clients) → sessions_of c ≡ []
    → AreCurrent config (sessions_of c) (addresses_of c)
current-none config c none k a s has from =
    absurd (let q : None ≡ Some (Some s) = sym (ap (λ xs. slice_get xs k) none) ∙ has in cc)

-- ---- a new configuration

-- A session that was reviewed is current.
reviewed-current : (new : Config) (a : ℕ) (s : SessionValue) → IsCurrent new a (reviewed_session new a s)
reviewed-current new a s =
    both (is_same_view (view_of new a) (session_view new s))
    (λ y. subst (IsCurrent new a) (sym (ap (λ b. if b then s else cut_session s) y))
    (λ differs. absurd (true≢false (sym y ∙ differs))))
    (λ n. subst (IsCurrent new a) (sym (ap (λ b. if b then s else cut_session s) n)) (λ differs. (refl, refl)))

cut-again : (s : SessionValue) → IsCut s → cut_session s ≡ s
cut-again s is = ap₂ (λ (t : State) (bytes : List ℕ). record s { state = t; unread = bytes }) (sym is.0) (sym is.1)

-- A current session whose address sees the same under the new configuration needs no review.
pub spared-same : (g new : Config) (a : ℕ) (s : SessionValue) → is_same_but_for_access g new ≡ true
    → view_of new a ≡ view_of g a → IsCurrent g a s → reviewed_session new a s ≡ s
spared-same g new a s same sees current =
    both (is_same_view (view_of new a) (session_view new s))
    (λ y. ap (λ b. if b then s else cut_session s) y)
    (λ n.
    let differs : is_same_view (view_of g a) (session_view g s) ≡ false =
    ap₂ is_same_view (sym sees) (sym (same-view g new same s.places)) ∙ n in
    ap (λ b. if b then s else cut_session s) n ∙ cut-again s (current differs))

-- the sessions in the slots, and those of the numbers
pub current-in-slots : (config : Config) (c : Clients) → IsTable c
    → AreCurrent config (sessions_of c) (addresses_of c) → AreCurrentIn config c.opened.items c.slots
current-in-slots config c table current k slot a s there from has =
    current k a s (session-there c k slot table there ∙ ap Some has) (address-there c k slot table there ∙ ap Some from)

pub current-after : (new : Config) (c : Clients) (slots : Slab SessionValue) → IsTable c → StayOpen c.slots slots
    → AreReviewed new c.opened.items c.slots slots
    → AreCurrent new (sessions_of (record c { slots = slots })) (addresses_of (record c { slots = slots }))
current-after new c slots table kept each k a t has from = by (slot_in c.opened.items k) refl
  where
    after : Clients
    after = record c { slots = slots }

    now-table : IsTable after
    now-table = written-table c slots table kept

    from-slot : (slot : ℕ) → slot_in c.opened.items k ≡ Some slot → (o : Option SessionValue) → IsSome o
        → get c.slots slot ≡ o → IsCurrent new a t
    from-slot slot there None none is = absurd (let q : false ≡ true = none in cc)
    from-slot slot there (Some s) some is =
        let came : address_in c.opened.items k ≡ Some a =
        same_Some _ _ (sym (address-there after k slot now-table there) ∙ from) in
        let now : get slots slot ≡ Some t = same_Some _ _ (sym (session-there after k slot now-table there) ∙ has) in
        subst (IsCurrent new a) (same_Some _ _ (sym (each k slot a s there came is) ∙ now)) (reviewed-current new a s)

    by : (o : Option ℕ) → slot_in c.opened.items k ≡ o → IsCurrent new a t
    by None none = absurd (let q : Some (open_client_of new [] t) ≡ None =
        ap (open_client new []) (sym has) ∙ session-nowhere new [] after k none in cc)
    by (Some slot) there = from-slot slot there (get c.slots slot) (table.there k slot there) refl

-- The session at a place that was not reviewed yet is as it was before.
pub current-at : (new config : Config) (os : List Opened) (start slots : Slab SessionValue) → AreRising os → AreApart os
    → (i : ℕ) (one : Opened) → i < length os → one ≡ get_or os i one → IsLeft new os start slots i
    → AreCurrentIn config os start
    → (s : SessionValue) → get slots one.slot ≡ Some s → IsCurrent config (ipv4_bits one.address) s
current-at new config os start slots rising apart i one lt is left current s has =
    let k = number_at os i in
    let there : slot_in os k ≡ Some one.slot =
    its-slot-at os k i one rising (record { inside = lt; has_number = refl }) is in
    let at = one-at os i one lt is in
    let place = place-of os k one.slot there in
    let here : place.0 ≡ i = slots-apart os rising apart place.0 i place.1.inside lt (place.1.has_slot ∙ at.0) in
    let from : address_in os k ≡ Some (ipv4_bits one.address) =
    place.1.has_address ∙ ap (λ n. Some (bits_at os n)) here ∙ ap Some (sym at.1) in
    let was : get start one.slot ≡ Some s =
    ap (get start) at.0 ∙ sym (left i (omega arith) lt) ∙ ap (get slots) (sym at.0) ∙ has in
    current k one.slot (ipv4_bits one.address) s there from was

-- ---- the history

-- A record that arrives is the last of it.
pub history-arrives : (config : Config) (old new : RingsValue) (r : List ℕ) (place : ℕ) (summary : Summary)
    → IsPlaced config r place summary → HasDistinctCodes config.entries → Arrives old new place r summary
    → HasHistory config old → HasHistory config new
history-arrives config old new r place summary is distinct arrives was =
    record {
      history = was.history ++ arrival_of r is.facts ∷ [];
      holds = arrives config was.history (arrival_of r is.facts) was.holds distinct
          (place-there config is.facts place is.at).1 refl is.kept;
    }

-- Under another configuration with the same stations it is the same.
pub history-under : (g new : Config) (rings : RingsValue) → is_same_but_for_access g new ≡ true → HasHistory g rings
    → HasHistory new rings
history-under g new rings same was =
    record { history = was.history; holds = was.holds ∙ sym (same-holdings g new same was.history) }

-- ---- who is cut

there-at : {X : Type 0} (xs : List (Option X)) (k : ℕ) (x : X) → slice_index_or xs k None ≡ Some x
    → slice_get xs k ≡ Some (Some x)
there-at [] k x e = absurd cc
there-at (y ∷ ys) zero x e = ap Some e
there-at (y ∷ ys) (suc k) x e = there-at ys k x e

-- One that is not open is not.
pub cut-nobody : (config : Config) (a : Option ℕ) → has_other_view config a None ≡ false
cut-nobody config None = refl
cut-nobody config (Some a) = refl

-- Nor is one whose connection goes on.
pub cut-not : (config : Config) (xs : List (Option SessionValue)) (addresses : List (Option ℕ)) (k : ℕ)
    (s : SessionValue) → AreCurrent config xs addresses → slice_index_or xs k None ≡ Some s → (s.state ≡ Ending → ⊥)
    → has_other_view config (slice_index_or addresses k None) (slice_index_or xs k None) ≡ false
cut-not config xs addresses k s current has goes =
    ap (has_other_view config (slice_index_or addresses k None)) has ∙ by (slice_index_or addresses k None) refl
  where
    by : (a : Option ℕ) → slice_index_or addresses k None ≡ a → has_other_view config a (Some s) ≡ false
    by None e = refl
    by (Some a) e =
        both (is_same_view (view_of config a) (session_view config s)) (λ y. ap not y)
        (λ n. absurd (goes (current k a s (there-at xs k s has) (there-at addresses k a e) n).0))
