-- Clients in slots: what each keeps while another one comes, goes on or leaves.
use Rattle.std.proofs.Common.{◌≡◌, ℕ, zero, suc, ◌+◌, ◌<◌, ◌≤◌, ◌==◌, nat_lt, List, [], ◌∷◌, ◌++◌, map, length}
use Rattle.std.proofs.Common.{slice_get, slice_set, slice_index_or, Option, Some, None, unwrap_or, refl, sym, ap, ap₂}
use Rattle.std.proofs.Common.{subst, ◌∙◌, arith, eqb-true}
use Rattle.std.specs.Prelude.{IsSome, ◌≢◌}
use Rattle.std.specs.List.{range_with_len, remove}
use Rattle.std.specs.Net.Addr.{ipv4_bits}
use Rattle.std.specs.declared.net.ipv4_addr.Ipv4Addr.{Ipv4Addr}
use Rattle.std.proofs.lemmas.Bool.{eqb-false}
use Rattle.std.proofs.lemmas.List.FromFn.{length-map-range_with_len, map-range_with_len_more}
use Rattle.slab.specs.Slab.{Slab, get, with_value, Updates}
use Rattle.slab.proofs.SlabLemmas.{Updates-with_value}
use Rattle.std.proofs.lemmas.Bool.Decides.{nat_tests}
use Rattle.protocol.proofs.FoundLemmas.{both}
use Rattle.protocol.specs.Catalog.{View, Config}
use Rattle.protocol.specs.Client.{Client}
use Rattle.protocol.specs.History.{Arrival}
use Rattle.station_ring.specs.HeldRecords.{RingsValue}
use Rattle.session_state.specs.Sessions.{SessionValue}
use Rattle.server_core.specs.declared.clients.Opened.{Opened}
use Rattle.server_core.specs.declared.clients.Clients.{Clients}
use Rattle.server_core.specs.Clients.{AreApart, AreBelow, AreRising, IsNumberAt, IsTable, in_slot, session_of}
use Rattle.server_core.specs.Clients.{sessions_of, address_in, addresses_of, owner_in, slot_in}
use Rattle.server_core.specs.ServerValues.{AreSettled, IsSettled, OnlyGoesOn, SlotGoesOn, StayOpen, goes_on}
use Rattle.server_core.specs.ServerValues.{open_client}
use Rattle.server_core.proofs.NumberLemmas.{below-less, below-more, none-below, rising-less, rising-more, slot_in-below}
use Rattle.server_core.proofs.NumberLemmas.{slot_in-gone, slot_in-less, slot_in-more, slot_in-new, address_in-gone}
use Rattle.server_core.proofs.NumberLemmas.{address_in-less, address_in-more, address_in-new, no-address-below}

-- ---- values of numbers, as a list

module _ {X : Type 0} where
  pub value-inside : (f : ℕ → X) (a n i j : ℕ) → i < n → a + i ≡ j
      → slice_get (map f (range_with_len a n)) i ≡ Some (f j)
  value-inside f a zero i j lt e = absurd (omega (arith, lt))
  value-inside f a (suc n) zero j lt e = ap (λ k. Some (f k)) (omega (arith, e))
  value-inside f a (suc n) (suc i) j lt e = value-inside f (a + 1) n i j (omega (arith, lt)) (omega (arith, e))

  pub value-beyond : (f : ℕ → X) (a n i : ℕ) → n ≤ i → slice_get (map f (range_with_len a n)) i ≡ None
  value-beyond f a zero i le = refl
  value-beyond f a (suc n) zero le = absurd (omega (arith, le))
  value-beyond f a (suc n) (suc i) le = value-beyond f (a + 1) n i (omega (arith, le))

  pub values-same : (f g : ℕ → X) (a n : ℕ) → ((j : ℕ) → a ≤ j → j < a + n → f j ≡ g j)
      → map f (range_with_len a n) ≡ map g (range_with_len a n)
  values-same f g a zero h = refl
  values-same f g a (suc n) h =
      ap₂ (λ x xs. x ∷ xs) (h a (omega arith) (omega arith))
      (values-same f g (a + 1) n (λ j le lt. h j (omega (arith, le)) (omega (arith, lt))))

  pub values-set : (f g : ℕ → X) (a n i m : ℕ) (x : X) → a + i ≡ m → ((j : ℕ) → (j ≡ m → ⊥) → g j ≡ f j) → g m ≡ x
      → map g (range_with_len a n) ≡ slice_set (map f (range_with_len a n)) i x
  values-set f g a zero i m x e others here = refl
  values-set f g a (suc n) zero m x e others here =
      ap₂ (λ y ys. y ∷ ys) (ap g (omega (arith, e)) ∙ here)
      (values-same g f (a + 1) n (λ j le lt. others j (λ q. omega (arith, e, le, q))))
  values-set f g a (suc n) (suc i) m x e others here =
      ap₂ (λ y ys. y ∷ ys) (others a (λ q. omega (arith, e, q)))
      (values-set f g (a + 1) n i m x (omega (arith, e)) others here)

-- ---- what a slot keeps

-- A number whose slot keeps what it had keeps its session.
in_slot-kept : (old new : Slab SessionValue) (o : Option ℕ) → ((slot : ℕ) → o ≡ Some slot → get new slot ≡ get old slot)
    → in_slot new o ≡ in_slot old o
in_slot-kept old new None kept = refl
in_slot-kept old new (Some slot) kept = kept slot refl

vacant-apart : (slots : Slab SessionValue) (a b : ℕ) → IsSome (get slots a) → get slots b ≡ None → a ≢ b
vacant-apart slots a b some none e = let same : get slots a ≡ None = ap (get slots) e
    ∙ none in let q : IsSome {T = SessionValue} None = subst IsSome same some in absurd cc

-- ---- a client goes on in its slot

module _ (config : Config) (h : List Arrival) (os : List Opened) (old new : Slab SessionValue) (opens k slot : ℕ)
    (f : View → Client → Client) where
  pub goes-by-number : AreApart os → slot_in os k ≡ Some slot → k < opens → SlotGoesOn config h old new slot f
      → OnlyGoesOn config h (map (session_of os old) (range_with_len 0 opens))
      (map (session_of os new) (range_with_len 0 opens)) k f
  goes-by-number apart there lt goes = record {
    here =
        ap (open_client config h) (value-inside (session_of os new) 0 opens k k lt (omega arith)
        ∙ ap (λ o. Some (in_slot new o)) there)
        ∙ goes.here
        ∙ ap (λ o. goes_on f (open_client config h o))
        (sym (value-inside (session_of os old) 0 opens k k lt (omega arith)
        ∙ ap (λ o. Some (in_slot old o)) there));
    others = λ j other. both (nat_lt j opens)
        (λ inside. let lt' : j < opens = grind (arith, nat_tests) in
        value-inside (session_of os new) 0 opens j j lt' (omega arith)
        ∙ ap Some
        (in_slot-kept old new (slot_in os j)
        (λ s' e. goes.others s' (λ same. other (apart j k slot (e ∙ ap Some same) there))))
        ∙ sym (value-inside (session_of os old) 0 opens j j lt' (omega arith)))
        (λ outside. let le : opens ≤ j = grind (arith, nat_tests) in
        value-beyond (session_of os new) 0 opens j le ∙ sym (value-beyond (session_of os old) 0 opens j le));
  }

-- A number that is not open has no session, whatever is done.
pub none-of-number : (config : Config) (h : List Arrival) (os : List Opened) (slots : Slab SessionValue) (opens k : ℕ)
    → slot_in os k ≡ None → open_client config h (slice_get (map (session_of os slots) (range_with_len 0 opens)) k)
    ≡ None
none-of-number config h os slots opens k none = both (nat_lt k opens)
    (λ inside. let lt : k < opens = grind (arith, nat_tests) in
    ap (open_client config h) (value-inside (session_of os slots) 0 opens k k lt (omega arith)
    ∙ ap (λ o. Some (in_slot slots o)) none))
    (λ outside. let le : opens ≤ k = grind (arith, nat_tests) in
    ap (open_client config h) (value-beyond (session_of os slots) 0 opens k le))

pub nowhere-goes : (config : Config) (h : List Arrival) (xs : List (Option SessionValue)) (k : ℕ)
    (f : View → Client → Client) → open_client config h (slice_get xs k) ≡ None → OnlyGoesOn config h xs xs k f
nowhere-goes config h xs k f none = record { here = none ∙ ap (goes_on f) (sym none); others = λ j other. refl }

-- The session of an open number is the one in its slot.
pub session-there : (c : Clients) (k slot : ℕ) → IsTable c → slot_in c.opened.items k ≡ Some slot
    → slice_get (sessions_of c) k ≡ Some (get c.slots slot)
unfolding sessions_of
session-there c k slot table e =
    value-inside (session_of c.opened.items c.slots) 0 c.opens k k
    (slot_in-below c.opens c.opened.items k slot table.below e) (omega arith) ∙ ap (λ o. Some (in_slot c.slots o)) e

pub index-of : {X : Type 0} (xs : List X) (k : ℕ) (d : X) (o : Option X) → slice_get xs k ≡ o
    → slice_index_or xs k d ≡ unwrap_or o d
index-of [] k d o e = ap (λ q. unwrap_or q d) e
index-of (x ∷ xs) zero d o e = ap (λ q. unwrap_or q d) e
index-of (x ∷ xs) (suc k) d o e = index-of xs k d o e

-- The session of a number is the one in the slot of the number, if there is one.
pub session-is : (c : Clients) (k : ℕ) → IsTable c
    → slice_index_or (sessions_of c) k None ≡ in_slot c.slots (slot_in c.opened.items k)
unfolding sessions_of
session-is c k table = both (nat_lt k c.opens)
    (λ inside. let lt : k < c.opens = grind (arith, nat_tests) in
    index-of (map (session_of c.opened.items c.slots) (range_with_len 0 c.opens)) k None _
    (value-inside (session_of c.opened.items c.slots) 0 c.opens k k lt (omega arith)))
    (λ outside. let le : c.opens ≤ k = grind (arith, nat_tests) in
    index-of (map (session_of c.opened.items c.slots) (range_with_len 0 c.opens)) k None _
    (value-beyond (session_of c.opened.items c.slots) 0 c.opens k le)
    ∙ sym (ap (in_slot c.slots) (none-below c.opens c.opened.items k le table.below)))

-- The sessions of a table are settled where those in the slots are.
pub sessions-settled : (config : Config) (rings : RingsValue) (c : Clients) → AreSettled config rings c.slots
    → (k : ℕ) (s : SessionValue) → slice_get (sessions_of c) k ≡ Some (Some s) → IsSettled config rings s
unfolding sessions_of
sessions-settled config rings c settled k s e = both (nat_lt k c.opens)
    (λ inside. let lt : k < c.opens = grind (arith, nat_tests) in
    let is : Some (session_of c.opened.items c.slots k)
    ≡ Some (Some s) = sym (value-inside (session_of c.opened.items c.slots) 0 c.opens k k lt (omega arith)) ∙ e in
    by (slot_in c.opened.items k) (let q : session_of c.opened.items c.slots k ≡ Some s = cc in q))
    (λ outside. let le : c.opens ≤ k = grind (arith, nat_tests) in
    let q : None ≡ Some (Some s) = sym (value-beyond (session_of c.opened.items c.slots) 0 c.opens k le)
    ∙ e in absurd cc)
  where
    by : (o : Option ℕ) → in_slot c.slots o ≡ Some s → IsSettled config rings s
    by None q = absurd cc
    by (Some slot) q = settled slot s q

pub session-nowhere : (config : Config) (h : List Arrival) (c : Clients) (k : ℕ) → slot_in c.opened.items k ≡ None
    → open_client config h (slice_get (sessions_of c) k) ≡ None
unfolding sessions_of
session-nowhere config h c k none = none-of-number config h c.opened.items c.slots c.opens k none

pub sessions-counted : (c : Clients) → length (sessions_of c) ≡ c.opens
unfolding sessions_of
sessions-counted c = length-map-range_with_len (session_of c.opened.items c.slots) 0 c.opens

-- Where a client was looked for is no part of what its sessions are.
-- Nor is how many more would fit.
pub room-sessions : (c d : Clients) → d.opens ≡ c.opens → d.opened.items ≡ c.opened.items
    → d.slots.slots ≡ c.slots.slots → sessions_of d ≡ sessions_of c
unfolding sessions_of
room-sessions c d opens opened slots =
    ap (λ n. map (session_of d.opened.items d.slots) (range_with_len 0 n)) opens
    ∙ ap (λ os. map (session_of os d.slots) (range_with_len 0 c.opens)) opened
    ∙ values-same (session_of c.opened.items d.slots) (session_of c.opened.items c.slots) 0 c.opens
    (λ j le lt. in_slot-kept c.slots d.slots (slot_in c.opened.items j)
    (λ slot e. ap (λ (xs : List (Option SessionValue)). slice_index_or xs slot None) slots))

pub room-table : (c d : Clients) → d.opens ≡ c.opens → d.opened.items ≡ c.opened.items → d.slots.slots ≡ c.slots.slots
    → ((slot : ℕ) → owner_in d.numbers.items slot ≡ owner_in c.numbers.items slot) → IsTable c → IsTable d
room-table c d opens opened slots numbers table = record {
  rising = subst AreRising (sym opened) table.rising;
  below = subst (λ os. AreBelow d.opens os) (sym opened)
      (subst (λ n. AreBelow n c.opened.items) (sym opens) table.below);
  apart = subst AreApart (sym opened) table.apart;
  there = λ k slot e. subst (λ (xs : List (Option SessionValue)). IsSome (slice_index_or xs slot None)) (sym slots)
      (table.there k slot (ap (λ os. slot_in os k) (sym opened) ∙ e));
  numbered = λ k slot e. numbers slot ∙ table.numbered k slot (ap (λ os. slot_in os k) (sym opened) ∙ e);
  owned = λ k slot e. ap (λ os. slot_in os k) opened ∙ table.owned k slot (sym (numbers slot) ∙ e);
}

-- ---- the sessions in the slots are settled

pub settled-goes : (config : Config) (rings : RingsValue) (old new : Slab SessionValue) (slot : ℕ) (s : SessionValue)
    → AreSettled config rings old → IsSettled config rings s → Updates old new slot (Some s)
    → AreSettled config rings new
settled-goes config rings old new slot s settled here updates k t e =
    both (k == slot)
    (λ yes. subst (λ o. (x : SessionValue) → o ≡ Some x → IsSettled config rings x) (sym updates.changed)
    (λ x q. subst (IsSettled config rings) (some-same s x q) here) t (sym (ap (get new) (eqb-true k slot yes)) ∙ e))
    (λ no. settled k t (sym (updates.others k (eqb-false k slot no)) ∙ e))
  where
    some-same : (a b : SessionValue) → Some a ≡ Some b → a ≡ b
    some-same a b e = cc

pub settled-leaves : (config : Config) (rings : RingsValue) (old new : Slab SessionValue) (slot : ℕ)
    → AreSettled config rings old → Updates old new slot None → AreSettled config rings new
settled-leaves config rings old new slot settled updates k t e =
    both (k == slot)
    (λ yes. absurd (let none : get new k ≡ None = ap (get new) (eqb-true k slot yes)
    ∙ updates.changed in let q : Some t ≡ None = sym e ∙ none in cc))
    (λ no. settled k t (sym (updates.others k (eqb-false k slot no)) ∙ e))

-- ---- a session that is written to its slot

pub wrote : (old : Slab SessionValue) (slot : ℕ) (a r : SessionValue) → get old slot ≡ Some a
    → Updates old (with_value old slot r) slot (Some r)
wrote old slot a r there = Updates-with_value old slot r (subst IsSome (sym there) refl)

pub stays-open : (old new : Slab SessionValue) (slot : ℕ) (r : SessionValue) → Updates old new slot (Some r)
    → StayOpen old new
stays-open old new slot r updates k some =
    both (k == slot)
    (λ yes. subst IsSome (sym (ap (get new) (eqb-true k slot yes) ∙ updates.changed)) refl)
    (λ no. subst IsSome (sym (updates.others k (eqb-false k slot no))) some)

-- One that is written as it was changes no slot.
pub written-same : (old new : Slab SessionValue) (slot : ℕ) (a r : SessionValue) → get old slot ≡ Some a
    → Updates old new slot (Some r) → r ≡ a → (k : ℕ) → get new k ≡ get old k
written-same old new slot a r there updates same k =
    both (k == slot)
    (λ here. ap (get new) (eqb-true k slot here) ∙ updates.changed ∙ ap Some same ∙ sym there
    ∙ ap (get old) (sym (eqb-true k slot here)))
    (λ elsewhere. updates.others k (eqb-false k slot elsewhere))

pub written-table : (c : Clients) (new : Slab SessionValue) → IsTable c → StayOpen c.slots new
    → IsTable (record c { slots = new })
written-table c new table kept =
    record {
      rising = table.rising;
      below = table.below;
      apart = table.apart;
      there = λ k slot e. kept slot (table.there k slot e);
      numbered = table.numbered;
      owned = table.owned;
    }

-- ---- one more

module _ (c new : Clients) (slot : ℕ) (address : Ipv4Addr) (s : SessionValue) where
  abbrev one : Opened
  one = record { number = c.opens; slot = slot; address = address }

  pub opens-table : IsTable c → new.opens ≡ c.opens + 1 → new.opened.items ≡ c.opened.items ++ one ∷ []
      → get c.slots slot ≡ None → Updates c.slots new.slots slot (Some s)
      → owner_in new.numbers.items slot ≡ Some c.opens
      → ((other : ℕ) → other ≢ slot → owner_in new.numbers.items other ≡ owner_in c.numbers.items other)
      → IsTable new
  opens-table table opens opened vacant updates put kept = record {
    rising = subst AreRising (sym opened) (rising-more c.opened.items one table.below table.rising);
    below = subst (λ os. AreBelow new.opens os) (sym opened)
        (subst (λ n. AreBelow n (c.opened.items ++ one ∷ [])) (sym opens) (below-more c.opened.items one table.below));
    apart = subst AreApart (sym opened) apart;
    there = λ k s' e. there k s' (ap (λ os. slot_in os k) (sym opened) ∙ e);
    numbered = λ k s' e. numbered k s' (ap (λ os. slot_in os k) (sym opened) ∙ e);
    owned = λ k s' e. ap (λ os. slot_in os k) opened ∙ owned k s' e;
  }
    where
      os : List Opened
      os = c.opened.items ++ one ∷ []

      old-slot : (k s' : ℕ) → (c.opens ≡ k → ⊥) → slot_in os k ≡ Some s' → slot_in c.opened.items k ≡ Some s'
      old-slot k s' apart e = sym (slot_in-more c.opened.items one k apart) ∙ e

      new-slot : (k s' : ℕ) → c.opens ≡ k → slot_in os k ≡ Some s' → s' ≡ slot
      new-slot k s' same e = let is : Some slot ≡ Some s' = sym (slot_in-new c.opened.items one table.below)
          ∙ ap (slot_in os) same ∙ e in cc

      apart : AreApart os
      apart j k s' ej ek =
          both (c.opens == j)
          (λ yes. both (c.opens == k)
          (λ yes'. sym (eqb-true c.opens j yes) ∙ eqb-true c.opens k yes')
          (λ no'. absurd
          (vacant-apart c.slots s' slot (table.there k s' (old-slot k s' (eqb-false c.opens k no') ek)) vacant
          (new-slot j s' (eqb-true c.opens j yes) ej))))
          (λ no. both (c.opens == k)
          (λ yes'. absurd
          (vacant-apart c.slots s' slot (table.there j s' (old-slot j s' (eqb-false c.opens j no) ej)) vacant
          (new-slot k s' (eqb-true c.opens k yes') ek)))
          (λ no'. table.apart j k s' (old-slot j s' (eqb-false c.opens j no) ej)
          (old-slot k s' (eqb-false c.opens k no') ek)))

      there : (k s' : ℕ) → slot_in os k ≡ Some s' → IsSome (get new.slots s')
      there k s' e =
          both (c.opens == k)
          (λ yes. subst (λ i. IsSome (get new.slots i)) (sym (new-slot k s' (eqb-true c.opens k yes) e))
          (subst IsSome (sym updates.changed) refl))
          (λ no. let was = table.there k s' (old-slot k s' (eqb-false c.opens k no) e) in
          subst IsSome (sym (updates.others s' (vacant-apart c.slots s' slot was vacant))) was)

      numbered : (k s' : ℕ) → slot_in os k ≡ Some s' → owner_in new.numbers.items s' ≡ Some k
      numbered k s' e =
          both (c.opens == k)
          (λ yes. let same = eqb-true c.opens k yes in
          ap (owner_in new.numbers.items) (new-slot k s' same e) ∙ put ∙ ap Some same)
          (λ no. let was = old-slot k s' (eqb-false c.opens k no) e in
          kept s' (vacant-apart c.slots s' slot (table.there k s' was) vacant) ∙ table.numbered k s' was)

      owned : (k s' : ℕ) → owner_in new.numbers.items s' ≡ Some k → slot_in os k ≡ Some s'
      owned k s' e =
          both (s' == slot)
          (λ yes. let here = eqb-true s' slot yes in
          let is : Some c.opens ≡ Some k = sym put ∙ ap (owner_in new.numbers.items) (sym here) ∙ e in
          let same : c.opens ≡ k = cc in
          ap (slot_in os) (sym same) ∙ slot_in-new c.opened.items one table.below ∙ ap Some (sym here))
          (λ no. let was = table.owned k s' (sym (kept s' (eqb-false s' slot no)) ∙ e) in
          let lower = slot_in-below c.opens c.opened.items k s' table.below was in
          slot_in-more c.opened.items one k (λ q. omega (arith, lower, q)) ∙ was)

  pub opens-sessions : IsTable c → new.opens ≡ c.opens + 1 → new.opened.items ≡ c.opened.items ++ one ∷ []
      → get c.slots slot ≡ None → Updates c.slots new.slots slot (Some s)
      → sessions_of new ≡ sessions_of c ++ Some s ∷ []
  unfolding sessions_of
  opens-sessions table opens opened vacant updates =
      ap (λ n. map (session_of new.opened.items new.slots) (range_with_len 0 n)) opens
      ∙ ap (λ os'. map (session_of os' new.slots) (range_with_len 0 (c.opens + 1))) opened
      ∙ map-range_with_len_more (session_of (c.opened.items ++ one ∷ []) new.slots) 0 c.opens c.opens (omega arith)
      ∙ ap₂ (λ xs x. xs ++ x ∷ []) before last
    where
      last : session_of (c.opened.items ++ one ∷ []) new.slots c.opens ≡ Some s
      last = ap (in_slot new.slots) (slot_in-new c.opened.items one table.below) ∙ updates.changed

      before : map (session_of (c.opened.items ++ one ∷ []) new.slots) (range_with_len 0 c.opens)
          ≡ map (session_of c.opened.items c.slots) (range_with_len 0 c.opens)
      before = values-same (session_of (c.opened.items ++ one ∷ []) new.slots)
          (session_of c.opened.items c.slots) 0 c.opens (λ j le lt.
          ap (in_slot new.slots) (slot_in-more c.opened.items one j (λ e. omega (arith, lt, e)))
          ∙ in_slot-kept c.slots new.slots (slot_in c.opened.items j)
          (λ s' e. updates.others s' (vacant-apart c.slots s' slot (table.there j s' e) vacant)))

-- ---- one less

module _ (c new : Clients) (number at slot : ℕ) where
  pub closes-table : IsTable c → IsNumberAt c.opened.items number at → slot_in c.opened.items number ≡ Some slot
      → new.opens ≡ c.opens → new.opened.items ≡ remove c.opened.items at → Updates c.slots new.slots slot None
      → owner_in new.numbers.items slot ≡ None
      → ((other : ℕ) → other ≢ slot → owner_in new.numbers.items other ≡ owner_in c.numbers.items other) → IsTable new
  closes-table table is here opens opened updates freed kept = record {
    rising = subst AreRising (sym opened) (rising-less c.opened.items at table.rising);
    below = subst (λ os. AreBelow new.opens os) (sym opened)
        (subst (λ n. AreBelow n (remove c.opened.items at)) (sym opens)
        (below-less c.opens c.opened.items at table.below));
    apart = subst AreApart (sym opened) (λ j k s' ej ek. table.apart j k s' (old-slot j s' ej) (old-slot k s' ek));
    there = λ k s' e. let e' = ap (λ os. slot_in os k) (sym opened) ∙ e in
        subst IsSome (sym (updates.others s' (elsewhere k s' e'))) (table.there k s' (old-slot k s' e'));
    numbered = λ k s' e. let e' = ap (λ os. slot_in os k) (sym opened) ∙ e in
        kept s' (elsewhere k s' e') ∙ table.numbered k s' (old-slot k s' e');
    owned = λ k s' e. ap (λ os. slot_in os k) opened ∙ owned k s' e;
  }
    where
      other : (k s' : ℕ) → slot_in (remove c.opened.items at) k ≡ Some s' → k ≡ number → ⊥
      other k s' e same = let none : slot_in (remove c.opened.items at) k ≡ None =
          ap (slot_in (remove c.opened.items at)) same
          ∙ slot_in-gone c.opened.items number at table.rising is in let q : Some s' ≡ None = sym e ∙ none in cc

      old-slot : (k s' : ℕ) → slot_in (remove c.opened.items at) k ≡ Some s' → slot_in c.opened.items k ≡ Some s'
      old-slot k s' e = sym (slot_in-less c.opened.items number at k (other k s' e) is) ∙ e

      elsewhere : (k s' : ℕ) → slot_in (remove c.opened.items at) k ≡ Some s' → s' ≢ slot
      elsewhere k s' e same = other k s' e (table.apart k number slot (old-slot k s' e ∙ ap Some same) here)

      owned : (k s' : ℕ) → owner_in new.numbers.items s' ≡ Some k → slot_in (remove c.opened.items at) k ≡ Some s'
      owned k s' e =
          both (s' == slot)
          (λ yes. absurd (let q : None ≡ Some k = sym freed
          ∙ ap (owner_in new.numbers.items) (sym (eqb-true s' slot yes)) ∙ e in cc))
          (λ no. let apart = eqb-false s' slot no in
          let was = table.owned k s' (sym (kept s' apart) ∙ e) in
          slot_in-less c.opened.items number at k
          (λ same. apart (let q : Some s' ≡ Some slot = sym was ∙ ap (slot_in c.opened.items) same ∙ here in cc)) is
          ∙ was)

  pub closes-sessions : IsTable c → IsNumberAt c.opened.items number at → slot_in c.opened.items number ≡ Some slot
      → new.opens ≡ c.opens → new.opened.items ≡ remove c.opened.items at → Updates c.slots new.slots slot None
      → sessions_of new ≡ slice_set (sessions_of c) number None
  unfolding sessions_of
  closes-sessions table is here opens opened updates =
      ap (λ n. map (session_of new.opened.items new.slots) (range_with_len 0 n)) opens
      ∙ ap (λ os. map (session_of os new.slots) (range_with_len 0 c.opens)) opened
      ∙ values-set (session_of c.opened.items c.slots)
      (session_of (remove c.opened.items at) new.slots) 0 c.opens number number None (omega arith)
      (λ j other.
      ap (in_slot new.slots) (slot_in-less c.opened.items number at j other is)
      ∙ in_slot-kept c.slots new.slots (slot_in c.opened.items j)
      (λ s' e. updates.others s' (λ same. other (table.apart j number slot (e ∙ ap Some same) here))))
      (ap (in_slot new.slots) (slot_in-gone c.opened.items number at table.rising is))

-- A number that is not open is forgotten already.
pub closes-nothing : (c : Clients) (number : ℕ) → slot_in c.opened.items number ≡ None
    → sessions_of c ≡ slice_set (sessions_of c) number None
unfolding sessions_of
closes-nothing c number none =
    values-set (session_of c.opened.items c.slots) (session_of c.opened.items c.slots) 0 c.opens number number None
    (omega arith) (λ j other. refl) (ap (in_slot c.slots) none)

-- ---- addresses
pub addresses-counted : (c : Clients) → length (addresses_of c) ≡ c.opens
unfolding addresses_of
addresses-counted c = length-map-range_with_len (address_in c.opened.items) 0 c.opens

-- They are the same where the numbers are.
pub same-addresses : (c d : Clients) → d.opens ≡ c.opens → d.opened.items ≡ c.opened.items
    → addresses_of d ≡ addresses_of c
unfolding addresses_of
same-addresses c d opens opened =
    ap (λ n. map (address_in d.opened.items) (range_with_len 0 n)) opens
    ∙ ap (λ os. map (address_in os) (range_with_len 0 c.opens)) opened

pub opens-addresses : (c new : Clients) (slot : ℕ) (address : Ipv4Addr) → IsTable c → new.opens ≡ c.opens + 1
    → new.opened.items ≡ c.opened.items ++ record { number = c.opens; slot = slot; address = address } ∷ []
    → addresses_of new ≡ addresses_of c ++ Some (ipv4_bits address) ∷ []
unfolding addresses_of
opens-addresses c new slot address table opens opened =
    let one : Opened = record { number = c.opens; slot = slot; address = address } in
    ap (λ n. map (address_in new.opened.items) (range_with_len 0 n)) opens
    ∙ ap (λ os. map (address_in os) (range_with_len 0 (c.opens + 1))) opened
    ∙ map-range_with_len_more (address_in (c.opened.items ++ one ∷ [])) 0 c.opens c.opens (omega arith)
    ∙ ap₂ (λ xs x. xs ++ x ∷ [])
    (values-same (address_in (c.opened.items ++ one ∷ [])) (address_in c.opened.items) 0 c.opens
    (λ j le lt. address_in-more c.opened.items one j (λ e. omega (arith, lt, e))))
    (address_in-new c.opened.items one table.below)

pub closes-addresses : (c new : Clients) (number at : ℕ) → IsTable c → IsNumberAt c.opened.items number at
    → new.opens ≡ c.opens → new.opened.items ≡ remove c.opened.items at
    → addresses_of new ≡ slice_set (addresses_of c) number None
unfolding addresses_of
closes-addresses c new number at table is opens opened =
    ap (λ n. map (address_in new.opened.items) (range_with_len 0 n)) opens
    ∙ ap (λ os. map (address_in os) (range_with_len 0 c.opens)) opened
    ∙ values-set (address_in c.opened.items) (address_in (remove c.opened.items at)) 0 c.opens number number None
    (omega arith)
    (λ j other. address_in-less c.opened.items number at j other is)
    (address_in-gone c.opened.items number at table.rising is)

-- A number that is not open has no address.
no-address : (os : List Opened) (number : ℕ) → slot_in os number ≡ None → address_in os number ≡ None
no-address [] number none = refl
no-address (o ∷ os) number none =
    both (o.number == number) (λ y. absurd (let q : Some o.slot ≡ None = rw y at none in cc))
    (λ n. rw n (no-address os number (rw n at none)))

pub closes-no-address : (c : Clients) (number : ℕ) → slot_in c.opened.items number ≡ None
    → addresses_of c ≡ slice_set (addresses_of c) number None
unfolding addresses_of
closes-no-address c number none =
    values-set (address_in c.opened.items) (address_in c.opened.items) 0 c.opens number number None (omega arith)
    (λ j other. refl) (no-address c.opened.items number none)

-- The address of an open number is the one in the table.
pub address-there : (c : Clients) (k slot : ℕ) → IsTable c → slot_in c.opened.items k ≡ Some slot
    → slice_get (addresses_of c) k ≡ Some (address_in c.opened.items k)
unfolding addresses_of
address-there c k slot table e =
    value-inside (address_in c.opened.items) 0 c.opens k k (slot_in-below c.opens c.opened.items k slot table.below e)
    (omega arith)

-- the address of a number
pub address-is : (c : Clients) (k : ℕ) → IsTable c
    → slice_index_or (addresses_of c) k None ≡ address_in c.opened.items k
unfolding addresses_of
address-is c k table = both (nat_lt k c.opens)
    (λ inside. let lt : k < c.opens = grind (arith, nat_tests) in
    index-of (map (address_in c.opened.items) (range_with_len 0 c.opens)) k None _
    (value-inside (address_in c.opened.items) 0 c.opens k k lt (omega arith)))
    (λ outside. let le : c.opens ≤ k = grind (arith, nat_tests) in
    index-of (map (address_in c.opened.items) (range_with_len 0 c.opens)) k None _
    (value-beyond (address_in c.opened.items) 0 c.opens k le)
    ∙ sym (no-address-below c.opens c.opened.items k le table.below))
