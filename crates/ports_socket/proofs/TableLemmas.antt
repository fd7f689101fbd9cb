-- What is kept under keys, and the open connections by their places, after a change under one key.
use Rattle.std.proofs.Common.{◌≡◌, ◌≢◌, inl, inr, ℕ, zero, suc, ◌<◌, true, false, is_some}
use Rattle.std.proofs.Common.{List, [], ◌∷◌, ◌++◌, get_or, set, length}
use Rattle.std.proofs.Common.{Option, Some, None, refl, sym, ap, subst, ◌∙◌, arith}
use Rattle.std.proofs.Math.Path.{ap₂}
use Rattle.std.specs.List.{remove}
use Rattle.std.proofs.lemmas.Bool.{cases_eq}
use Rattle.std.proofs.lemmas.List.{map_push, set-get_or}
use Rattle.slab.specs.Slab.{Slab, Updates, get, with_value}
use Rattle.slab.proofs.SlabLemmas.{Updates-with_value}
use Rattle.ports_socket.specs.declared.connection.Connection.{Connection}
use Rattle.ports_socket.specs.declared.connections.ConnectionPlace.{ConnectionPlace}
use Rattle.ports_socket.specs.declared.kept_connection.KeptConnection.{KeptConnection}
use Rattle.ports_socket.specs.Places.{AreAbove, AreBelow, AreThere, IsAmong, IsPlaceOf, IsTable, IsThere, Rise}
use Rattle.ports_socket.specs.Places.{closed_from, connections_at, numbers_of, with_held}
use Rattle.ports_socket.proofs.PlaceLemmas.{above-at, long, number-read, rise-push, rise-remove}

-- ---- what is kept is as it was, under all keys

pub there-same : (slots new : Slab KeptConnection) (ps : List ConnectionPlace)
    → ((key : ℕ) → get new key ≡ get slots key)
    → AreThere slots ps → AreThere new ps
there-same slots new [] same there = tt
there-same slots new (p ∷ ps) same there = (
  record {
    held = there.0.held;
    kept = same p.key ∙ there.0.kept;
    opened = there.0.opened;
    number = there.0.number;
  },
  there-same slots new ps same there.1,
)

pub table-same : (slots new : Slab KeptConnection) (ps : List ConnectionPlace)
    → ((key : ℕ) → get new key ≡ get slots key)
    → IsTable slots ps → IsTable new ps
table-same slots new ps same table = record {
  rise = table.rise;
  there = there-same slots new ps same table.there;
  listed = λ key held at opened. table.listed key held (sym (same key) ∙ at) opened;
}

pub connections-same : (slots new : Slab KeptConnection) (ps : List ConnectionPlace)
    → ((key : ℕ) → get new key ≡ get slots key)
    → connections_at new ps ≡ connections_at slots ps
connections-same slots new [] same = refl
connections-same slots new (p ∷ ps) same = ap₂ with_held (same p.key) (connections-same slots new ps same)

-- there is only more room
pub roomy : (slots new : Slab KeptConnection) (capacity : ℕ) → new ≡ record slots { capacity = capacity }
    → (key : ℕ) → get new key ≡ get slots key
roomy slots new capacity is key = ap (λ (s : Slab KeptConnection). get s key) is

-- ---- places whose connections a change of what is kept under a key leaves as they are

-- None of the places has a key.
abbrev pub AreElse : ℕ → List ConnectionPlace → Type 0
AreElse key [] = Unit {0}
AreElse key (p ∷ ps) = (p.key ≢ key) × AreElse key ps

-- No open connection is there.
abbrev pub IsShut : Option KeptConnection → Type 0
IsShut None = Unit {0}
IsShut (Some held) = held.is_open ≡ false

pub some-same : (a b : KeptConnection) → Some a ≡ Some b → a ≡ b
some-same a b e = cc

held-there : (slots : Slab KeptConnection) (p : ConnectionPlace) (key : ℕ) (h : KeptConnection) (t : IsThere slots p)
    → get slots key ≡ Some h
    → p.key ≡ key → t.held ≡ h
held-there slots p key h t kept same =
    some-same t.held h (sym t.kept ∙ ap (get slots) same ∙ kept)

number-there : (slots : Slab KeptConnection) (p : ConnectionPlace) (key : ℕ) (h : KeptConnection) → IsThere slots p
    → get slots key ≡ Some h
    → p.key ≡ key → h.connection.number ≡ p.number
number-there slots p key h t kept same =
    ap (λ (x : KeptConnection). x.connection.number) (sym (held-there slots p key h t kept same)) ∙ t.number

pub else-above : (slots : Slab KeptConnection) (key : ℕ) (h : KeptConnection) (ps : List ConnectionPlace)
    → AreThere slots ps
    → get slots key ≡ Some h → AreAbove h.connection.number (numbers_of ps) → AreElse key ps
else-above slots key h [] there kept above = tt
else-above slots key h (p ∷ ps) there kept above = (
  λ same. omega (arith, above.0, number-there slots p key h there.0 kept same),
  else-above slots key h ps there.1 kept above.1,
)

not-opened : (slots : Slab KeptConnection) (p : ConnectionPlace) (key : ℕ) (o : Option KeptConnection)
    → IsThere slots p → get slots key ≡ o
    → IsShut o → p.key ≡ key → ⊥
not-opened slots p key None t kept shut same =
    let none : Some t.held ≡ None = sym t.kept ∙ ap (get slots) same ∙ kept in absurd (cc)
not-opened slots p key (Some h) t kept shut same =
    let is : h.is_open ≡ true = ap (λ (x : KeptConnection). x.is_open) (sym (held-there slots p key h t kept same))
    ∙ t.opened in
    let no : true ≡ false = sym is ∙ shut in
    absurd (cc)

pub else-shut : (slots : Slab KeptConnection) (key : ℕ) (ps : List ConnectionPlace) → AreThere slots ps
    → IsShut (get slots key)
    → AreElse key ps
else-shut slots key [] there shut = tt
else-shut slots key (p ∷ ps) there shut = (
  λ same. not-opened slots p key (get slots key) there.0 refl shut same,
  else-shut slots key ps there.1 shut,
)

pub connections-else : (old new : Slab KeptConnection) (key : ℕ) (o : Option KeptConnection) (ps : List ConnectionPlace) → AreElse key ps
    → Updates old new key o → connections_at new ps ≡ connections_at old ps
connections-else old new key o [] apart updates = refl
connections-else old new key o (p ∷ ps) apart updates =
    ap₂ with_held (updates.others p.key apart.0) (connections-else old new key o ps apart.1 updates)

pub there-else : (old new : Slab KeptConnection) (key : ℕ) (o : Option KeptConnection) (ps : List ConnectionPlace)
    → AreElse key ps
    → Updates old new key o → AreThere old ps → AreThere new ps
there-else old new key o [] apart updates there = tt
there-else old new key o (p ∷ ps) apart updates there = (
  record {
    held = there.0.held;
    kept = updates.others p.key apart.0 ∙ there.0.kept;
    opened = there.0.opened;
    number = there.0.number;
  },
  there-else old new key o ps apart.1 updates there.1,
)

-- ---- the numbers of the connections are those of the places

abbrev pub numbers_in : List Connection → List ℕ
numbers_in [] = []
numbers_in (c ∷ cs) = c.number ∷ numbers_in cs

pub numbers-there : (slots : Slab KeptConnection) (ps : List ConnectionPlace) → AreThere slots ps
    → numbers_in (connections_at slots ps) ≡ numbers_of ps
numbers-there slots [] there = refl
numbers-there slots (p ∷ ps) there =
    ap (λ o. numbers_in (with_held o (connections_at slots ps))) there.0.kept
    ∙ ap₂ (λ n ns. n ∷ ns) there.0.number (numbers-there slots ps there.1)

pub rise-there : (slots : Slab KeptConnection) (ps : List ConnectionPlace) → IsTable slots ps
    → Rise (numbers_in (connections_at slots ps))
rise-there slots ps table = subst Rise (sym (numbers-there slots ps table.there)) table.rise

pub length-there : (slots : Slab KeptConnection) (ps : List ConnectionPlace) → AreThere slots ps
    → length (connections_at slots ps) ≡ length ps
length-there slots [] there = refl
length-there slots (p ∷ ps) there =
    ap (λ o. length (with_held o (connections_at slots ps))) there.0.kept
    ∙ ap suc (length-there slots ps there.1)

-- ---- an open connection is written to

-- One of the connections was changed.
pub record IsWritten (n : ℕ) (cs new : List Connection) (c d : Connection) : Type 0 where
  pub at : ℕ
  pub place : IsPlaceOf n (numbers_in cs) at
  pub read : c ≡ get_or cs at c
  pub is : new ≡ set cs at d

above-among : (n : ℕ) (p : ConnectionPlace) (ps : List ConnectionPlace) → AreAbove n (numbers_of ps) → IsAmong p ps
    → n < p.number
above-among n p [] above among = absurd among
above-among n p (q ∷ qs) above (inl same) = subst (λ (x : ConnectionPlace). n < x.number) same above.0
above-among n p (q ∷ qs) above (inr rest) = above-among n p qs above.1 rest

written-here : (n : ℕ) (o o' : Option KeptConnection) (h h' : KeptConnection) (cs new : List Connection) → o ≡ Some h
    → o' ≡ Some h'
    → new ≡ cs → h.connection.number ≡ n → IsWritten n (with_held o cs) (with_held o' new) h.connection h'.connection
written-here n o o' h h' cs new was is same number =
    subst (λ x. IsWritten n (with_held x cs) (with_held o' new) h.connection h'.connection) (sym was)
    (subst (λ x. IsWritten n (h.connection ∷ cs) (with_held x new) h.connection h'.connection) (sym is)
    (record {
      at = 0;
      place = record { inside = omega arith; has_number = number };
      read = refl;
      is = ap (λ l. h'.connection ∷ l) same;
    }))

written-past : (n : ℕ) (o o' : Option KeptConnection) (t : KeptConnection) (cs new : List Connection) (c d : Connection) → o ≡ Some t
    → o' ≡ Some t → IsWritten n cs new c d → IsWritten n (with_held o cs) (with_held o' new) c d
written-past n o o' t cs new c d was is w =
    subst (λ x. IsWritten n (with_held x cs) (with_held o' new) c d) (sym was)
    (subst (λ x. IsWritten n (t.connection ∷ cs) (with_held x new) c d) (sym is)
    (record {
      at = suc w.at;
      place = record { inside = omega (arith, w.place.inside); has_number = w.place.has_number };
      read = w.read;
      is = ap (λ l. t.connection ∷ l) w.is;
    }))

module _ (slots new : Slab KeptConnection) (key : ℕ) (h h' : KeptConnection) (kept : get slots key ≡ Some h)
    (updates : Updates slots new key (Some h')) where
  written-at : (ps : List ConnectionPlace) (p : ConnectionPlace) → AreThere slots ps → Rise (numbers_of ps)
      → p.key ≡ key
      → h.connection.number ≡ p.number → IsAmong p ps
      → IsWritten p.number (connections_at slots ps) (connections_at new ps) h.connection h'.connection
  written-at [] p there rise same number among = absurd among
  written-at (q ∷ qs) p there rise same number (inl here) =
      let at : q.key ≡ key = ap (λ (x : ConnectionPlace). x.key) here ∙ same in
      let apart : AreElse key qs =
      else-above slots key h qs there.1 kept
      (subst (λ n. AreAbove n (numbers_of qs)) (ap (λ (x : ConnectionPlace). x.number) here ∙ sym number) rise.0) in
      written-here p.number (get slots q.key) (get new q.key) h h' (connections_at slots qs) (connections_at new qs)
      (ap (get slots) at ∙ kept) (ap (get new) at ∙ updates.changed)
      (connections-else slots new key (Some h') qs apart updates) number
  written-at (q ∷ qs) p there rise same number (inr rest) =
      let lower = above-among q.number p qs rise.0 rest in
      let other : q.key ≢ key =
      λ e. omega (arith, lower, number-there slots q key h there.0 kept e, number) in
      written-past p.number (get slots q.key) (get new q.key) there.0.held (connections_at slots qs)
      (connections_at new qs) h.connection h'.connection there.0.kept
      (updates.others q.key other ∙ there.0.kept) (written-at qs p there.1 rise.1 same number rest)

  written-there : (ps : List ConnectionPlace) → h'.is_open ≡ true → h'.connection.number ≡ h.connection.number
      → AreThere slots ps → AreThere new ps
  written-there [] opened number there = tt
  written-there (p ∷ ps) opened number there = (
    elim (cases_eq p.key key) [
      | inl same ↦ record {
        held = h';
        kept = ap (get new) same ∙ updates.changed;
        opened = opened;
        number = number ∙ number-there slots p key h there.0 kept same;
      }
      | inr other ↦ record {
        held = there.0.held;
        kept = updates.others p.key other ∙ there.0.kept;
        opened = there.0.opened;
        number = there.0.number;
      }
    ],
    written-there ps opened number there.1,
  )

  written-listed : (ps : List ConnectionPlace) → h.is_open ≡ true → h'.connection.number ≡ h.connection.number
      → IsTable slots ps → (k : ℕ) (held : KeptConnection) → get new k ≡ Some held → held.is_open ≡ true
      → IsAmong (record { number = held.connection.number; key = k }) ps
  written-listed ps was number table k held at opened =
      elim (cases_eq k key) [
        | inl same ↦
            let is : h' ≡ held = some-same h' held (sym updates.changed ∙ ap (get new) (sym same) ∙ at) in
            let numbered : h.connection.number ≡ held.connection.number =
            sym number ∙ ap (λ (x : KeptConnection). x.connection.number) is in
            let P : ℕ → ℕ → Type 0 = λ n i. IsAmong (record { number = n; key = i }) ps in
            subst (λ n. P n k) numbered (subst (P h.connection.number) (sym same) (table.listed key h kept was))
        | inr other ↦ table.listed k held (sym (updates.others k other) ∙ at) opened
      ]

  pub written-table : (ps : List ConnectionPlace) → h.is_open ≡ true → h'.is_open ≡ true
      → h'.connection.number ≡ h.connection.number → IsTable slots ps → IsTable new ps
  written-table ps was opened number table = record {
    rise = table.rise;
    there = written-there ps opened number table.there;
    listed = written-listed ps was number table;
  }

  pub written : (ps : List ConnectionPlace) → h.is_open ≡ true → IsTable slots ps
      → IsWritten h.connection.number (connections_at slots ps) (connections_at new ps) h.connection h'.connection
  written ps was table =
      written-at ps (record { number = h.connection.number; key = key }) table.there table.rise refl refl
      (table.listed key h kept was)

-- what is written through a key
pub wrote : (slots : Slab KeptConnection) (key : ℕ) (h h' : KeptConnection) → get slots key ≡ Some h
    → Updates slots (with_value slots key h') key (Some h')
wrote slots key h h' kept = Updates-with_value slots key h' (ap (λ o. is_some o) kept)

-- what is closed is not open
pub shut-closed : (o : Option KeptConnection) → IsShut (closed_from o)
shut-closed None = tt
shut-closed (Some held) = refl

-- what is written as it was
pub wrote-same : (slots : Slab KeptConnection) (key : ℕ) (h : KeptConnection) → get slots key ≡ Some h
    → with_value slots key h ≡ slots
wrote-same slots key h kept =
    ap (λ l. record slots { slots = l }) (ap (set slots.slots key) (sym kept) ∙ set-get_or slots.slots key None)

-- ---- one that is not open is written to, or goes

pub shut-table : (slots new : Slab KeptConnection) (ps : List ConnectionPlace) (key : ℕ) (o : Option KeptConnection)
    → IsTable slots ps
    → IsShut (get slots key) → Updates slots new key o → IsShut o → IsTable new ps
shut-table slots new ps key o table was updates shut = record {
  rise = table.rise;
  there = there-else slots new key o ps (else-shut slots key ps table.there was) updates table.there;
  listed = λ k held at opened. elim (cases_eq k key) [
    | inl same ↦ absurd (no o held (sym updates.changed ∙ ap (get new) (sym same) ∙ at) opened shut)
    | inr other ↦ table.listed k held (sym (updates.others k other) ∙ at) opened
  ];
}
  where
    no : (o : Option KeptConnection) (held : KeptConnection) → o ≡ Some held → held.is_open ≡ true → IsShut o → ⊥
    no None held e opened s = absurd (cc)
    no (Some h) held e opened s =
        let is : true ≡ false = sym opened ∙ ap (λ (x : KeptConnection). x.is_open) (sym (some-same h held e))
        ∙ s in absurd (cc)

pub shut-same : (slots new : Slab KeptConnection) (ps : List ConnectionPlace) (key : ℕ) (o : Option KeptConnection)
    → IsTable slots ps
    → IsShut (get slots key) → Updates slots new key o → connections_at new ps ≡ connections_at slots ps
shut-same slots new ps key o table was updates =
    connections-else slots new key o ps (else-shut slots key ps table.there was) updates

module _ (slots : Slab KeptConnection) (ps : List ConnectionPlace) (key : ℕ) (h h' : KeptConnection) (table : IsTable slots ps)
    (kept : get slots key ≡ Some h) (was : h.is_open ≡ false) (is : h'.is_open ≡ h.is_open) where
  pub wrote-shut-table : IsTable (with_value slots key h') ps
  wrote-shut-table =
      shut-table slots (with_value slots key h') ps key (Some h') table (subst IsShut (sym kept) was)
      (wrote slots key h h' kept) (is ∙ was)

  pub wrote-shut : connections_at (with_value slots key h') ps ≡ connections_at slots ps
  wrote-shut =
      shut-same slots (with_value slots key h') ps key (Some h') table (subst IsShut (sym kept) was)
      (wrote slots key h h' kept)

-- ---- one leaves

above-other : (slots : Slab KeptConnection) (p : ConnectionPlace) (ps : List ConnectionPlace) (at : ℕ)
    → IsThere slots p → AreThere slots ps
    → AreAbove p.number (numbers_of ps) → at < length ps → (q : ConnectionPlace) → q ≡ get_or ps at q → p.key ≢ q.key
above-other slots p ps at t there above inside q read =
    λ same.
    let numbered : (get_or (numbers_of ps) at 0) ≡ q.number =
    number-read ps at q inside ∙ ap (λ (x : ConnectionPlace). x.number) (sym read) in
    let higher : p.number < get_or (numbers_of ps) at 0 =
    above-at p.number (numbers_of ps) above at (omega (arith, long ps, inside)) in
    let one = there-at slots ps at there inside q read in
    let equal : one.held.connection.number ≡ p.number = number-there slots p q.key one.held t one.kept same in
    omega (arith, numbered, higher, equal, one.number)
  where
    there-at : (slots : Slab KeptConnection) (ps : List ConnectionPlace) (at : ℕ) → AreThere slots ps
        → at < length ps → (q : ConnectionPlace)
        → q ≡ get_or ps at q → IsThere slots q
    there-at slots [] at there inside q read = absurd (omega (arith, inside))
    there-at slots (x ∷ xs) zero there inside q read = subst (λ (y : ConnectionPlace). IsThere slots y) (sym read) there.0
    there-at slots (x ∷ xs) (suc at) there inside q read =
        there-at slots xs at there.1 (omega (arith, inside)) q read

pub there-place : (slots : Slab KeptConnection) (ps : List ConnectionPlace) (at : ℕ) → AreThere slots ps
    → at < length ps → (q : ConnectionPlace)
    → q ≡ get_or ps at q → IsThere slots q
there-place slots [] at there inside q read = absurd (omega (arith, inside))
there-place slots (x ∷ xs) zero there inside q read = subst (λ (y : ConnectionPlace). IsThere slots y) (sym read) there.0
there-place slots (x ∷ xs) (suc at) there inside q read =
    there-place slots xs at there.1 (omega (arith, inside)) q read

-- the places that are left have other keys
else-remove : (slots : Slab KeptConnection) (ps : List ConnectionPlace) (at : ℕ) (q : ConnectionPlace)
    → AreThere slots ps → Rise (numbers_of ps)
    → at < length ps → q ≡ get_or ps at q → AreElse q.key (remove ps at)
else-remove slots [] at q there rise inside read = absurd (omega (arith, inside))
else-remove slots (x ∷ xs) zero q there rise inside read =
    subst (λ (y : ConnectionPlace). AreElse y.key xs) (sym read)
    (else-above slots x.key there.0.held xs there.1 there.0.kept
    (subst (λ n. AreAbove n (numbers_of xs)) (sym there.0.number) rise.0))
else-remove slots (x ∷ xs) (suc at) q there rise inside read = (
  above-other slots x xs at there.0 there.1 rise.0 (omega (arith, inside)) q read,
  else-remove slots xs at q there.1 rise.1 (omega (arith, inside)) read,
)

there-remove : (slots : Slab KeptConnection) (ps : List ConnectionPlace) (at : ℕ) → AreThere slots ps
    → AreThere slots (remove ps at)
there-remove slots [] zero there = tt
there-remove slots [] (suc at) there = tt
there-remove slots (x ∷ xs) zero there = there.1
there-remove slots (x ∷ xs) (suc at) there = (there.0, there-remove slots xs at there.1)

connections-remove : (slots : Slab KeptConnection) (ps : List ConnectionPlace) (at : ℕ) → AreThere slots ps
    → connections_at slots (remove ps at) ≡ remove (connections_at slots ps) at
connections-remove slots [] zero there = refl
connections-remove slots [] (suc at) there = refl
connections-remove slots (x ∷ xs) zero there =
    sym (ap (λ o. remove (with_held o (connections_at slots xs)) 0) there.0.kept)
connections-remove slots (x ∷ xs) (suc at) there =
    ap (λ o. with_held o (connections_at slots (remove xs at))) there.0.kept
    ∙ ap (λ l. there.0.held.connection ∷ l) (connections-remove slots xs at there.1)
    ∙ sym (ap (λ o. remove (with_held o (connections_at slots xs)) (suc at)) there.0.kept)

among-remove : (ps : List ConnectionPlace) (at : ℕ) (q p : ConnectionPlace) → q ≡ get_or ps at q → p.key ≢ q.key
    → IsAmong p ps
    → IsAmong p (remove ps at)
among-remove [] at q p read other among = absurd among
among-remove (x ∷ xs) zero q p read other (inl here) =
    absurd (other (ap (λ (y : ConnectionPlace). y.key) (sym here ∙ sym read)))
among-remove (x ∷ xs) zero q p read other (inr rest) = rest
among-remove (x ∷ xs) (suc at) q p read other (inl here) = inl here
among-remove (x ∷ xs) (suc at) q p read other (inr rest) = inr (among-remove xs at q p read other rest)

module _ (slots new : Slab KeptConnection) (ps : List ConnectionPlace) (at : ℕ) (q : ConnectionPlace) (o : Option KeptConnection) (table : IsTable slots ps)
    (inside : at < length ps) (read : q ≡ get_or ps at q) (updates : Updates slots new q.key o) where
  apart : AreElse q.key (remove ps at)
  apart = else-remove slots ps at q table.there table.rise inside read

  pub left-table : IsShut o → IsTable new (remove ps at)
  left-table shut = record {
    rise = rise-remove ps at table.rise;
    there = there-else slots new q.key o (remove ps at) apart updates (there-remove slots ps at table.there);
    listed = λ k held is opened. elim (cases_eq k q.key) [
      | inl same ↦ absurd (no o held (sym updates.changed ∙ ap (get new) (sym same) ∙ is) opened shut)
      | inr other ↦
          among-remove ps at q (record { number = held.connection.number; key = k }) read other
          (table.listed k held (sym (updates.others k other) ∙ is) opened)
    ];
  }
    where
      no : (o : Option KeptConnection) (held : KeptConnection) → o ≡ Some held → held.is_open ≡ true → IsShut o → ⊥
      no None held e opened s = absurd (cc)
      no (Some h) held e opened s =
          let is : true ≡ false = sym opened ∙ ap (λ (x : KeptConnection). x.is_open) (sym (some-same h held e)) ∙ s in
          absurd (cc)

  pub left : connections_at new (remove ps at) ≡ remove (connections_at slots ps) at
  left = connections-else slots new q.key o (remove ps at) apart updates
      ∙ connections-remove slots ps at table.there

-- the last of the places
pub record IsLast (ps front : List ConnectionPlace) (p : ConnectionPlace) : Type 0 where
  pub inside : length front < length ps
  pub read : p ≡ get_or ps (length front) p
  pub left : remove ps (length front) ≡ front

pub last : (front : List ConnectionPlace) (p : ConnectionPlace) → IsLast (front ++ p ∷ []) front p
last [] p = record { inside = omega arith; read = refl; left = refl }
last (x ∷ xs) p =
    let rest = last xs p in
    record { inside = omega (arith, rest.inside); read = rest.read; left = ap (λ l. x ∷ l) rest.left }

-- ---- one joins

there-push : (slots : Slab KeptConnection) (ps : List ConnectionPlace) (p : ConnectionPlace) → AreThere slots ps
    → IsThere slots p
    → AreThere slots (ps ++ p ∷ [])
there-push slots [] p there one = (one, tt)
there-push slots (x ∷ xs) p there one = (there.0, there-push slots xs p there.1 one)

connections-push : (slots : Slab KeptConnection) (ps : List ConnectionPlace) (p : ConnectionPlace) (h : KeptConnection) → AreThere slots ps
    → get slots p.key ≡ Some h → connections_at slots (ps ++ p ∷ []) ≡ connections_at slots ps ++ h.connection ∷ []
connections-push slots [] p h there kept = ap (λ o. with_held o []) kept
connections-push slots (x ∷ xs) p h there kept =
    ap (λ o. with_held o (connections_at slots (xs ++ p ∷ []))) there.0.kept
    ∙ ap (λ l. there.0.held.connection ∷ l) (connections-push slots xs p h there.1 kept)
    ∙ sym (ap (λ o. with_held o (connections_at slots xs) ++ h.connection ∷ []) there.0.kept)

among-push : (ps : List ConnectionPlace) (p q : ConnectionPlace) → IsAmong q ps → IsAmong q (ps ++ p ∷ [])
among-push [] p q among = absurd among
among-push (x ∷ xs) p q (inl here) = inl here
among-push (x ∷ xs) p q (inr rest) = inr (among-push xs p q rest)

among-last : (ps : List ConnectionPlace) (p : ConnectionPlace) → IsAmong p (ps ++ p ∷ [])
among-last [] p = inl refl
among-last (x ∷ xs) p = inr (among-last xs p)

module _ (slots new : Slab KeptConnection) (ps : List ConnectionPlace) (key n : ℕ) (h : KeptConnection) (table : IsTable slots ps)
    (vacant : get slots key ≡ None) (updates : Updates slots new key (Some h)) (number : h.connection.number ≡ n) where
  abbrev one : ConnectionPlace
  one = record { number = n; key = key }

  apart' : AreElse key ps
  apart' = else-shut slots key ps table.there (subst IsShut (sym vacant) tt)

  kept-there : AreThere new ps
  kept-there = there-else slots new key (Some h) ps apart' updates table.there

  pub joined-table : h.is_open ≡ true → AreBelow n (numbers_of ps)
      → IsTable new (ps ++ record { number = n; key = key } ∷ [])
  joined-table opened below = record {
    rise = subst Rise (sym (map_push (λ (p : ConnectionPlace). p.number) ps one))
        (rise-push (numbers_of ps) n table.rise below);
    there = there-push new ps one kept-there
        (record { held = h; kept = updates.changed; opened = opened; number = number });
    listed = λ k held is opened'. elim (cases_eq k key) [
      | inl same ↦
          let equal : h ≡ held = some-same h held (sym updates.changed ∙ ap (get new) (sym same) ∙ is) in
          let place : one ≡ record { number = held.connection.number; key = k } =
          ap₂ (λ m i. record { number = m; key = i })
          (sym number ∙ ap (λ (x : KeptConnection). x.connection.number) equal) (sym same) in
          subst (λ (x : ConnectionPlace). IsAmong x (ps ++ one ∷ [])) place (among-last ps one)
      | inr other ↦
          among-push ps one (record { number = held.connection.number; key = k })
          (table.listed k held (sym (updates.others k other) ∙ is) opened')
    ];
  }

  pub joined : connections_at new (ps ++ record { number = n; key = key } ∷ [])
      ≡ connections_at slots ps ++ h.connection ∷ []
  joined = connections-push new ps one h kept-there updates.changed
      ∙ ap (λ l. l ++ h.connection ∷ []) (connections-else slots new key (Some h) ps apart' updates)
