-- Which clients an offer may find something for, while clients come, go on and leave, and records arrive.
use Rattle.std.proofs.Common.{◌≡◌, ℕ, ◌<◌, ◌≤◌, ◌==◌, ◌||◌, ◌&&◌, Bool, true, false, not, List, []}
use Rattle.std.proofs.Common.{◌∷◌, Option, Some, None}
use Rattle.std.proofs.Common.{option_map, drop, length, map, slice_get, refl, sym, ap, ap₂, subst, ◌∙◌, arith, zero}
use Rattle.std.proofs.Common.{suc, eqb-true}
use Rattle.std.specs.Prelude.{◌≢◌, IsSome, is_some}
use Rattle.std.proofs.lemmas.Bool.{eqb-false}
use Rattle.slab.specs.Slab.{Slab, get, Updates}
use Rattle.server_core.specs.declared.marks.BitRow.{BitRow}
use Rattle.server_core.specs.Rows.{bit_of, HasRoom}
use Rattle.protocol.specs.Catalog.{Config, listing}
use Rattle.protocol.specs.History.{Arrival}
use Rattle.protocol.specs.Client.{Client, is_ending, is_nothing, offered}
use Rattle.protocol.proofs.FoundLemmas.{both}
use Rattle.catalog.specs.Places.{view_in, Seen}
use Rattle.station_ring.specs.HeldRecords.{RingsValue}
use Rattle.session_state.specs.NamedValues.{Choice}
use Rattle.session_state.specs.NamedValues.{ModeValue}
use Rattle.session_state.specs.NamedValues.ModeValue.{Uni, Multi}
use Rattle.session_state.specs.declared.session.State.{State}
use Rattle.session_state.specs.declared.session.State.TheVariants.{Negotiating, Listing, Starting, Transfer, Ending}
use Rattle.session_state.specs.Choices.{all_at_start, at_start, chosen_of}
use Rattle.session_state.specs.Sessions.{SessionValue, client_in, line_made, session_view, with_line}
use Rattle.session_state.proofs.LineLemmas.{no_bytes}
use Rattle.session_state.proofs.TookLemmas.{fill-listing, line-some}
use Rattle.transfer.specs.Choosing.{is_transfer}
use Rattle.transfer.proofs.SleepLemmas.{sleeps-idle, sleeps-on}
use Rattle.session_state.specs.declared.session.Settled.{Settled}
use Rattle.session_state.specs.declared.session.Settled.TheVariants.{Rest, Start}
use Rattle.server_core.specs.declared.client.Offer.{Offer}
use Rattle.server_core.specs.declared.client.Offer.TheVariants.{Bytes, Ended, Idle}
use Rattle.server_core.specs.declared.marks.Marks.{Marks}
use Rattle.server_core.specs.Marks.{Anywhere, AreMarked, Elsewhere, HasRooms, IsIdle, IsMarkedAt, Keeps, KeepsRequests}
use Rattle.server_core.specs.Marks.{RoomBy, asked, bit_by, idle_in, sends_after}
use Rattle.server_core.specs.Refusals.{is_idle, offer_of, offer_when}
use Rattle.server_core.specs.ServerValues.{HoldsOf, OpenClient, SlotGoesOn, goes_on, client_of_open, open_client_of}
use Rattle.server_core.specs.ServerValues.{open_client}
use Rattle.server_core.proofs.OfferLemmas.{fill-negotiating}

-- ---- the same requests ask the same

asked-start : (place : ℕ) (cs : List Choice) → asked place (map at_start cs) ≡ asked place cs
asked-start place [] = refl
asked-start place (c ∷ cs) = ap (λ (b : Bool). (is_some c.action && c.station == place) || b) (asked-start place cs)

mode-start : (place : ℕ) (mode : ModeValue) → asked place (chosen_of (all_at_start mode)) ≡ asked place (chosen_of mode)
mode-start place (Uni patterns) = refl
mode-start place (Multi n) = asked-start place n.choices

same-asked : (place : ℕ) (before after : ModeValue) → all_at_start after ≡ all_at_start before
    → asked place (chosen_of after) ≡ asked place (chosen_of before)
same-asked place before after same = sym (mode-start place after) ∙ ap (λ m. asked place (chosen_of m)) same
    ∙ mode-start place before

-- ---- bits that are kept

kept-rooms : (At : ℕ → Type 0) (old new : Marks) (slot : ℕ) → Keeps At old new → HasRooms old slot → HasRooms new slot
kept-rooms At old new slot keeps room = record {
  marked = let r = room.marked in let k = keeps.marked_room in omega (arith, r, k);
  sending = let r = room.sending in let k = keeps.sending_room in omega (arith, r, k);
  rows = λ place. keeps.rows.rooms slot place (room.rows place);
}

module _ (config : Config) (rings : RingsValue) (At : ℕ → Type 0) (old new : Marks) (keeps : Keeps At old new) where
  pub marked-kept : (slot : ℕ) (s : SessionValue) → At slot → IsMarkedAt config rings old slot s
      → IsMarkedAt config rings new slot s
  marked-kept slot s at is = record {
    room = kept-rooms At old new slot keeps is.room;
    idle = λ none. is.idle (sym (keeps.marked slot at) ∙ none);
    sends = keeps.sending slot at ∙ is.sends;
    asks = λ sends place within. keeps.rows.bits slot at place
        ∙ is.asks sends place (subst (λ n. place < n) keeps.rows.count within);
  }

  free-kept : (slot : ℕ) → At slot → bit_of old.sending slot ≡ false → bit_of new.sending slot ≡ false
  free-kept slot at is = keeps.sending slot at ∙ is

-- where there is more room
pub marked-roomier : (config : Config) (rings : RingsValue) (old new : Marks) (slots : Slab SessionValue)
    → Keeps Anywhere old new → AreMarked config rings old slots → AreMarked config rings new slots
marked-roomier config rings old new slots keeps are = record {
  held = λ slot s there. marked-kept config rings Anywhere old new keeps slot s tt (are.held slot s there);
  free = λ slot none. free-kept config rings Anywhere old new keeps slot tt (are.free slot none);
}

-- where each slot has what it had
pub marked-same : (config : Config) (rings : RingsValue) (marks : Marks) (old new : Slab SessionValue)
    → ((slot : ℕ) → get new slot ≡ get old slot) → AreMarked config rings marks old → AreMarked config rings marks new
marked-same config rings marks old new same are = record {
  held = λ slot s there. are.held slot s (sym (same slot) ∙ there);
  free = λ slot none. are.free slot (sym (same slot) ∙ none);
}

-- where no slot has a session
pub marked-none : (config : Config) (rings : RingsValue) (marks : Marks) (slots : Slab SessionValue)
    → ((slot : ℕ) → get slots slot ≡ None) → ((slot : ℕ) → bit_of marks.sending slot ≡ false)
    → AreMarked config rings marks slots
marked-none config rings marks slots none sending = record {
  held = λ slot s there. absurd (let q : None ≡ Some s = sym (none slot) ∙ there in cc);
  free = λ slot free. sending slot;
}

-- ---- one slot

module _ (config : Config) (rings : RingsValue) (old new : Marks) (before after : Slab SessionValue) (slot : ℕ)
    (keeps : Keeps (Elsewhere slot) old new) (are : AreMarked config rings old before) where
  -- a session goes on
  pub marked-goes : (s : SessionValue) → Updates before after slot (Some s) → IsMarkedAt config rings new slot s
      → AreMarked config rings new after
  marked-goes s updates is = record {
    held = λ other x there. both (other == slot)
        (λ yes. let e = eqb-true other slot yes in
        let same : Some s ≡ Some x = sym updates.changed ∙ ap (get after) (sym e) ∙ there in
        subst (λ k. IsMarkedAt config rings new k x) (sym e)
        (subst (IsMarkedAt config rings new slot) (some-same s x same) is))
        (λ no. let apart = eqb-false other slot no in
        marked-kept config rings (Elsewhere slot) old new keeps other x apart
        (are.held other x (sym (updates.others other apart) ∙ there)));
    free = λ other none. both (other == slot)
        (λ yes. absurd (let q : Some s ≡ None = sym updates.changed ∙ ap (get after) (sym (eqb-true other slot yes))
        ∙ none in cc))
        (λ no. let apart = eqb-false other slot no in
        free-kept config rings (Elsewhere slot) old new keeps other apart
        (are.free other (sym (updates.others other apart) ∙ none)));
  }
    where
      some-same : (a b : SessionValue) → Some a ≡ Some b → a ≡ b
      some-same a b e = cc

  -- a session leaves
  pub marked-leaves : Updates before after slot None → bit_of new.sending slot ≡ false
      → AreMarked config rings new after
  marked-leaves updates sending = record {
    held = λ other x there. both (other == slot)
        (λ yes. absurd (let q : None ≡ Some x = sym updates.changed ∙ ap (get after) (sym (eqb-true other slot yes))
        ∙ there in cc))
        (λ no. let apart = eqb-false other slot no in
        marked-kept config rings (Elsewhere slot) old new keeps other x apart
        (are.held other x (sym (updates.others other apart) ∙ there)));
    free = λ other none. both (other == slot)
        (λ yes. ap (bit_of new.sending) (eqb-true other slot yes) ∙ sending)
        (λ no. let apart = eqb-false other slot no in
        free-kept config rings (Elsewhere slot) old new keeps other apart
        (are.free other (sym (updates.others other apart) ∙ none)));
  }

pub keeps-itself : (At : ℕ → Type 0) (marks : Marks) → Keeps At marks marks
keeps-itself At marks = record {
  marked = λ slot at. refl;
  sending = λ slot at. refl;
  marked_room = omega arith;
  sending_room = omega arith;
  rows = record { bits = λ slot at place. refl; rooms = λ slot place room. room; count = refl };
}

-- a session comes
pub marked-opens : (config : Config) (rings : RingsValue) (marks : Marks) (before after : Slab SessionValue) (slot : ℕ)
    (s : SessionValue) → AreMarked config rings marks before → get before slot ≡ None → HasRooms marks slot
    → s.state ≡ Negotiating → s.waiting ≡ [] → Updates before after slot (Some s) → AreMarked config rings marks after
marked-opens config rings marks before after slot s are none room state nothing updates =
    marked-goes config rings marks marks before after slot (keeps-itself (Elsewhere slot) marks) are s updates
    (record {
      room = room;
      idle = λ unmarked. record { by_state = subst (idle_in config rings s) (sym state) nothing };
      sends = are.free slot none ∙ ap is_transfer (sym state);
      asks = λ sends. absurd (let q : false ≡ true = ap is_transfer (sym state) ∙ sends in cc);
    })

-- a session was heard or handed something, and what it asks for is what it asked for before
pub still-asks : (config : Config) (rings : RingsValue) (old new : Marks) (slot : ℕ) (a r : SessionValue)
    → new.rows.items ≡ old.rows.items → KeepsRequests a r → IsMarkedAt config rings old slot a
    → is_transfer r.state ≡ true → (place : ℕ) → place < length new.rows.items
    → bit_by (slice_get new.rows.items place) slot ≡ asked place (chosen_of r.mode)
still-asks config rings old new slot a r same keeps is sends place within =
    let was = keeps.kept sends in
    ap (λ (rows : List BitRow). bit_by (slice_get rows place) slot) same
    ∙ is.asks was.0 place (subst (λ (rows : List BitRow). place < length rows) same within)
    ∙ sym (same-asked place a.mode r.mode was.1)

is-found-idle : (found : Offer) → not (is_idle found) ≡ false → found ≡ Idle
is-found-idle Idle e = refl
is-found-idle Bytes e = absurd cc
is-found-idle Ended e = absurd cc

found-idle : (found : Offer) → is_idle found ≡ true → found ≡ Idle
found-idle Idle e = refl
found-idle Bytes e = absurd cc
found-idle Ended e = absurd cc

-- One that stays in a transfer, or leaves it, is in one exactly if its state is one.
still-sends : (slot : ℕ) (old : Marks) (config : Config) (rings : RingsValue) (a r : SessionValue) (new : Bool)
    → IsMarkedAt config rings old slot a → KeepsRequests a r
    → new ≡ (bit_of old.sending slot && is_transfer r.state) → new ≡ is_transfer r.state
still-sends slot old config rings a r new is kept e = e ∙ both (is_transfer r.state)
    (λ y. rw (is.sends ∙ (kept.kept y).0) refl)
    (λ n. rw n (last-false (bit_of old.sending slot)) ∙ sym n)
  where
    last-false : (b : Bool) → (b && false) ≡ false
    last-false true = refl
    last-false false = refl

-- What waits for a client is no sign of one that is idle.
pub idle-waits : (config : Config) (rings : RingsValue) (s : SessionValue) → IsIdle config rings s → s.waiting ≡ []
idle-waits config rings s is = by s.state is.by_state
  where
    by : (t : State) → idle_in config rings s t → s.waiting ≡ []
    by Negotiating idle = idle
    by (Listing made) idle = idle.0
    by Starting idle = absurd idle
    by (Transfer next) idle = idle.nothing_waits
    by Ending idle = absurd idle

module _ (config : Config) (rings : RingsValue) (old new : Marks) (before after : Slab SessionValue) (slot : ℕ)
    (a r : SessionValue)
    (are : AreMarked config rings old before) (there : get before slot ≡ Some a)
    (updates : Updates before after slot (Some r)) (keeps : Keeps (Elsewhere slot) old new) where
  room-there : HasRooms new slot
  room-there = kept-rooms (Elsewhere slot) old new slot keeps (let is = are.held slot a there in is.room)

  -- It was offered something. For one that was idle nothing is found.
  pub marked-offered : (found : Offer) → bit_of new.marked slot ≡ (bit_of old.marked slot && not (is_idle found))
      → bit_of new.sending slot ≡ (bit_of old.sending slot && is_transfer r.state) → new.rows.items ≡ old.rows.items
      → KeepsRequests a r → (found ≡ Idle → IsIdle config rings r)
      → (IsIdle config rings a → is_idle found ≡ true) → AreMarked config rings new after
  marked-offered found mark sends same kept idle nothing =
      let is = are.held slot a there in
      marked-goes config rings old new before after slot keeps are r updates (record {
        room = room-there;
        idle = λ unmarked. both (bit_of old.marked slot)
            (λ y. idle (is-found-idle found (sym (ap (λ b. b && not (is_idle found)) y) ∙ sym mark ∙ unmarked)))
            (λ n. idle (found-idle found (nothing (is.idle n))));
        sends = still-sends slot old config rings a r _ is kept sends;
        asks = still-asks config rings old new slot a r same kept is;
      })

  still-or-new : (settled : Settled) → (settled ≡ Rest → new.rows.items ≡ old.rows.items)
      → (settled ≡ Rest → KeepsRequests a r)
      → (settled ≡ Start → (place : ℕ) → place < length new.rows.items
      → bit_by (slice_get new.rows.items place) slot ≡ asked place (chosen_of r.mode))
      → is_transfer r.state ≡ true → (place : ℕ) → place < length new.rows.items
      → bit_by (slice_get new.rows.items place) slot ≡ asked place (chosen_of r.mode)
  still-or-new settled same kept started = by settled refl
    where
      by : (t : Settled) → settled ≡ t → is_transfer r.state ≡ true → (place : ℕ) → place < length new.rows.items
          → bit_by (slice_get new.rows.items place) slot ≡ asked place (chosen_of r.mode)
      by Rest e = still-asks config rings old new slot a r (same e) (kept e) (are.held slot a there)
      by Start e = λ in-transfer. started e

  pub marked-heard : (settled : Settled) → bit_of new.marked slot ≡ true → bit_of new.sending slot ≡ is_transfer r.state
      → (settled ≡ Rest → new.rows.items ≡ old.rows.items) → (settled ≡ Rest → KeepsRequests a r) →
      (settled ≡ Start → (place : ℕ) → place < length new.rows.items
      → bit_by (slice_get new.rows.items place) slot ≡ asked place (chosen_of r.mode))
      → AreMarked config rings new after
  marked-heard settled mark sends same kept started =
      marked-goes config rings old new before after slot keeps are r updates (record {
        room = room-there;
        idle = λ unmarked. absurd (let q : true ≡ false = sym mark ∙ unmarked in cc);
        sends = sends;
        asks = still-or-new settled same kept started;
      })

  sends-by : (t : Settled) → bit_of new.sending slot ≡ sends_after t (bit_of old.sending slot) (is_transfer r.state)
      → (t ≡ Rest → KeepsRequests a r) → bit_of new.sending slot ≡ is_transfer r.state
  sends-by Rest now kept = still-sends slot old config rings a r _ (are.held slot a there) (kept refl) now
  sends-by Start now kept = now

  -- Bytes that waited for it were handed, and it was offered something.
  pub marked-went-on : (settled : Settled) (found : Offer) (count : ℕ) → 0 < count → count ≤ length a.waiting
      → bit_of new.marked slot ≡ (bit_of old.marked slot && not (is_idle found))
      → bit_of new.sending slot ≡ sends_after settled (bit_of old.sending slot) (is_transfer r.state)
      → (settled ≡ Rest → new.rows.items ≡ old.rows.items) → (settled ≡ Rest → KeepsRequests a r) →
      (settled ≡ Start → (place : ℕ) → place < length new.rows.items
      → bit_by (slice_get new.rows.items place) slot ≡ asked place (chosen_of r.mode))
      → (found ≡ Idle → IsIdle config rings r) → AreMarked config rings new after
  marked-went-on settled found count some waits mark sends same kept started idle =
      let is = are.held slot a there in
      marked-goes config rings old new before after slot keeps are r updates (record {
        room = room-there;
        idle = λ unmarked. both (bit_of old.marked slot)
            (λ y. idle (is-found-idle found (sym (ap (λ b. b && not (is_idle found)) y) ∙ sym mark ∙ unmarked)))
            (λ n. absurd (
            let none : length a.waiting ≡ 0 = ap length (idle-waits config rings a (is.idle n)) in omega arith));
        sends = sends-by settled sends kept;
        asks = still-or-new settled same kept started;
      })

  -- Bytes that waited for it were handed.
  pub marked-took : (settled : Settled) (count : ℕ) → 0 < count → count ≤ length a.waiting
      → bit_of new.marked slot ≡ bit_of old.marked slot
      → bit_of new.sending slot ≡ sends_after settled (bit_of old.sending slot) (is_transfer r.state)
      → (settled ≡ Rest → new.rows.items ≡ old.rows.items) → (settled ≡ Rest → KeepsRequests a r) →
      (settled ≡ Start → (place : ℕ) → place < length new.rows.items
      → bit_by (slice_get new.rows.items place) slot ≡ asked place (chosen_of r.mode))
      → AreMarked config rings new after
  marked-took settled count some waits mark sends same kept started =
      let is = are.held slot a there in
      marked-goes config rings old new before after slot keeps are r updates (record {
        room = room-there;
        idle = λ unmarked. absurd (
            let none : length a.waiting ≡ 0 = ap length (idle-waits config rings a (is.idle (sym mark ∙ unmarked))) in
            omega arith);
        sends = sends-by settled sends kept;
        asks = still-or-new settled same kept started;
      })

-- what a session that took, and then was offered something, keeps
pub keeps-twice : (a m r : SessionValue) → KeepsRequests a m → KeepsRequests m r → KeepsRequests a r
keeps-twice a m r one other = record {
  kept = λ sends.
      let last = other.kept sends in
      let first = one.kept last.0 in (first.0, last.1 ∙ first.1);
}

-- A session that stays as it is keeps its mark.
pub marked-still : (config : Config) (rings : RingsValue) (marks : Marks) (before after : Slab SessionValue) (slot : ℕ)
    (a r : SessionValue) → AreMarked config rings marks before → get before slot ≡ Some a
    → Updates before after slot (Some r) → r ≡ a → AreMarked config rings marks after
marked-still config rings marks before after slot a r are there updates same =
    marked-goes config rings marks marks before after slot (keeps-itself (Elsewhere slot) marks) are r updates
    (subst (IsMarkedAt config rings marks slot) (sym same) (are.held slot a there))

-- A session that is looked at keeps its mark, where it is marked.
pub marked-looked : (config : Config) (rings : RingsValue) (marks : Marks) (before after : Slab SessionValue) (slot : ℕ)
    (a r : SessionValue) → AreMarked config rings marks before → get before slot ≡ Some a
    → Updates before after slot (Some r) → bit_of marks.marked slot ≡ true → r.state ≡ a.state → KeepsRequests a r
    → AreMarked config rings marks after
marked-looked config rings marks before after slot a r are there updates mark state kept =
    let is = are.held slot a there in
    marked-goes config rings marks marks before after slot (keeps-itself (Elsewhere slot) marks) are r updates (record {
      room = is.room;
      idle = λ unmarked. absurd (let q : true ≡ false = sym mark ∙ unmarked in cc);
      sends = is.sends ∙ ap is_transfer (sym state);
      asks = still-asks config rings marks marks slot a r refl kept is;
    })

-- ---- a record arrives

or-left : (a b : Bool) → (a || b) ≡ false → a ≡ false
or-left true b e = e
or-left false b e = refl

or-right : (a b : Bool) → (a || b) ≡ false → b ≡ false
or-right true b e = absurd cc
or-right false b e = e

not-both : (a b : Bool) → (a && b) ≡ false → b ≡ true → a ≡ false
not-both a b e t = both a (λ s. absurd (let q : true ≡ false = sym (ap₂ (λ (x y : Bool). x && y) s t) ∙ e in cc))
    (λ f. f)

-- Where nothing is asked of a station, no request is for it.
none-for : (place i : ℕ) (c : Choice) (cs : List Choice) → asked place cs ≡ false → slice_get cs i ≡ Some c
    → is_some c.action ≡ true → c.station ≢ place
none-for place i c [] none there acts e = absurd cc
none-for place zero c (x ∷ cs) none there acts e =
    let same : x ≡ c = some-same x c there in
    let first : (is_some x.action && x.station == place) ≡ false = or-left _ _ none in
    let acts' : is_some x.action ≡ true = ap (λ (y : Choice). is_some y.action) same ∙ acts in
    let apart : (x.station == place) ≡ false = sym (ap (λ (b : Bool). b && x.station == place) acts') ∙ first in
    eqb-false x.station place apart (ap (λ (y : Choice). y.station) same ∙ e)
  where
    some-same : (a b : Choice) → Some a ≡ Some b → a ≡ b
    some-same a b e = cc
none-for place (suc i) c (x ∷ cs) none there acts e =
    none-for place i c cs (or-right (is_some x.action && x.station == place) _ none) there acts e

idle-later : (config : Config) (before after : RingsValue) (place : ℕ) (s : SessionValue)
    → ((other : ℕ) → other ≢ place → slice_get after.rings other ≡ slice_get before.rings other)
    → (is_transfer s.state ≡ true → asked place (chosen_of s.mode) ≡ false) → IsIdle config before s
    → IsIdle config after s
idle-later config before after place s others none is = record { by_state = by s.state refl is.by_state }
  where
    by : (t : State) → s.state ≡ t → idle_in config before s t → idle_in config after s t
    by Negotiating e idle = idle
    by (Listing made) e idle = idle
    by Starting e idle = idle
    by (Transfer next) e idle =
        sleeps-on before after s
        (λ i c there acts. others c.station
        (none-for place i c (chosen_of s.mode) (none (ap is_transfer e)) there acts)) idle
    by Ending e idle = idle

module _ (config : Config) (before after : RingsValue) (old new : Marks) (place : ℕ) (slots : Slab SessionValue)
    (others : (other : ℕ) → other ≢ place → slice_get after.rings other ≡ slice_get before.rings other)
    (within : place < length old.rows.items)
    (bits : (slot : ℕ) → HasRoom old.marked slot
    → bit_of new.marked slot
    ≡ (bit_of old.marked slot || (bit_by (slice_get old.rows.items place) slot && bit_of old.sending slot)))
    (room : length new.marked.words.items ≡ length old.marked.words.items) (sending : new.sending ≡ old.sending)
    (rows : new.rows.items ≡ old.rows.items) where
  arrived-at : (slot : ℕ) (s : SessionValue) → IsMarkedAt config before old slot s → IsMarkedAt config after new slot s
  arrived-at slot s is = record {
    room = record {
      marked = let r = is.room.marked in omega (arith, r, room);
      sending = subst (λ (row : BitRow). HasRoom row slot) (sym sending) is.room.sending;
      rows = λ p. subst (λ (rs : List BitRow). RoomBy (slice_get rs p) slot) (sym rows) (is.room.rows p);
    };
    idle = λ unmarked.
        let now = sym (bits slot is.room.marked) ∙ unmarked in
        idle-later config before after place s others
        (λ sends. sym (is.asks sends place within)
        ∙ not-both (bit_by (slice_get old.rows.items place) slot) (bit_of old.sending slot)
        (or-right (bit_of old.marked slot) _ now) (is.sends ∙ sends))
        (is.idle (or-left (bit_of old.marked slot) _ now));
    sends = ap (λ (row : BitRow). bit_of row slot) sending ∙ is.sends;
    asks = λ sends p inside. ap (λ (rs : List BitRow). bit_by (slice_get rs p) slot) rows
        ∙ is.asks sends p (subst (λ (rs : List BitRow). p < length rs) rows inside);
  }

  pub marked-arrives : AreMarked config before old slots → AreMarked config after new slots
  marked-arrives are = record {
    held = λ slot s there. arrived-at slot s (are.held slot s there);
    free = λ slot none. ap (λ (row : BitRow). bit_of row slot) sending ∙ are.free slot none;
  }

-- ---- what is idle

dropped-all : {X : Type 0} (xs : List X) (k : ℕ) → slice_get xs k ≡ None → drop k xs ≡ []
dropped-all [] zero e = refl
dropped-all [] (suc k) e = refl
dropped-all (x ∷ xs) zero e = absurd cc
dropped-all (x ∷ xs) (suc k) e = dropped-all xs k e

-- an offer in a listing, by the next line
pub lists-on : (config : Config) (h : List Arrival) (s : SessionValue) (made : ℕ) → s.state ≡ Listing made
    → is_nothing s.waiting ≡ true → (o : Option (List ℕ)) → slice_get (listing (session_view config s)) made ≡ o →
    offered h (client_in config h s) ≡ client_in config h (with_line made s o)
lists-on config h s made state none o e = sym (fill-listing config h s made state none)
    ∙ ap (λ x. client_in config h (with_line made s x)) e

-- An offer to an idle session changes nothing.
pub idle-offered : (config : Config) (h : List Arrival) (rings : RingsValue) (s : SessionValue) → HoldsOf config rings h
    → IsIdle config rings s → offered h (client_in config h s) ≡ client_in config h s
idle-offered config h rings s holds is = by s.state refl is.by_state
  where
    by : (t : State) → s.state ≡ t → idle_in config rings s t → offered h (client_in config h s) ≡ client_in config h s
    by Negotiating e idle = sym (fill-negotiating config h s e (ap is_nothing idle))
    by (Listing made) e idle = lists-on config h s made e (ap is_nothing idle.0) None idle.1
    by Starting e idle = absurd idle
    by (Transfer next) e idle = sym (sleeps-idle config h rings s next idle e holds)
    by Ending e idle = absurd idle

finds-nothing : (config : Config) (h : List Arrival) (s : SessionValue) → s.waiting ≡ []
    → is_ending (client_in config h s).state ≡ false → is_idle (offer_of (client_in config h s)) ≡ true
finds-nothing config h s none goes = ap₂ (λ (w : List ℕ) (b : Bool). is_idle (offer_when (is_nothing w) b)) none goes

-- and finds nothing.
pub idle-finds : (config : Config) (h : List Arrival) (rings : RingsValue) (s : SessionValue) → HoldsOf config rings h
    → IsIdle config rings s → is_idle (offer_of (offered h (client_in config h s))) ≡ true
idle-finds config h rings s holds is = ap (λ c. is_idle (offer_of c)) (idle-offered config h rings s holds is)
    ∙ by s.state refl is.by_state
  where
    goes : (t : State) → s.state ≡ t → is_ending (client_in config h (record s { state = t })).state ≡ false
        → is_ending (client_in config h s).state ≡ false
    goes t e x = ap (λ u. is_ending (client_in config h (record s { state = u })).state) e ∙ x

    by : (t : State) → s.state ≡ t → idle_in config rings s t → is_idle (offer_of (client_in config h s)) ≡ true
    by Negotiating e idle = finds-nothing config h s idle (goes Negotiating e refl)
    by (Listing made) e idle = finds-nothing config h s idle.0 (goes (Listing made) e refl)
    by Starting e idle = absurd idle
    by (Transfer next) e idle = finds-nothing config h s idle.nothing_waits (goes (Transfer next) e refl)
    by Ending e idle = absurd idle

-- ---- listings

-- Where an offer in a listing leaves nothing waiting, there was no line, and there is none.
pub listing-idle : (config : Config) (rings : RingsValue) (s r : SessionValue) (made : ℕ) → s.state ≡ Listing made
    → s.waiting ≡ [] → r ≡ line_made config made s → is_nothing r.waiting ≡ true → IsIdle config rings r
listing-idle config rings s r made state none is nothing = by (slice_get (listing (session_view config s)) made) refl
  where
    by : (o : Option (List ℕ)) → slice_get (listing (session_view config s)) made ≡ o → IsIdle config rings r
    by None e =
        let same : r ≡ s = is ∙ ap (with_line made s) e in
        subst (IsIdle config rings) (sym same)
        (record { by_state = subst (idle_in config rings s) (sym state) (none, e) })
    by (Some line) e =
        let same : r.waiting ≡ line = ap (λ (x : SessionValue). x.waiting) (is ∙ ap (with_line made s) e) in
        absurd (let q : true ≡ false = sym nothing ∙ ap is_nothing same
        ∙ line-some (session_view config s) made line e in cc)

-- An offer in a listing finds something exactly if there is a further line.
pub listing-ready : (config : Config) (h : List Arrival) (s : SessionValue) (made : ℕ) (t : Bool)
    → s.state ≡ Listing made → is_nothing s.waiting ≡ true
    → t ≡ is_some (slice_get (listing (session_view config s)) made)
    → t ≡ not (is_idle (offer_of (offered h (client_in config h s))))
listing-ready config h s made t state none is = by (slice_get (listing (session_view config s)) made) refl
  where
    by : (o : Option (List ℕ)) → slice_get (listing (session_view config s)) made ≡ o
        → t ≡ not (is_idle (offer_of (offered h (client_in config h s))))
    by None e =
        is ∙ ap is_some e
        ∙ sym (ap (λ c. not (is_idle (offer_of c))) (lists-on config h s made state none None e)
        ∙ ap not
        (finds-nothing config h s (no_bytes s.waiting none)
        (ap (λ u. is_ending (client_in config h (record s { state = u })).state) state)))
    by (Some line) e =
        is ∙ ap is_some e
        ∙ sym (ap (λ c. not (is_idle (offer_of c))) (lists-on config h s made state none (Some line) e)
        ∙ ap (λ b. not (is_idle (offer_when b false))) (line-some (session_view config s) made line e))

-- Where there is none, an offer changes nothing.
pub listing-spared : (config : Config) (h : List Arrival) (s : SessionValue) (made : ℕ) → s.state ≡ Listing made
    → is_nothing s.waiting ≡ true → false ≡ is_some (slice_get (listing (session_view config s)) made)
    → offered h (client_in config h s) ≡ client_in config h s
listing-spared config h s made state none lacks = by (slice_get (listing (session_view config s)) made) refl
  where
    by : (o : Option (List ℕ)) → slice_get (listing (session_view config s)) made ≡ o
        → offered h (client_in config h s) ≡ client_in config h s
    by None e = lists-on config h s made state none None e
    by (Some line) e = absurd (let q : false ≡ true = lacks ∙ ap is_some e in cc)

-- ---- offers that are spared

-- The client in a slot that is not marked is offered nothing.
pub unmarked-idle : (config : Config) (h : List Arrival) (rings : RingsValue) (marks : Marks)
    (slots : Slab SessionValue) (slot : ℕ) → HoldsOf config rings h → AreMarked config rings marks slots
    → bit_of marks.marked slot ≡ false → (c : Client)
    → client_of_open (open_client config h (Some (get slots slot))) ≡ Some c
    → (offered h c ≡ c) × (is_idle (offer_of (offered h c)) ≡ true)
unmarked-idle config h rings marks slots slot holds are unmarked c there = by (get slots slot) refl
  where
    some-same : (a b : Client) → Some a ≡ Some b → a ≡ b
    some-same a b e = cc

    by : (o : Option SessionValue) → get slots slot ≡ o → (offered h c ≡ c) × (is_idle (offer_of (offered h c)) ≡ true)
    by None e =
        absurd (let q : None ≡ Some c =
        sym (ap (λ (x : Option SessionValue). client_of_open (open_client config h (Some x))) e) ∙ there in cc)
    by (Some s) e =
        let is = are.held slot s e in
        let same : client_in config h s
        ≡ c = some-same (client_in config h s) c
        (sym (ap (λ (x : Option SessionValue). client_of_open (open_client config h (Some x))) e) ∙ there) in (
          subst (λ x. offered h x ≡ x) same (idle-offered config h rings s holds (is.idle unmarked)),
          subst (λ x. is_idle (offer_of (offered h x)) ≡ true) same
              (idle-finds config h rings s holds (is.idle unmarked)),
        )

pub unmarked-answer : (config : Config) (h : List Arrival) (rings : RingsValue) (marks : Marks)
    (slots : Slab SessionValue) (slot : ℕ) → HoldsOf config rings h → AreMarked config rings marks slots
    → bit_of marks.marked slot ≡ false → IsSome (get slots slot)
    → Some false ≡ option_map (λ c. not (is_idle (offer_of (offered h c))))
    (client_of_open (open_client config h (Some (get slots slot))))
unmarked-answer config h rings marks slots slot holds are unmarked some =
    by (client_of_open (open_client config h (Some (get slots slot)))) refl
  where
    opened-some : (o : Option SessionValue) → IsSome o → is_some (client_of_open (open_client config h (Some o))) ≡ true
    opened-some None e = e
    opened-some (Some s) e = refl

    by : (o : Option Client) → client_of_open (open_client config h (Some (get slots slot))) ≡ o
        → Some false ≡ option_map (λ c. not (is_idle (offer_of (offered h c)))) o
    by None e = absurd (let q : false ≡ true = sym (ap is_some e) ∙ opened-some (get slots slot) some in cc)
    by (Some c) e =
        ap (λ b. Some (not b)) (sym (unmarked-idle config h rings marks slots slot holds are unmarked c e).1)

-- A session that is looked at stays what it was.
pub slot-looked : (config : Config) (h : List Arrival) (old new : Slab SessionValue) (slot : ℕ) (a r : SessionValue)
    → get old slot ≡ Some a → Updates old new slot (Some r) → client_in config h r ≡ client_in config h a
    → r.places ≡ a.places → SlotGoesOn config h old new slot (λ v c. c)
slot-looked config h old new slot a r there updates client places =
    let seat : open_client_of config h r ≡ record { view = session_view config a; client = client_in config h a } =
    ap₂ (λ (p : Seen) (q : Client). let t : OpenClient =
    record { view = view_in config p; client = q } in t) places client in
    record {
      here = ap (λ o. open_client config h (Some o)) updates.changed ∙ ap Some seat
          ∙ ap (λ o. goes_on (λ v c. c) (open_client config h (Some o))) (sym there);
      others = updates.others;
    }
