-- Marks by number, and offers that are spared.
use Rattle.std.proofs.Common.{◌≡◌, ℕ, ◌<◌, ◌||◌, ◌&&◌, Bool, true, false, not, map, Option, Some, None, option_map}
use Rattle.std.proofs.Common.{length, slice_get, slice_index_or, refl, sym, ap, ap₂, ◌∙◌, arith}
use Rattle.std.specs.Prelude.{IsSome, is_some, ◌≢◌, ◌+◌}
use Rattle.std.specs.List.{range_with_len}
use Rattle.slab.specs.Slab.{get}
use Rattle.server_core.specs.Rows.{bit_of, HasRoom}
use Rattle.protocol.specs.Catalog.{Config}
use Rattle.protocol.specs.Client.{Client, offered}
use Rattle.protocol.specs.World.{World, client_of}
use Rattle.station_ring.specs.HeldRecords.{RingsValue}
use Rattle.session_state.specs.Choices.{chosen_of}
use Rattle.session_state.specs.Sessions.{SessionValue}
use Rattle.transfer.specs.Choosing.{is_transfer}
use Rattle.server_core.specs.declared.clients.Clients.{Clients}
use Rattle.server_core.specs.declared.marks.Marks.{Marks}
use Rattle.server_core.specs.Clients.{IsTable, in_slot, sessions_of, slot_in}
use Rattle.server_core.specs.Marks.{AreMarked, Elsewhere, IsSpared, Keeps, LeavesOthers, MarksThose, OpensNext}
use Rattle.server_core.specs.Marks.{asked, asks, bit_by, mark_in, mark_of, marks_of}
use Rattle.server_core.specs.Refusals.{is_idle, offer_of}
use Rattle.server_core.specs.ServerValues.{ServerValue, StandsAt, mark_at}
use Rattle.server_core.proofs.SessionLemmas.{seen-there, serving}
use Rattle.server_core.proofs.MarkLemmas.{unmarked-idle}
use Rattle.server_core.proofs.NumberLemmas.{slot_in-below}
use Rattle.server_core.proofs.SlotLemmas.{index-of, session-is, sessions-counted, value-inside, values-same}
use Rattle.server_core.proofs.TakeLemmas.{idle-offer}

-- a server of these clients with their marks
abbrev pub serving-with : Config → RingsValue → Clients → Marks → ServerValue
serving-with g rings c marks = record (serving g rings c) { marks = marks_of c marks }

-- the mark of an open number
mark-inside : (c : Clients) (marks : Marks) (k slot : ℕ) → IsTable c → slot_in c.opened.items k ≡ Some slot
    → slice_index_or (marks_of c marks) k false ≡ bit_of marks.marked slot
unfolding marks_of
mark-inside c marks k slot table there =
    index-of (map (mark_of c.opened.items marks.marked) (range_with_len 0 c.opens)) k false _
    (value-inside (mark_of c.opened.items marks.marked) 0 c.opens k k
    (slot_in-below c.opens c.opened.items k slot table.below there) (omega arith))
    ∙ ap (mark_in marks.marked) there

module _ (g : Config) (rings : RingsValue) (c : Clients) (marks : Marks) (k : ℕ) (table : IsTable c) where
  pub mark-there : (slot : ℕ) → slot_in c.opened.items k ≡ Some slot
      → mark_at (serving-with g rings c marks) k ≡ Some (bit_of marks.marked slot)
  mark-there slot there =
      ap (option_map (λ s. slice_index_or (marks_of c marks) k false))
      (session-is c k table ∙ ap (in_slot c.slots) there)
      ∙ by (get c.slots slot) (table.there k slot there)
      ∙ ap Some (mark-inside c marks k slot table there)
    where
      by : (o : Option SessionValue) → IsSome o
          → option_map (λ s. slice_index_or (marks_of c marks) k false) o
          ≡ Some (slice_index_or (marks_of c marks) k false)
      by None e = absurd (let q : false ≡ true = e in cc)
      by (Some s) e = refl

  pub mark-nowhere : slot_in c.opened.items k ≡ None → mark_at (serving-with g rings c marks) k ≡ None
  mark-nowhere none = ap (option_map (λ s. slice_index_or (marks_of c marks) k false))
      (session-is c k table ∙ ap (in_slot c.slots) none)

-- Marks are the same where the bits and the numbers are.
pub marks-same : (c d : Clients) (old new : Marks) → d.opens ≡ c.opens → d.opened.items ≡ c.opened.items
    → ((slot : ℕ) → bit_of new.marked slot ≡ bit_of old.marked slot) → marks_of d new ≡ marks_of c old
unfolding marks_of
marks-same c d old new opens opened bits =
    ap (λ n. map (mark_of d.opened.items new.marked) (range_with_len 0 n)) opens
    ∙ ap (λ os. map (mark_of os new.marked) (range_with_len 0 c.opens)) opened
    ∙ values-same (mark_of c.opened.items new.marked) (mark_of c.opened.items old.marked) 0 c.opens
    (λ j le lt. by (slot_in c.opened.items j))
  where
    by : (o : Option ℕ) → mark_in new.marked o ≡ mark_in old.marked o
    by None = refl
    by (Some slot) = bits slot

-- ---- what is spared

pub bool-inside : (a b : Bool) → Some a ≡ Some b → a ≡ b
bool-inside a b e = cc

pub spares : (config : Config) (w : World) (k : ℕ)
    → ((x : Client) → client_of (slice_get w.connections k) ≡ Some x
    → (offered w.history x ≡ x) × (is_idle (offer_of (offered w.history x)) ≡ true)) → IsSpared config w k
spares config w k each = record {
  idle = λ x there. (each x there).1;
  nothing = idle-offer config w k (λ x there. (each x there).0);
}

-- where the client is not marked
pub spared-there : (g : Config) (rings : RingsValue) (c : Clients) (marks : Marks) (k slot : ℕ) (config : Config)
    (w : World) → IsTable c → slot_in c.opened.items k ≡ Some slot → AreMarked g rings marks c.slots
    → bit_of marks.marked slot ≡ false → StandsAt (serving g rings c) config w → IsSpared config w k
spared-there g rings c marks k slot config w table there are unmarked stands =
    spares config w k
    (λ x is. unmarked-idle g w.history rings marks c.slots slot stands.holds are unmarked x
    (seen-there g rings c k config w slot table there stands ∙ is))

-- where it is found not to be ready
pub spared-by : (config : Config) (w : World) (k : ℕ) (ready : Option Bool)
    → ready ≡ option_map (λ x. not (is_idle (offer_of (offered w.history x)))) (client_of (slice_get w.connections k))
    → ready ≡ Some false → ((x : Client) → client_of (slice_get w.connections k) ≡ Some x → offered w.history x ≡ x)
    → IsSpared config w k
spared-by config w k ready answer unready nothing =
    spares config w k
    (λ x there. (
      nothing x there,
      unset _
          (bool-inside _ _ (sym unready ∙ answer
          ∙ ap (option_map (λ y. not (is_idle (offer_of (offered w.history y))))) there)),
    ))
  where
    unset : (b : Bool) → false ≡ not b → b ≡ true
    unset true e = refl
    unset false e = e

-- ---- what a record marks

both-ways : (t a b : Bool) → (t ≡ true → a ≡ b) → (a && t) ≡ (t && b)
both-ways true true b e = e refl
both-ways true false b e = e refl
both-ways false true b e = refl
both-ways false false b e = refl

pub marks-those : (g : Config) (before after : RingsValue) (c : Clients) (old new : Marks) (place : ℕ) → IsTable c
    → AreMarked g before old c.slots → place < length old.rows.items →
    ((slot : ℕ) → HasRoom old.marked slot
    → bit_of new.marked slot
    ≡ (bit_of old.marked slot || (bit_by (slice_get old.rows.items place) slot && bit_of old.sending slot))) →
    MarksThose place (serving-with g before c old) (serving-with g after c new)
marks-those g before after c old new place table are within bits =
    record { marks = λ k s mark session marked. by k s mark session marked (slot_in c.opened.items k) refl }
  where
    some-same : {X : Type 0} (a b : X) → Some a ≡ Some b → a ≡ b
    some-same a b e = cc

    by : (k : ℕ) (s : SessionValue) (mark : Bool) → slice_index_or (sessions_of c) k None ≡ Some s
        → mark_at (serving-with g before c old) k ≡ Some mark → (o : Option ℕ) → slot_in c.opened.items k ≡ o
        → mark_at (serving-with g after c new) k ≡ Some (mark || asks place s)
    by k s mark session marked None e =
        absurd (let q : None ≡ Some s = sym (session-is c k table ∙ ap (in_slot c.slots) e) ∙ session in cc)
    by k s mark session marked (Some slot) e =
        let held : get c.slots slot ≡ Some s = sym (session-is c k table ∙ ap (in_slot c.slots) e) ∙ session in
        let is = are.held slot s held in
        let was : bit_of old.marked slot
        ≡ mark = some-same (bit_of old.marked slot) mark (sym (mark-there g before c old k table slot e)
        ∙ marked) in
        mark-there g after c new k table slot e
        ∙ ap Some (bits slot (let room = is.room in room.marked)
        ∙ ap₂ (λ (a b : Bool). a || b) was
        (ap (λ b. bit_by (slice_get old.rows.items place) slot && b) is.sends
        ∙ both-ways (is_transfer s.state) (bit_by (slice_get old.rows.items place) slot)
        (asked place (chosen_of s.mode)) (λ sends. is.asks sends place within)))

-- ---- what leaves the marks of others

-- a number with the slot that it had, of which the bit stays
mark-stays : (g : Config) (rings rings' : RingsValue) (c d : Clients) (old new : Marks) (other : ℕ) → IsTable c
    → IsTable d → slot_in d.opened.items other ≡ slot_in c.opened.items other
    → ((slot : ℕ) → slot_in c.opened.items other ≡ Some slot → bit_of new.marked slot ≡ bit_of old.marked slot)
    → mark_at (serving-with g rings' d new) other ≡ mark_at (serving-with g rings c old) other
mark-stays g rings rings' c d old new other table table' same bits = by (slot_in c.opened.items other) refl
  where
    by : (o : Option ℕ) → slot_in c.opened.items other ≡ o
        → mark_at (serving-with g rings' d new) other ≡ mark_at (serving-with g rings c old) other
    by None e = mark-nowhere g rings' d new other table' (same ∙ e) ∙ sym (mark-nowhere g rings c old other table e)
    by (Some slot) e =
        mark-there g rings' d new other table' slot (same ∙ e) ∙ ap Some (bits slot e)
        ∙ sym (mark-there g rings c old other table slot e)

pub leaves-others : (g : Config) (rings : RingsValue) (c d : Clients) (old new : Marks) (k : ℕ) → IsTable c
    → IsTable d → d.opens ≡ c.opens
    → ((other : ℕ) → other ≢ k → slot_in d.opened.items other ≡ slot_in c.opened.items other)
    → ((other slot : ℕ) → other ≢ k → slot_in c.opened.items other ≡ Some slot
    → bit_of new.marked slot ≡ bit_of old.marked slot)
    → LeavesOthers k (serving-with g rings c old) (serving-with g rings d new)
leaves-others g rings c d old new k table table' opens slots bits = record {
  marks = λ other apart. mark-stays g rings rings c d old new other table table' (slots other apart)
      (λ slot e. bits other slot apart e);
  count = sessions-counted d ∙ opens ∙ sym (sessions-counted c);
}

-- The bits of other slots are those of other numbers.
pub bits-elsewhere : (c : Clients) (old new : Marks) (k slot : ℕ) → IsTable c → slot_in c.opened.items k ≡ Some slot
    → Keeps (Elsewhere slot) old new → (other slot' : ℕ) → other ≢ k → slot_in c.opened.items other ≡ Some slot'
    → bit_of new.marked slot' ≡ bit_of old.marked slot'
bits-elsewhere c old new k slot table there keeps other slot' apart e =
    keeps.marked slot' (λ same. apart (table.apart other k slot (e ∙ ap Some same) there))

pub opens-next : (g : Config) (rings : RingsValue) (c d : Clients) (old new : Marks) → IsTable c → IsTable d
    → d.opens ≡ c.opens + 1
    → ((other : ℕ) → other ≢ c.opens → slot_in d.opened.items other ≡ slot_in c.opened.items other)
    → ((slot : ℕ) → bit_of new.marked slot ≡ bit_of old.marked slot)
    → OpensNext (serving-with g rings c old) (serving-with g rings d new)
opens-next g rings c d old new table table' opens slots bits = record {
  marks = λ other apart. mark-stays g rings rings c d old new other table table'
      (slots other (λ e. apart (e ∙ sym (sessions-counted c)))) (λ slot e. bits slot);
  count = sessions-counted d ∙ opens ∙ ap (λ n. n + 1) (sym (sessions-counted c));
}

-- ---- who is not marked

pub unmarked-slot : (g : Config) (rings : RingsValue) (c : Clients) (marks : Marks) (k : ℕ) → IsTable c
    → mark_at (serving-with g rings c marks) k ≡ Some false
    → (slot : ℕ) × (slot_in c.opened.items k ≡ Some slot) × (bit_of marks.marked slot ≡ false)
unmarked-slot g rings c marks k table unmarked = by (slot_in c.opened.items k) refl
  where
    by : (o : Option ℕ) → slot_in c.opened.items k ≡ o
        → (slot : ℕ) × (slot_in c.opened.items k ≡ Some slot) × (bit_of marks.marked slot ≡ false)
    by None e = absurd (let q : None ≡ Some false = sym (mark-nowhere g rings c marks k table e) ∙ unmarked in cc)
    by (Some slot) e = (slot, e, bool-inside _ _ (sym (mark-there g rings c marks k table slot e) ∙ unmarked))

pub kept-open : (g : Config) (before after : RingsValue) (c : Clients) (old new : Marks) (k : ℕ)
    → is_some (mark_at (serving-with g after c new) k) ≡ is_some (mark_at (serving-with g before c old) k)
kept-open g before after c old new k = by (slice_index_or (sessions_of c) k None)
  where
    by : (o : Option SessionValue)
        → is_some (option_map (λ s. slice_index_or (marks_of c new) k false) o)
        ≡ is_some (option_map (λ s. slice_index_or (marks_of c old) k false) o)
    by None = refl
    by (Some s) = refl

-- ---- all that are marked

pub marked-slot : (g : Config) (rings : RingsValue) (c : Clients) (marks : Marks) (k : ℕ) → IsTable c
    → mark_at (serving-with g rings c marks) k ≡ Some true
    → (slot : ℕ) × (slot_in c.opened.items k ≡ Some slot) × (bit_of marks.marked slot ≡ true)
marked-slot g rings c marks k table marked = by (slot_in c.opened.items k) refl
  where
    by : (o : Option ℕ) → slot_in c.opened.items k ≡ o
        → (slot : ℕ) × (slot_in c.opened.items k ≡ Some slot) × (bit_of marks.marked slot ≡ true)
    by None e = absurd (let q : None ≡ Some true = sym (mark-nowhere g rings c marks k table e) ∙ marked in cc)
    by (Some slot) e = (slot, e, bool-inside _ _ (sym (mark-there g rings c marks k table slot e) ∙ marked))
