-- Which clients an offer may find something for, by the slots of their sessions.
-- This project's own.
use Rattle.std.specs.Prelude.{◌≡◌, ◌≢◌, ℕ, ◌+◌, ◌<◌, ◌≤◌, ◌==◌, ◌&&◌, ◌||◌, Bool, true, false, List, [], length, map}
use Rattle.std.specs.Prelude.{Option}
use Rattle.std.specs.Prelude.{Some, None, is_some, slice_get, slice_index_or}
use Rattle.std.specs.List.{list_any, range_with_len}
use Rattle.slab.specs.Slab.{Slab, get}
use Rattle.server_core.specs.declared.marks.BitRow.{BitRow}
use Rattle.server_core.specs.Rows.{bit_of, HasRoom}
use Rattle.protocol.specs.Catalog.{Config, listing}
use Rattle.station_ring.specs.HeldRecords.{RingsValue}
use Rattle.session_state.specs.declared.choices.Entry.{Entry}
use Rattle.session_state.specs.NamedValues.{Choice}
use Rattle.session_state.specs.declared.session.Settled.{Settled}
use Rattle.session_state.specs.declared.session.Settled.TheVariants.{Rest, Start}
use Rattle.session_state.specs.declared.session.State.{State}
use Rattle.session_state.specs.declared.session.State.TheVariants.{Negotiating, Listing, Starting, Transfer, Ending}
use Rattle.session_state.specs.Choices.{all_at_start, chosen_of}
use Rattle.session_state.specs.Sessions.{SessionValue, session_view}
use Rattle.transfer.specs.Choosing.{is_transfer}
use Rattle.transfer.specs.Sleeping.{Sleeps}
use Rattle.protocol.specs.Client.{Client, offered}
use Rattle.protocol.specs.World.{World, client_of, step}
use Rattle.protocol.specs.World.Event.{Take}
use Rattle.server_core.specs.declared.clients.Clients.{Clients}
use Rattle.server_core.specs.declared.clients.Opened.{Opened}
use Rattle.server_core.specs.declared.marks.Marks.{Marks}
use Rattle.server_core.specs.Clients.{slot_in}
use Rattle.server_core.specs.Refusals.{is_idle, offer_of}
use Rattle.server_core.specs.ServerValues.{ServerValue, mark_at}

-- Something is asked of the station at a place.
abbrev pub asked : ℕ → List Choice → Bool
asked place choices = list_any (λ c. is_some c.action && c.station == place) choices

-- the same of entries
abbrev pub asked_of : ℕ → List Entry → Bool
asked_of place entries = list_any (λ e. is_some e.action && e.station == place) entries

-- The session is in a transfer with a request for the station at a place.
abbrev pub asks : ℕ → SessionValue → Bool
asks place s = is_transfer s.state && asked place (chosen_of s.mode)

-- a slot's bit in a row, where there is one
abbrev pub bit_by : Option BitRow → ℕ → Bool
bit_by None slot = false
bit_by (Some row) slot = bit_of row slot

-- A row, where there is one, has room for a slot's bit.
abbrev pub RoomBy : Option BitRow → ℕ → Type 0
RoomBy None slot = Unit {0}
RoomBy (Some row) slot = HasRoom row slot

-- whether a client is in a transfer, by whether one was to start, and it was in one before, and its state is one
abbrev pub sends_after : Settled → (was is : Bool) → Bool
sends_after Rest was is = was && is
sends_after Start was is = is

-- at every slot
abbrev pub Anywhere : ℕ → Type 0
Anywhere slot = Unit {0}

-- at every other slot
abbrev pub Elsewhere : ℕ → ℕ → Type 0
Elsewhere slot other = other ≢ slot

-- Rows keep their bits at such slots, and have no less room.
pub record KeepsRows (At : ℕ → Type 0) (old new : List BitRow) : Type 0 where
  pub bits : (slot : ℕ) → At slot → (place : ℕ) → bit_by (slice_get new place) slot ≡ bit_by (slice_get old place) slot
  pub rooms : (slot place : ℕ) → RoomBy (slice_get old place) slot → RoomBy (slice_get new place) slot
  pub count : length new ≡ length old

-- There is room for a slot's bits.
pub record HasRooms (marks : Marks) (slot : ℕ) : Type 0 where
  pub marked : HasRoom marks.marked slot
  pub sending : HasRoom marks.sending slot
  pub rows : (place : ℕ) → RoomBy (slice_get marks.rows.items place) slot

-- All bits at such slots are kept, and there is no less room.
pub record Keeps (At : ℕ → Type 0) (old new : Marks) : Type 0 where
  pub marked : (slot : ℕ) → At slot → bit_of new.marked slot ≡ bit_of old.marked slot
  pub sending : (slot : ℕ) → At slot → bit_of new.sending slot ≡ bit_of old.sending slot
  pub marked_room : length old.marked.words.items ≤ length new.marked.words.items
  pub sending_room : length old.sending.words.items ≤ length new.sending.words.items
  pub rows : KeepsRows At old.rows.items new.rows.items

-- By its state an offer to a session finds nothing and changes nothing.
abbrev pub idle_in : Config → RingsValue → SessionValue → State → Type 0
idle_in config rings s Negotiating = s.waiting ≡ []
idle_in config rings s (Listing made) = (s.waiting ≡ []) × (slice_get (listing (session_view config s)) made ≡ None)
idle_in config rings s Starting = ⊥
idle_in config rings s (Transfer next) = Sleeps rings s
idle_in config rings s Ending = ⊥

pub record IsIdle (config : Config) (rings : RingsValue) (s : SessionValue) : Type 0 where
  pub by_state : idle_in config rings s s.state

-- The bits of a slot are those of the session in it: one that is not marked is idle.
pub record IsMarkedAt (config : Config) (rings : RingsValue) (marks : Marks) (slot : ℕ)
    (s : SessionValue) : Type 0 where
  pub room : HasRooms marks slot
  pub idle : bit_of marks.marked slot ≡ false → IsIdle config rings s
  pub sends : bit_of marks.sending slot ≡ is_transfer s.state
  pub asks : is_transfer s.state ≡ true → (place : ℕ) → place < length marks.rows.items →
      bit_by (slice_get marks.rows.items place) slot ≡ asked place (chosen_of s.mode)

-- the same of all slots; one that is free is in no transfer
pub record AreMarked (config : Config) (rings : RingsValue) (marks : Marks) (slots : Slab SessionValue) : Type 0 where
  pub held : (slot : ℕ) (s : SessionValue) → get slots slot ≡ Some s → IsMarkedAt config rings marks slot s
  pub free : (slot : ℕ) → get slots slot ≡ None → bit_of marks.sending slot ≡ false

-- A session in a transfer after a call was in one before, with the same requests.
pub record KeepsRequests (before after : SessionValue) : Type 0 where
  pub kept : is_transfer after.state ≡ true →
      (is_transfer before.state ≡ true) × (all_at_start after.mode ≡ all_at_start before.mode)

-- the mark of the client in a slot, where there is one
abbrev pub mark_in : BitRow → Option ℕ → Bool
mark_in marked None = false
mark_in marked (Some slot) = bit_of marked slot

-- the mark of a number
abbrev pub mark_of : List Opened → BitRow → ℕ → Bool
mark_of os marked k = mark_in marked (slot_in os k)

-- the marks of all clients that ever opened; of one that is gone it says nothing
unfoldable pub marks_of : Clients → Marks → List Bool
marks_of c marks = map (mark_of c.opened.items marks.marked) (range_with_len 0 c.opens)

-- The client's offers find nothing, and may be spared.
pub record IsSpared (config : Config) (w : World) (k : ℕ) : Type 0 where
  pub idle : (c : Client) → client_of (slice_get w.connections k) ≡ Some c →
      is_idle (offer_of (offered w.history c)) ≡ true
  pub nothing : step config w (Take k 0) ≡ w

-- A record of the station at a place marks the clients in a transfer with a request there, and no others.
pub record MarksThose (place : ℕ) (old new : ServerValue) : Type 0 where
  pub marks : (k : ℕ) (s : SessionValue) (mark : Bool) → slice_index_or old.sessions k None ≡ Some s →
      mark_at old k ≡ Some mark →
      mark_at new k ≡ Some (mark || asks place s)

-- What is done with one client leaves the marks of all others, and how many opened.
pub record LeavesOthers (k : ℕ) (old new : ServerValue) : Type 0 where
  pub marks : (other : ℕ) → other ≢ k → mark_at new other ≡ mark_at old other
  pub count : length new.sessions ≡ length old.sessions

-- One more client opens, and the marks of all others stay.
pub record OpensNext (old new : ServerValue) : Type 0 where
  pub marks : (other : ℕ) → other ≢ length old.sessions → mark_at new other ≡ mark_at old other
  pub count : length new.sessions ≡ length old.sessions + 1

-- A number is one of some.
pub record IsAmong (k : ℕ) (ks : List ℕ) : Type 0 where
  pub place : ℕ
  pub inside : place < length ks
  pub is : slice_index_or ks place 0 ≡ k

-- The number is that of an open client in whose slot the bit is set.
pub record IsSetIn (os : List Opened) (row : BitRow) (k : ℕ) : Type 0 where
  pub slot : ℕ
  pub has_slot : slot_in os k ≡ Some slot
  pub is_set : bit_of row slot ≡ true
