-- How far the requests of a transfer have come in the rings of their stations. A cursor is a place before which a
-- request wants nothing more. SeedLink 3, DATA, FETCH and TIME. Left out: how a cursor is moved.
use Rattle.std.specs.Prelude.{◌≡◌, ◌≢◌, ℕ, ℤ, suc, zero, ◌+◌, ◌-◌, ◌<◌, ◌≤◌, Bool, true}
use Rattle.std.specs.Prelude.{false, int_lt, if◌then◌else◌, is_some, List, []}
use Rattle.std.specs.Prelude.{◌∷◌}
use Rattle.std.specs.Prelude.{Option, Some, None, option_map, slice_get}
use Rattle.station_ring.specs.declared.held.Held.{Held}
use Rattle.station_ring.specs.Rings.{RingValue, IsRing, first_place, held_at}
use Rattle.station_ring.specs.HeldRecords.{RingsValue, IsBefore, place_from}
use Rattle.sl_lines.specs.declared.actions.Action.{Action}
use Rattle.sl_lines.specs.declared.actions.Action.TheVariants.{Data, Fetch, Time}
use Rattle.session_state.specs.KeptActions.{end_of}
use Rattle.session_state.specs.NamedValues.{Choice, ahead_of}
use Rattle.session_state.specs.declared.choices.Cursor.{Cursor}
use Rattle.session_state.specs.declared.choices.Entry.{Entry}
use Rattle.session_state.specs.NamedValues.{ModeValue}
use Rattle.session_state.specs.declared.session.State.TheVariants.{Transfer}
use Rattle.session_state.specs.Choices.{chosen_of}
use Rattle.session_state.specs.Sessions.{SessionValue, lost_with}
use Rattle.transfer.specs.Wanting.{wants_held}

-- after a moment, where one is given
abbrev pub is_late : Option ℤ → (start : ℤ) → Bool
is_late None start = false
is_late (Some last) start = int_lt last start

-- The record starts after the end of TIME, where one is asked.
abbrev pub is_after_end : Option Action → Held → Bool
is_after_end action x = is_late (end_of action) x.summary.start

-- ---- where a request begins

-- the place in its ring at which a request begins: the next record's, that of a number, or the oldest
abbrev pub begin_place : RingValue → Action → ℕ
begin_place r (Data None begin) = r.pushes
begin_place r (Data (Some number) begin) = place_from r number
begin_place r (Fetch None begin) = first_place r
begin_place r (Fetch (Some number) begin) = place_from r number
begin_place r (Time begin last) = first_place r

-- What a station's ring holds before the place at which its request begins arrived before the first that the request
-- wants.
pub record BeginsIn (rings : RingsValue) (c : Choice) : Type 0 where
  pub before : (r : RingValue) (action : Action) → slice_get rings.rings c.station ≡ Some r → c.action ≡ Some action
      → IsBefore r (begin_place r action) c.first

-- The cursor of a request is at the place at which it begins.
pub record IsAtBegin (r : RingValue) (action : Action) (cursor : Cursor) : Type 0 where
  pub place : cursor.ring_place ≡ begin_place r action
  pub unended : cursor.ended ≡ 0
  pub within : cursor.ring_place ≤ r.pushes
  pub unseen : cursor.seen ≡ 0
  pub none : ahead_of cursor ≡ None
  pub holding : IsRing r

pub record StartsIn (rings : RingsValue) (c : Choice) : Type 0 where
  pub starts : (r : RingValue) (action : Action) → slice_get rings.rings c.station ≡ Some r → c.action ≡ Some action
      → IsAtBegin r action c.cursor
  pub quiet : c.action ≡ None → ahead_of c.cursor ≡ None

-- ---- what a request has passed

-- No record that the ring holds before the cursor is wanted, of those from position `next` on. And all those before it
-- that start after the end of TIME lie before the place that the cursor tells, the last of them just before it.
pub record HasPassed (r : RingValue) (next : ℕ) (c : Choice) (cursor : Cursor) : Type 0 where
  pub within : cursor.ring_place ≤ r.pushes
  pub unwanted : (place : ℕ) (x : Held) → place < cursor.ring_place → held_at r place ≡ Some x
      → wants_held c next x ≡ false
  pub told : (place : ℕ) (x : Held) → place < cursor.ring_place → held_at r place ≡ Some x
      → is_after_end c.action x ≡ true → place < cursor.ended
  pub before : cursor.ended ≤ cursor.ring_place
  pub after : (place : ℕ) (x : Held) → cursor.ended ≡ place + 1 → held_at r place ≡ Some x
      → is_after_end c.action x ≡ true

-- Besides, the cursor is not before the oldest record, and the request wants the record at the cursor, where one is
-- there. The cursor tells its stamp, and how many records the ring had been given.
pub record RestsAt (r : RingValue) (next : ℕ) (c : Choice) (cursor : Cursor) : Type 0 where
  pub passed : HasPassed r next c cursor
  pub low : first_place r ≤ cursor.ring_place
  pub wanted : (x : Held) → held_at r cursor.ring_place ≡ Some x → wants_held c next x ≡ true
  pub seen : cursor.seen ≡ r.pushes
  pub ahead : ahead_of cursor ≡ option_map (λ x. x.stamp) (held_at r cursor.ring_place)
  pub holding : IsRing r

-- So it was when the ring was last looked at, but for records that were sent since: from position `next` on more may be
-- sent.
pub record RestedAt (r : RingValue) (next : ℕ) (c : Choice) (cursor : Cursor) : Type 0 where
  pub low : first_place r ≤ cursor.ring_place
  pub wanted : (x : Held) → held_at r cursor.ring_place ≡ Some x → next ≤ x.stamp → wants_held c next x ≡ true
  pub ahead : ahead_of cursor ≡ option_map (λ x. x.stamp) (held_at r cursor.ring_place)
  pub holding : IsRing r

-- What a request has passed in its ring, and what is known of the record at its cursor while nothing was pushed since.
pub record HasSeen (r : RingValue) (next : ℕ) (c : Choice) (cursor : Cursor) : Type 0 where
  pub passed : HasPassed r next c cursor
  pub seen : cursor.seen ≤ r.pushes
  pub fresh : cursor.seen ≡ r.pushes → RestedAt r next c cursor

-- the same of a named station that is asked for something, in its ring
pub record PassedIn (rings : RingsValue) (next : ℕ) (c : Choice) : Type 0 where
  pub passed : (r : RingValue) (action : Action) → slice_get rings.rings c.station ≡ Some r → c.action ≡ Some action
      → HasSeen r next c c.cursor
  pub quiet : c.action ≡ None → ahead_of c.cursor ≡ None

pub record RestsIn (rings : RingsValue) (next : ℕ) (c : Choice) : Type 0 where
  pub rests : (r : RingValue) (action : Action) → slice_get rings.rings c.station ≡ Some r → c.action ≡ Some action
      → RestsAt r next c c.cursor
  pub quiet : c.action ≡ None → ahead_of c.cursor ≡ None
  pub nowhere : slice_get rings.rings c.station ≡ None → ahead_of c.cursor ≡ None

-- All records of the station were passed.
pub record IsReached (rings : RingsValue) (c : Choice) : Type 0 where
  pub reached : (r : RingValue) (action : Action) → slice_get rings.rings c.station ≡ Some r → c.action ≡ Some action
      → c.cursor.ring_place ≡ r.pushes

-- ---- what a request lost

-- how many records the ring let go that were at the cursor or after it
abbrev pub lost_at : RingValue → Cursor → ℕ
lost_at r cursor = first_place r - cursor.ring_place

-- the session with so many more that were lost
abbrev pub with_lost : SessionValue → ℕ → SessionValue
with_lost s zero = s
with_lost s (suc n) = record s { lost = lost_with s.lost (suc n) }

-- how many records a look at a ring finds lost: none if there is no ring, or nothing is asked
abbrev pub lost_in : Option RingValue → Option Action → Cursor → ℕ
lost_in (Some r) (Some action) cursor = lost_at r cursor
lost_in (Some r) None cursor = 0
lost_in None action cursor = 0

-- the same of a named station
abbrev pub lost_of : RingsValue → Choice → ℕ
lost_of rings c = lost_in (slice_get rings.rings c.station) c.action c.cursor

-- ---- of all requests

-- It is true of each named station.
abbrev pub OfAll : (Choice → Type 0) → List Choice → Type 0
OfAll P cs = (i : ℕ) (c : Choice) → slice_get cs i ≡ Some c → P c

-- Nothing was pushed to the station's ring since the request looked at it.
pub record HasLooked (rings : RingsValue) (c : Choice) : Type 0 where
  pub seen : (r : RingValue) (action : Action) → slice_get rings.rings c.station ≡ Some r → c.action ≡ Some action
      → c.cursor.seen ≡ r.pushes
  pub nowhere : slice_get rings.rings c.station ≡ None → ahead_of c.cursor ≡ None

-- Requests looked at their rings when so many records had arrived: since then no more was pushed to the rings of two
-- stations together than arrived, and no ring is new.
pub record HaveLookedAt (rings : RingsValue) (n : ℕ) (cs : List Choice) : Type 0 where
  pub two : (i j : ℕ) (c d : Choice) (q r : RingValue) (a b : Action) → slice_get cs i ≡ Some c
      → slice_get cs j ≡ Some d → c.station ≢ d.station → slice_get rings.rings c.station ≡ Some q
      → slice_get rings.rings d.station ≡ Some r → c.action ≡ Some a → d.action ≡ Some b
      → q.pushes + r.pushes + n ≤ rings.arrivals + c.cursor.seen + d.cursor.seen
  pub nowhere : OfAll (λ c. slice_get rings.rings c.station ≡ None → ahead_of c.cursor ≡ None) cs

-- What a session keeps of its last look is true: no more records had arrived then than now, and if as many had,
-- nothing was pushed to a ring since.
pub record IsLooked (rings : RingsValue) (s : SessionValue) : Type 0 where
  pub late : (n : ℕ) → s.looked ≡ Some n → n ≤ rings.arrivals
  pub seen : s.looked ≡ Some rings.arrivals → OfAll (HasLooked rings) (chosen_of s.mode)
  pub since : (n : ℕ) → s.looked ≡ Some n → HaveLookedAt rings n (chosen_of s.mode)

-- All requests have passed nothing that may still be wanted from position `next` on.
pub record HasPassedAll (rings : RingsValue) (next : ℕ) (s : SessionValue) : Type 0 where
  pub passed : OfAll (PassedIn rings next) (chosen_of s.mode)
  pub looked : IsLooked rings s

-- A session in a transfer has passed nothing that it may still want.
pub record PassesUnwanted (rings : RingsValue) (s : SessionValue) : Type 0 where
  pub all : (next : ℕ) → s.state ≡ Transfer next → HasPassedAll rings next s

-- the same; contracts need not look into it
unfoldable pub ArePassed : RingsValue → SessionValue → Type 0
ArePassed rings s = PassesUnwanted rings s

-- the cursors of the requests, those of the named stations that are asked for something
abbrev pub request_cursors : List Choice → List ℕ
request_cursors [] = []
request_cursors (c ∷ cs) = if is_some c.action then c.cursor.ring_place ∷ request_cursors cs else request_cursors cs

-- the same of their entries
abbrev pub entry_cursors : List Entry → List ℕ
entry_cursors [] = []
entry_cursors (e ∷ es) = if is_some e.action then e.cursor.ring_place ∷ entry_cursors es else entry_cursors es

-- those of a session's mode
abbrev pub cursors_of : ModeValue → List ℕ
cursors_of mode = request_cursors (chosen_of mode)
