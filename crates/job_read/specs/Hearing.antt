-- What is reported of what a reader is given: each want that is refused, and each jump in the numbers of a station of
-- which all records are asked for, with the time that is missing there. Left out: records that can't be read, which are
-- of no station, and which packets came of a stream before.
use Rattle.std.specs.Prelude.{ℕ, ◌+◌, ◌-◌, ◌^◌, Bool, true, false, ◌&&◌, ◌||◌, not, ◌==◌, min}
use Rattle.std.specs.Prelude.{if◌then◌else◌, length, List, Option, Some, None, option_map, is_none}
use Rattle.std.specs.List.{list_all}
use Rattle.std.specs.Str.{bytes_eq}
use Rattle.protocol.specs.Packet.{next_number}
use Rattle.slreader.specs.Wants.{Action, WantValue}
use Rattle.slreader.specs.Wants.Action.{Data, Fetch, Time}
use Rattle.slreader.specs.Tallies.{ReachedValue}
use Rattle.job_read.specs.Unplaced.{has_passed}
use Rattle.job_read.specs.declared.jumps.TimeBefore.{TimeBefore}
use Rattle.job_read.specs.declared.jumps.TimeBefore.TheVariants.{Unknown, Whole, Missing}
use Rattle.job_read.specs.declared.jumps.JumpEvent.{JumpEvent}
use Rattle.job_read.specs.declared.jumps.JumpEvent.TheVariants.{Gap, Renumbered}

-- ---- wants

-- No moment is asked for.
abbrev pub is_open : Action → Bool
is_open (Data number begin) = is_none begin
is_open (Fetch number begin) = is_none begin
is_open (Time begin last) = false

-- All records of a station are asked for, from some number on.
abbrev pub is_whole : WantValue → Bool
is_whole w = length w.patterns == 0 && is_open w.action

-- The want is of another station, or asks for all of its records.
abbrev pub spares : (network station : List ℕ) → WantValue → Bool
spares network station w = not (bytes_eq w.network network && bytes_eq w.station station) || is_whole w

-- No want asks for some records of that station alone.
abbrev pub are_whole : (network station : List ℕ) → List WantValue → Bool
are_whole network station wants = list_all (spares network station) wants

-- ---- jumps

-- a number of a station right after which another one came that is not the next, and whether it was reported that time
-- is missing between them
pub record JumpValue : Type 0 where
  pub last : ℕ
  pub next : ℕ
  pub is_told : Bool

-- the number of the last packet of a station, and its last jump
pub record NumbersValue : Type 0 where
  pub last : Option ℕ
  pub jump : Option JumpValue

-- before the first packet, after the one that was reached
abbrev pub begun_numbers : Option ReachedValue → NumbersValue
begun_numbers reached = record { last = option_map (λ (r : ReachedValue). r.number) reached; jump = None }

-- A packet with that number doesn't follow on the last one.
abbrev pub is_jump_after : Option ℕ → (number : ℕ) → Bool
is_jump_after None number = false
is_jump_after (Some last) number = not (next_number last == number)

-- the last jump, with a packet
abbrev pub jump_with : Option JumpValue → Option ℕ → (number : ℕ) → Option JumpValue
jump_with jump None number = jump
jump_with jump (Some last) number =
    if next_number last == number then jump else Some (record { last = last; next = number; is_told = false })

abbrev pub numbers_with : NumbersValue → (number : ℕ) → NumbersValue
numbers_with n number = record { last = Some number; jump = jump_with n.jump n.last number }

-- What is reported at a packet, by whether its number jumped, the time before it in its stream since the last packet of
-- that, and the last jump: time that is missing, once; or a jump at which the time is not known, or none is missing.
abbrev pub event_at : (is_jump : Bool) → TimeBefore → Option JumpValue → Option JumpEvent
event_at is_jump before None = None
event_at is_jump (Missing ticks) (Some j) = if j.is_told then None else Some (Gap j.last j.next (Some ticks))
event_at is_jump Unknown (Some j) = if is_jump then Some (Gap j.last j.next None) else None
event_at is_jump Whole (Some j) = if is_jump then Some (Renumbered j.last j.next) else None

-- the last jump after that
abbrev pub jump_told : Option JumpEvent → Option JumpValue → Option JumpValue
jump_told (Some (Gap last next missing)) jump = option_map (λ (j : JumpValue). record j { is_told = true }) jump
jump_told (Some (Renumbered last next)) jump = jump
jump_told None jump = jump

-- ---- how often

-- when a line was written last, in milliseconds, and how many were left out since
pub record LimitValue : Type 0 where
  pub at : Option ℕ
  pub more : ℕ

-- how many were left out before, if a line may be written: none was within an hour
abbrev pub allowed : LimitValue → (now : ℕ) → Option ℕ
allowed l now = if has_passed l.at now then Some l.more else None

abbrev pub limit_after : LimitValue → (now : ℕ) → LimitValue
limit_after l now =
    if has_passed l.at now then record { at = Some now; more = 0 }
    else record l { more = min (l.more + 1) (2 ^ 64 - 1) }
