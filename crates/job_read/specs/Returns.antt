-- When records of a station may come again that a reader was handed before.
-- States are this project's own. Left out: which records a server hands.
use Rattle.std.specs.Prelude.{ℕ, Bool, true, false, not, ◌==◌, ◌&&◌, ◌||◌, nat_le, List, Option, Some, None}
use Rattle.std.specs.Prelude.{if◌then◌else◌}
use Rattle.protocol.specs.Packet.{next_number}
use Rattle.job_read.specs.Rows.{RowValue}
use Rattle.job_read.specs.declared.returns.Mark.{Mark}
use Rattle.job_read.specs.declared.returns.Mark.TheVariants.{Usual, Returned, Awaited}

-- A packet doesn't follow on the last one of its station: its number is not after that of the last one, or is any other
-- than the next one if that is to be a jump too. The first packet of a station is one where files may have records of it.
abbrev pub is_jump : (is_first is_each : Bool) → (last : Option ℕ) → (number : ℕ) → Bool
is_jump is_first is_each None number = is_first
is_jump is_first is_each (Some last) number = not (number == next_number last) && (is_each || nat_le number last)

-- a station that is wanted, and the number of its last packet
pub record NumberedValue : Type 0 where
  pub network : List ℕ
  pub station : List ℕ
  pub is_first : Bool
  pub is_each : Bool
  pub connection : ℕ
  pub last : Option ℕ
  pub mark : Mark
  pub row : RowValue

-- the next packet, as it is taken if its number does or does not follow on the last one
abbrev pub is_jump_by : Mark → Bool → Bool
is_jump_by Usual jump = jump
is_jump_by Returned jump = false
is_jump_by Awaited jump = false

abbrev pub is_return_by : Mark → Bool → Bool
is_return_by Usual jump = jump
is_return_by Returned jump = false
is_return_by Awaited jump = true

-- A packet with that number, over that connection, is a jump.
abbrev pub jump_of : NumberedValue → (connection number : ℕ) → Bool
jump_of n connection number = is_jump n.is_first (n.is_each && not (n.connection == connection)) n.last number

abbrev pub jumps : NumberedValue → (connection number : ℕ) → Bool
jumps n connection number = is_jump_by n.mark (jump_of n connection number)

-- All of each file of the station is tail from that packet on.
abbrev pub is_return : NumberedValue → (connection number : ℕ) → Bool
is_return n connection number = is_return_by n.mark (jump_of n connection number)

-- the station after that packet
abbrev pub passed : NumberedValue → (connection number : ℕ) → (returned : Bool) → NumberedValue
passed n connection number returned =
    record n {
      connection = connection;
      last = Some number;
      mark = Usual;
      row = if returned then record n.row { count = 0 } else n.row;
    }

-- how the next packet of another station is taken after that: in an archive, whose stations have files of their own, as
-- before, unless its jumps forth can't be seen; in one file all is tail already
abbrev pub mark_after : (is_archive is_each : Bool) → Mark → Mark
mark_after false is_each mark = Returned
mark_after true true mark = mark
mark_after true false mark = Awaited

abbrev pub marked : (is_archive : Bool) → NumberedValue → NumberedValue
marked is_archive n = record n { mark = mark_after is_archive n.is_each n.mark }

abbrev pub marked_if : (is_jump is_archive : Bool) → NumberedValue → NumberedValue
marked_if is_jump is_archive n = if is_jump then marked is_archive n else n
