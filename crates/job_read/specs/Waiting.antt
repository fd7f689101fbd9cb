-- How far a connection is, by the bytes that went over it, and what it means that the server is silent there.
-- SeedLink 3: each command but END has an answer; after END data packets of 520 bytes come. Left out: the answer to a
-- command in more than one line, of which the last one counts.
use Rattle.std.specs.Prelude.{ℕ, ◌+◌, ◌-◌, ◌*◌, ◌%◌, Bool, true, false, ◌&&◌, ◌||◌, not, ◌==◌, nat_le, nat_lt, min}
use Rattle.std.specs.Prelude.{if◌then◌else◌, List, [], ◌∷◌, Option, Some, None, option_map}
use Rattle.job_read.specs.declared.course.SentCommand.{SentCommand}
use Rattle.job_read.specs.declared.course.SentCommand.TheVariants.{Begun, E, En, End, Other}
use Rattle.job_read.specs.declared.patience.Silence.{Silence}
use Rattle.job_read.specs.declared.patience.Silence.TheVariants.{Usual, Fault, Over}
use Rattle.job_read.specs.declared.patience.Awaited.{Awaited}
use Rattle.job_read.specs.declared.patience.Awaited.TheVariants.{Rest, Packet, WindowEnd, Record}

-- ---- the bytes of a connection

-- the command that is being sent, whether the transfer was asked for, and how many bytes of the packet under way came
pub record CourseValue : Type 0 where
  pub command : SentCommand
  pub is_transfer : Bool
  pub packet : ℕ

-- before the first byte
abbrev pub started : CourseValue
started = record { command = Begun; is_transfer = false; packet = 0 }

-- a byte more of a command: `E` is 69, `N` is 78, `D` is 68
abbrev pub lengthened : SentCommand → ℕ → SentCommand
lengthened Begun byte = if byte == 69 then E else Other
lengthened E byte = if byte == 78 then En else Other
lengthened En byte = if byte == 68 then End else Other
lengthened End byte = Other
lengthened Other byte = Other

-- the command asks for the transfer
abbrev pub is_end : SentCommand → Bool
is_end End = true
is_end command = false

-- after a byte that was sent: CR (13) ends a command
abbrev pub after_sent_byte : CourseValue → ℕ → CourseValue
after_sent_byte c byte =
    if byte == 13 then record c { command = Begun; is_transfer = c.is_transfer || is_end c.command }
    else record c { command = lengthened c.command byte }

-- after bytes that were sent
abbrev pub after_sent : CourseValue → List ℕ → CourseValue
after_sent c [] = c
after_sent c (b ∷ bs) = after_sent (after_sent_byte c b) bs

-- after so many bytes that came
abbrev pub after_received : CourseValue → ℕ → CourseValue
after_received c count = if c.is_transfer then record c { packet = (c.packet % 520 + count % 520) % 520 } else c

-- So many bytes more bring a packet to its end.
abbrev pub completes : CourseValue → ℕ → Bool
completes c count = c.is_transfer && nat_le (520 - c.packet % 520) count

-- The server owes something: an answer, or the rest of a packet.
abbrev pub is_owed : CourseValue → Bool
is_owed c = not c.is_transfer || not (c.packet == 0)

-- ---- silence

-- What it means between two packets: with `--fetch` the server has more to send, or the end; a window is over; and
-- otherwise there may be no record for long.
abbrev pub silence_between : (is_fetch is_window : Bool) → Silence
silence_between true is_window = Fault
silence_between false true = Over
silence_between false false = Usual

-- what it means now
abbrev pub silence_now : Silence → CourseValue → Silence
silence_now between c = if is_owed c then Fault else between

-- what is waited for between two packets
abbrev pub awaited_between : Silence → Awaited
awaited_between Usual = Record
awaited_between Fault = Packet
awaited_between Over = WindowEnd

-- what is waited for now
abbrev pub awaited_now : Silence → CourseValue → Awaited
awaited_now between c = if is_owed c then Rest else awaited_between between

-- after how many milliseconds it is told that nothing comes
abbrev pub told_after : Awaited → ℕ
told_after Record = 60000
told_after Rest = 10000
told_after Packet = 10000
told_after WindowEnd = 10000

-- the limit that holds for it
abbrev pub limit_of : Option ℕ → Silence → Option ℕ
limit_of limit Usual = None
limit_of limit Fault = limit
limit_of limit Over = limit

-- ---- time limits

-- After how many seconds of silence a server is left: as asked for, and otherwise after 60 if there is another server,
-- the same one is asked again, or a window ends.
abbrev pub time_limit : (timeout : Option ℕ) → (count : ℕ) → (is_retried is_window : Bool) → Option ℕ
time_limit (Some seconds) count is_retried is_window = Some seconds
time_limit None count is_retried is_window = if is_retried || is_window || nat_lt 1 count then Some 60 else None

-- how many seconds pass before the next server is asked
abbrev pub pause : (retry : Option ℕ) → ℕ
pause None = 1
pause (Some seconds) = seconds

-- how many milliseconds of a limit are left that began at a moment
abbrev pub left_of : Option ℕ → (begun now : ℕ) → Option ℕ
left_of limit begun now = option_map (λ l. l - (now - begun)) limit

-- the shorter of two times, if there are some
abbrev pub shorter : Option ℕ → Option ℕ → Option ℕ
shorter None b = b
shorter (Some a) None = Some a
shorter (Some a) (Some b) = Some (min a b)

-- milliseconds of seconds, at most 2^64 - 1
abbrev pub milliseconds_of : ℕ → ℕ
milliseconds_of seconds = min (seconds * 1000) 18446744073709551615

-- a read that ends after one time has ended by another one
abbrev pub is_within : Option ℕ → Option ℕ → Bool
is_within (Some a) (Some b) = nat_le a b
is_within None (Some b) = false
is_within one None = true
