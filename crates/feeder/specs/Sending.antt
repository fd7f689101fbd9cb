-- What the sender of a feed writes: the whole records of what it reads.
-- The feed is this project's own.
use Rattle.std.specs.Prelude.{◌≡◌, ℕ, ◌-◌, ◌%◌, ◌^◌, min, List, ◌++◌, length, take, drop, codes}
use Rattle.std.specs.List.{concat}
use Rattle.std.specs.Io.KnownBytes.{Appends, Consumes}
use Rattle.std.specs.declared.option.Option.{Option}
use Rattle.sl_io.specs.Counts.{StopsReading, StopsWriting}
use Rattle.sl_io.specs.Known.{AppendsBeginning}
use Rattle.sl_io.specs.declared.faults.ReadFault.TheVariants.{Read as ReadingFailed}
use Rattle.protocol.specs.declared.reason.Reason.{Reason}
use Rattle.protocol.specs.declared.reason.Reason.TheVariants as reason
use Rattle.protocol.specs.Streams.{feed_of}
use Rattle.feeder.specs.declared.sending.SendFault.{SendFault}
use Rattle.feeder.specs.declared.sending.SendFault.TheVariants.{Partial, Read, Write}

abbrev pub send_reason : SendFault → Reason
send_reason Partial = reason.Partial
send_reason Read = reason.Read
send_reason Write = reason.Write

-- a count that stays at 2^64 - 1
abbrev pub capped : ℕ → ℕ
capped n = min n (2 ^ 64 - 1)

-- the bytes of the whole records
abbrev pub whole_part : List ℕ → List ℕ
whole_part bytes = concat (feed_of bytes).records

-- The sender stopped: by a read or by a write, as the counts of both say, or with nothing failed.
abbrev pub StopsSending : SendFault → (failures failures' calls calls' : ℕ)
    → (write_failures write_failures' empty empty' : ℕ) → Type 0
StopsSending Partial failures failures' calls calls' write_failures write_failures' empty empty' =
    (failures' ≡ failures) × (write_failures' ≡ write_failures) × (empty' ≡ empty)
StopsSending Read failures failures' calls calls' write_failures write_failures' empty empty' =
    StopsReading ReadingFailed failures failures' calls calls' × (write_failures' ≡ write_failures) × (empty' ≡ empty)
StopsSending Write failures failures' calls calls' write_failures write_failures' empty empty' =
    (failures' ≡ failures) × StopsWriting write_failures write_failures' empty empty'

-- ---- one read

-- of bytes that begin with a record: as many as are in whole records, and what is left over
abbrev pub front : List ℕ → List ℕ
front bytes = take (length bytes - length bytes % 512) bytes

abbrev pub back : List ℕ → List ℕ
back bytes = drop (length bytes - length bytes % 512) bytes

-- A piece was read behind what was held, the whole records of both were written, and the rest is held.
pub record Passes (left left' written written' : Option (List ℕ)) (held held' : List ℕ) (count : ℕ) : Type 0 where
  pub piece : List ℕ
  pub size : length piece ≡ count
  pub consumes : Consumes left left' piece
  pub appends : Appends written written' (front (held ++ piece))
  pub is_held : held' ≡ back (held ++ piece)

-- A piece was read behind what was held, and a beginning of the whole records of both was written.
pub record Breaks (left left' written written' : Option (List ℕ)) (held : List ℕ) : Type 0 where
  pub piece : List ℕ
  pub consumes : Consumes left left' piece
  pub begun : AppendsBeginning written written' (front (held ++ piece))
