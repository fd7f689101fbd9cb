-- A check under way: what is listed so far, and why it stopped.
use Rattle.std.specs.Prelude.{◌≡◌, ℕ, ◌+◌, if◌then◌else◌, List, [], ◌∷◌, ◌++◌, Option, None, Result, is_some}
use Rattle.sl_io.specs.Counts.{StopsReading, StopsWriting}
use Rattle.sl_io.specs.declared.faults.ReadFault.TheVariants.{Read as ReadingFailed}
use Rattle.protocol.specs.Streams.{FeedRead, feed_from}
use Rattle.feeder.specs.Feedings.{feed_read}
use Rattle.protocol.specs.Record.{Facts}
use Rattle.sl_io.specs.declared.faults.StreamFault.{StreamFault}
use Rattle.sl_io.specs.declared.faults.StreamFault.TheVariants.{OutOfMemory, Read, Write}
use Rattle.record_check.specs.declared.fault.FileFault.{FileFault}
use Rattle.record_check.specs.declared.listing.Refused.{Refused}
use Rattle.record_check.specs.declared.options.ListingOptions.{ListingOptions}
use Rattle.record_check.specs.Streams.{StreamValue}
use Rattle.record_check.specs.Listing.{Listed, Rules, first_of, number_after, record_line, refusal, said_of}
use Rattle.record_check.specs.Listing.{streams_after}

-- why a check stopped, by the counts of the reader's failures and calls and of the writer's failures and empty writes,
-- before and after it: no memory, and nothing had failed; a read, by which the reading stopped; or a write, by which
-- the writing did
abbrev pub StopsChecking : StreamFault → (failures failures' calls calls' : ℕ)
    → (write_failures write_failures' empty empty' : ℕ) → Type 0
StopsChecking OutOfMemory failures failures' calls calls' write_failures write_failures' empty empty' =
    (failures' ≡ failures) × (write_failures' ≡ write_failures) × (empty' ≡ empty)
StopsChecking Read failures failures' calls calls' write_failures write_failures' empty empty' =
    StopsReading ReadingFailed failures failures' calls calls' × (write_failures' ≡ write_failures) × (empty' ≡ empty)
StopsChecking Write failures failures' calls calls' write_failures write_failures' empty empty' =
    (failures' ≡ failures) × StopsWriting write_failures write_failures' empty empty'

-- how many records are listed, how many of this file's were read before one was refused, why the first refused one of
-- them is refused, the lines that are not written yet, and the streams so far
pub record Progress : Type 0 where
  pub count : ℕ
  pub good : ℕ
  pub fault : Option FileFault
  pub lines : List ℕ
  pub streams : List StreamValue

-- no record of a file is listed
abbrev pub begun_file : Listed → Progress
begun_file l = record { count = l.count; good = 0; fault = None; lines = []; streams = l.streams }

-- what is known of it between two files
abbrev pub listed_of : Progress → Listed
listed_of p = record { count = p.count; streams = p.streams }

-- how many were read before one was refused, with one more where none was refused until then
abbrev pub good_with : ℕ → Option FileFault → ℕ
good_with good fault = if is_some fault then good else good + 1

-- one record more, by what it is to the check
abbrev pub with_said : ListingOptions → Progress → Result Facts Refused → Progress
with_said options p said =
    record {
      count = number_after p.count;
      good = good_with p.good (first_of p.fault (refusal said));
      fault = first_of p.fault (refusal said);
      lines = p.lines ++ record_line options (number_after p.count) said;
      streams = streams_after options p.streams said;
    }

-- one record more
abbrev pub with_record : Rules → Progress → List ℕ → Progress
with_record r p bytes = with_said r.options p (said_of r bytes)

-- all the records more
abbrev pub with_records : Rules → Progress → List (List ℕ) → Progress
with_records r p [] = p
with_records r p (bytes ∷ records) = with_records r (with_record r p bytes) records

-- what a piece of a feed gives behind bytes that are held
abbrev pub piece_read : (held piece : List ℕ) → FeedRead
piece_read held piece = feed_from (feed_read [] held) piece
