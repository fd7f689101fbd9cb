-- What a record that arrives is answered.
-- SeedLink 3, sequence numbers. Left out: where the record is kept.
use Rattle.std.specs.Prelude.{◌≡◌, ℕ, List, ◌-◌, ◌^◌, true, is_some, length, position, Option, Some, None, Result, Ok}
use Rattle.std.specs.Prelude.{Err}
use Rattle.protocol.specs.declared.record.RecordFault.{RecordFault}
use Rattle.protocol.specs.declared.reason.Reason.{Reason}
use Rattle.protocol.specs.declared.reason.Reason.TheVariants as reason
use Rattle.protocol.specs.Record.{Facts, header_of, record_reason}
use Rattle.protocol.specs.Catalog.{Config, has_codes}
use Rattle.protocol.specs.History.{Arrival, number_at}
use Rattle.protocol.specs.World.{accepted}
use Rattle.catalog.specs.Places.{station_at}
use Rattle.station_ring.specs.declared.held.Summary.{Summary}
use Rattle.station_ring.specs.HeldRecords.{summary_of}
use Rattle.server_core.specs.declared.arrivals.ArriveFault.{ArriveFault}
use Rattle.server_core.specs.declared.arrivals.ArriveFault.TheVariants.{Record, UnknownStation, Exhausted}

-- what the program tells of a fault
abbrev pub arrive_reason : ArriveFault → Reason
arrive_reason (Record f) = record_reason f
arrive_reason UnknownStation = reason.UnknownStation
arrive_reason Exhausted = reason.Exhausted

-- the place of the first station with a record's codes
abbrev pub place_of : Config → Facts → Option ℕ
place_of config x = position (λ e. has_codes x.network x.station e.station) config.entries

-- a place, or no station
abbrev pub place_or_unknown : Option ℕ → Result ℕ ArriveFault
place_or_unknown None = Err UnknownStation
place_or_unknown (Some place) = Ok place

-- the place of a record's station, or why the record is refused
abbrev pub placed_by : Config → Result Facts RecordFault → Result ℕ ArriveFault
placed_by config (Err f) = Err (Record f)
placed_by config (Ok x) = place_or_unknown (place_of config x)

-- the next number of the station at that place, or why the record is refused
abbrev pub numbered : Config → List Arrival → Result ℕ ArriveFault → Result ℕ ArriveFault
numbered config h (Err f) = Err f
numbered config h (Ok place) = Ok (number_at (station_at config.entries place) h (length h))

-- what a record is answered after the history: the number that it is given, or why it is refused
abbrev pub answer_to : Config → List Arrival → List ℕ → Result ℕ ArriveFault
answer_to config h r = numbered config h (placed_by config (header_of r))

-- The record is of a station of the configuration, and as many arrived as can be counted.
pub record IsExhausted (config : Config) (h : List Arrival) (r : List ℕ) : Type 0 where
  pub would_be_taken : is_some (accepted config r) ≡ true
  pub full : length h ≡ 2 ^ 64 - 1

-- A record's place, with what is kept of its facts.
pub record IsPlaced (config : Config) (r : List ℕ) (place : ℕ) (summary : Summary) : Type 0 where
  pub facts : Facts
  pub is_read : header_of r ≡ Ok facts
  pub at : place_of config facts ≡ Some place
  pub kept : summary_of facts ≡ summary
