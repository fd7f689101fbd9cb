-- What is asked of servers over one connection after the other, by the calls that are made.
use Rattle.std.specs.Prelude.{ℕ, List, Option, Result}
use Rattle.reader_run.specs.declared.fault.ListingFault.{ListingFault}
use Rattle.reader_run.specs.Stops.{Writes, writes}

-- Both sides of a connection: the bytes that are left to be read, how many reads failed and how many were made; the
-- bytes that were sent, and what is counted of sending them.
pub record ConnectionValue : Type 0 where
  pub left : Option (List ℕ)
  pub failures : ℕ
  pub reads : ℕ
  pub sent : Option (List ℕ)
  pub writes : Writes

abbrev pub connection : (left : Option (List ℕ)) → (failures reads : ℕ) → (sent : Option (List ℕ))
    → (write_failures empty : ℕ) → ConnectionValue
connection left failures reads sent write_failures empty = record {
  left = left;
  failures = failures;
  reads = reads;
  sent = sent;
  writes = writes write_failures empty;
}

-- a call with its answer
pub data Call (F : Type 0) : Type 0 where
  -- A connection was made.
  Connects : ConnectionValue → Call F
  -- No connection was made.
  Fails : F → Call F
  -- A connection ended for that reason, and another server may be asked or not.
  PassesOver : ListingFault → ConnectionValue → Result (Unit {0}) F → Call F
  -- A connection is over, and no other server is asked.
  Closes : ConnectionValue → Call F
