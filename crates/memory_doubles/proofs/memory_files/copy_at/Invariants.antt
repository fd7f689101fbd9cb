use Rattle.std.proofs.Common.{◌≡◌, ◌+◌, drop, length, map}
use Rattle.memory_doubles.specs.MemoryRecords.{named, records_of}
use Rattle.continued_files.specs.Places.{record_at}
use Rattle.memory_doubles.proofs.memory_files.copy_at.Given as goal

-- The record is that at the place that is left, of those that are left.
abbrev pub invariant-loop-one : goal.invariant-loop-one
invariant-loop-one l = record {
  here : record_at (records_of (map named (drop l.one-index l.all)) l.name) l.left
      ≡ record_at (records_of (map named l.all) l.name) l.place;
  whole : l.place + length (records_of (map named (drop l.one-index l.all)) l.name)
      ≡ l.left + length (records_of (map named l.all) l.name);
}
