use Rattle.std.proofs.Common.{◌≡◌, ◌+◌, ◌≤◌, drop, length, map}
use Rattle.memory_doubles.specs.MemoryRecords.{named, records_of}
use Rattle.memory_doubles.proofs.memory_files.count_in.Given as goal

-- What was counted, with what is left, is the whole.
abbrev pub invariant-loop-one : goal.invariant-loop-one
invariant-loop-one l = record {
  low : l.count ≤ l.one-index;
  whole : l.count + length (records_of (map named (drop l.one-index l.all)) l.name)
      ≡ length (records_of (map named l.all) l.name);
}
