use Rattle.std.proofs.Common.{◌<◌, ◌≤◌, ◌≢◌, List, ℕ}
use Rattle.std.specs.Prelude.{slice_index_or}
use Rattle.continued_files.specs.declared.tail.Entry.{Entry}
use Rattle.continued_files.specs.Files.{Tells, TellsSame}
use Rattle.continued_files.specs.Tails.{IsLeft}
use Rattle.continued_files.specs.Places.{record_at}
use Rattle.continued_files.proofs.tail.Tail.find.Given as goal

-- Nothing changed, and none of the places that were looked at is left and has the record.
abbrev pub invariant-loop-at : goal.invariant-loop-at
invariant-loop-at g l = record {
  same : TellsSame (g.F.RecordFiles.records l.fn.files) (g.F.RecordFiles.records l.files);
  safe : TellsSame (g.F.RecordFiles.safe l.fn.files) (g.F.RecordFiles.safe l.files);
  others : (rs : List (List ℕ)) → Tells (g.F.RecordFiles.records l.fn.files) l.name rs
      → (k : ℕ) (d : Entry) → l.first ≤ k → k < l.at
      → IsLeft l.self.tail (slice_index_or l.self.order k d).place
      → record_at rs (slice_index_or l.self.order k d).place ≢ l.bytes;
}
