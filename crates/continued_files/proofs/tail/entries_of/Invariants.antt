use Rattle.std.proofs.Common.{◌<◌, ◌≤◌, List, ℕ}
use Rattle.std.specs.List.{Contains}
use Rattle.continued_files.specs.Files.{Tells, TellsSame}
use Rattle.continued_files.specs.Indexes.{entry_of}
use Rattle.continued_files.proofs.tail.entries_of.Given as goal

-- Nothing changed, and there is an entry of each place that was read.
abbrev pub invariant-loop-place : goal.invariant-loop-place
invariant-loop-place g l = record {
  same : TellsSame (g.F.RecordFiles.records l.fn.files) (g.F.RecordFiles.records l.files);
  safe : TellsSame (g.F.RecordFiles.safe l.fn.files) (g.F.RecordFiles.safe l.files);
  entries : (rs : List (List ℕ)) → Tells (g.F.RecordFiles.records l.fn.files) l.name rs
      → (place : ℕ) → l.from ≤ place → place < l.place → Contains l.entries.items (entry_of rs place);
}
