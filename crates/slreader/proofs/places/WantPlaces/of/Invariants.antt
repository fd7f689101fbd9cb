use Rattle.std.proofs.Common.{◌≡◌, ◌≤◌, length}
use Rattle.slreader.specs.Placing.{names, Finds, Follows}
use Rattle.slreader.proofs.places.WantPlaces.of.Given as goal

abbrev pub invariant-loop-place : goal.invariant-loop-place
invariant-loop-place l = record {
  finds : Finds l.firsts l.place (names l.resumes);
  follows : Follows l.nexts.items l.place (names l.resumes);
  size : length l.nexts.items ≡ length l.resumes;
  within : l.place ≤ length l.resumes;
}

abbrev pub decreases-loop-place : goal.decreases-loop-place
decreases-loop-place l = l.place
