use Rattle.std.proofs.Common.{◌≡◌, ◌<◌, ℕ, drop, false}
use Rattle.job_feed.specs.Aligning.{begins}
use Rattle.job_feed.proofs.aligned.first_beginning.Given as goal

-- No record begins at the places that were looked at.
abbrev pub invariant-loop-place : goal.invariant-loop-place
invariant-loop-place l = (place : ℕ) → place < l.place → begins (drop place l.bytes) ≡ false
