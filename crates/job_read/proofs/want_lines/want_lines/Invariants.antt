use Rattle.std.proofs.Common.{◌≡◌, ◌++◌, length, map}
use Rattle.std.specs.Prelude.{◌==◌}
use Rattle.protocol.specs.Pieces.{split}
use Rattle.job_read.specs.WantLines.{line_value, lines_from, want_lines}
use Rattle.job_read.proofs.want_lines.want_lines.Given as goal

-- The lines so far, with those that are left, are all.
abbrev pub invariant-lines : goal.invariant-lines
invariant-lines l =
    map line_value l.lines.items ++ lines_from l.number (split (λ b. b == 10) l.left) ≡ want_lines l.text

abbrev pub decreases-lines : goal.decreases-lines
decreases-lines l = length l.left
