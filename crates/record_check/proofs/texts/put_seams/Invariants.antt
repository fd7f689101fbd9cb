use Rattle.std.proofs.Common.{◌≡◌, ◌++◌, drop}
use Rattle.record_check.specs.Listing.{seam_lines}
use Rattle.record_check.specs.Streams.{seams_from}
use Rattle.record_check.proofs.texts.put_seams.Given as goal

abbrev pub invariant-loop-run : goal.invariant-loop-run
invariant-loop-run l =
    l.fn.text.items ++ seam_lines l.times l.stream (seams_from l.fn.reached l.runs)
    ≡ l.text.items ++ seam_lines l.times l.stream (seams_from l.walk (drop l.run-index l.runs))
