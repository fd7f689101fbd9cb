use Rattle.std.proofs.Common.{◌≡◌, ◌++◌, drop}
use Rattle.record_check.specs.Listing.{all_gap_lines}
use Rattle.record_check.proofs.texts.put_all_gaps.Given as goal

abbrev pub invariant-loop-stream : goal.invariant-loop-stream
invariant-loop-stream l =
    l.fn.text.items ++ all_gap_lines l.times l.streams
    ≡ l.text.items ++ all_gap_lines l.times (drop l.stream-index l.streams)
