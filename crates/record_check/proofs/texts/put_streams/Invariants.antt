use Rattle.std.proofs.Common.{◌≡◌, ◌++◌, take}
use Rattle.record_check.specs.Listing.{stream_lines}
use Rattle.record_check.proofs.texts.put_streams.Given as goal

abbrev pub invariant-loop-stream : goal.invariant-loop-stream
invariant-loop-stream l = l.text.items ≡ l.fn.text.items ++ stream_lines l.times (take l.stream-index l.streams)
