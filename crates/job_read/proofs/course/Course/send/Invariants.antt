use Rattle.std.proofs.Common.{◌≡◌, drop}
use Rattle.job_read.specs.Waiting.{after_sent}
use Rattle.job_read.proofs.course.Course.send.Given as goal

-- What comes of the bytes that are left is what comes of all.
abbrev pub invariant-loop-byte : goal.invariant-loop-byte
invariant-loop-byte l = after_sent l.self (drop l.byte-index l.bytes) ≡ after_sent l.fn.self l.bytes
