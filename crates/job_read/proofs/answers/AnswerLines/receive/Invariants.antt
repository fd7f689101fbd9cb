use Rattle.std.proofs.Common.{◌≡◌, drop}
use Rattle.job_read.specs.Answers.{after_bytes}
use Rattle.job_read.proofs.answers.AnswerLines.receive.Given as goal

-- What comes of the bytes that are left is what comes of all.
abbrev pub invariant-loop-byte : goal.invariant-loop-byte
invariant-loop-byte l = after_bytes l.self (drop l.byte-index l.bytes) ≡ after_bytes l.fn.self l.bytes
