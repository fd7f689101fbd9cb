use Rattle.std.proofs.Common.{◌≡◌, drop, length}
use Rattle.job_status.specs.Answers.{length_in}
use Rattle.job_status.proofs.answer.says_length.Given as goal

abbrev pub invariant-loop-field : goal.invariant-loop-field
invariant-loop-field l =
    length_in l.size l.bytes l.fields ≡ length_in l.size l.bytes (drop l.field-index l.fields)
