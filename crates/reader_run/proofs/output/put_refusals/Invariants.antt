use Rattle.std.proofs.Common.{◌≡◌, ◌++◌, map, take}
use Rattle.reader_run.specs.Lines.{refusal_line}
use Rattle.reader_run.proofs.output.put_refusals.Given as goal

abbrev pub invariant-loop-want : goal.invariant-loop-want
invariant-loop-want l = l.refusals.items ≡ l.fn.refusals.items ++ map refusal_line (take l.want-index l.wants)
