use Rattle.std.proofs.Common.{◌≡◌, map, take}
use Rattle.job_serve.specs.Limits.{limit_by}
use Rattle.job_serve.proofs.status.limits_by.Given as goal

abbrev pub invariant-loop-silence : goal.invariant-loop-silence
invariant-loop-silence l = l.limits.items ≡ map (limit_by l.server) (take l.silence-index l.silences)
