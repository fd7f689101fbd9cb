use Rattle.serving.proofs.RestartLemmas.{restarts-tell-nothing}
use Rattle.serving.proofs.laws.restarts_tell_nothing.Goals as goal

pub returns : goal.returns
returns c = restarts-tell-nothing
