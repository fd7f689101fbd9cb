use Rattle.serving.proofs.PaceLemmas.{comes-on-time}
use Rattle.serving.proofs.laws.comes_on_time.Goals as goal

pub returns : goal.returns
returns c = comes-on-time
