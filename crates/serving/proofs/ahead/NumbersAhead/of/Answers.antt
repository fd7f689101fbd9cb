use Rattle.std.proofs.Common.{◌∙◌, ap}
use Rattle.serving.specs.Ahead.{ahead_in}
use Rattle.serving.proofs.AheadLemmas.{ahead-held}
use Rattle.serving.proofs.ahead.NumbersAhead.of.Goals as goal

pub returns : goal.returns
returns c = λ config h is. ap ahead_in is ∙ ahead-held config h
