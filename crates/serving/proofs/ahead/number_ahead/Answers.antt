use Rattle.std.proofs.Common.{rules}
use Rattle.serving.proofs.AheadLemmas.{ahead-next}
use Rattle.serving.proofs.ahead.number_ahead.Goals as goal

pub returns : goal.returns
returns c = λ first is.
    ahead-next c.args.next first c.args.count c.gap.result c.unwrap.result is c.gap.ensures.ahead (search rules)
