use Rattle.sl_time.proofs.PartLemmas.{over_is}
use Rattle.sl_time.proofs.parts.Parts.is_over.Goals as goal

pub returns : goal.returns
returns c = rw (← c.self.view_is) (over_is c.self.inside.over c.self.inside.text.now)
