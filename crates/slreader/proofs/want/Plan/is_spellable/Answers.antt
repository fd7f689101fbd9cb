use Rattle.std.proofs.Common.{◌∙◌, ap, sym}
use Rattle.slreader.specs.Wants.{is_plan}
use Rattle.slreader.specs.Views.{plan_value}
use Rattle.slreader.proofs.PlanLemmas.{one_want}
use Rattle.slreader.proofs.want.Plan.is_spellable.Goals as goal

pub returns-in-Uni : goal.returns-in-Uni
returns-in-Uni c = c.is_spellable.ensures ∙ one_want c.in-Uni.want ∙ ap (λ p. is_plan (plan_value p)) (sym c.in-Uni.is)
