use Rattle.std.proofs.Common.{sym, ap, ◌∙◌}
use Rattle.serving.specs.Timetables.{is_keep_due}
use Rattle.serving.proofs.StopLemmas.{kept-now, not-kept}
use Rattle.serving.proofs.running.keep.Goals as goal

pub returns-then-not-keeps : goal.returns-then-not-keeps
returns-then-not-keeps g c = λ config w stands.
    not-kept config w c.args.kept (g.B.Between.asked c.args.between.now) (g.B.Between.asked c.args.between.now) _
    (ap (is_keep_due c.args.timetable.now c.args.kept)
    (sym (c.raises.ensures.history config w.history (c.rings.ensures.holds config w stands)))
    ∙ sym c.keeps.ensures ∙ c.if-not-keeps.true)

pub returns : goal.returns
returns g c = λ config w stands.
    kept-now config w c.args.kept (g.B.Between.asked c.args.between.now) (g.B.Between.asked c.keep_now.new.between) _
    (ap (is_keep_due c.args.timetable.now c.args.kept)
    (sym (c.raises.ensures.history config w.history (c.rings.ensures.holds config w stands)))
    ∙ sym c.keeps.ensures ∙ c.if-not-keeps.false)
    c.keep_now.result (c.keep_now.ensures config w stands)
