use Rattle.serving.proofs.StopLemmas.{were-kept, were-not-kept}
use Rattle.serving.proofs.running.keep_now.Goals as goal

pub returns-in-Ok : goal.returns-in-Ok
returns-in-Ok g c = λ config w stands.
    let asked = g.B.Between.asked in
    let holds = c.rings-rings.ensures.holds config w stands in
    were-kept config w c.args.kept _ (asked c.args.between.now) (asked c.keep.new.self) _
    (c.of.ensures config w.history holds) (c.raises.ensures.history config w.history holds) c.in-Ok.ensures.call

pub returns-in-Err : goal.returns-in-Err
returns-in-Err g c = λ config w stands.
    let asked = g.B.Between.asked in
    were-not-kept config w c.args.kept (asked c.args.between.now) (asked c.keep.new.self) (asked c.refused.new.self) _
    c.in-Err.fault (c.of.ensures config w.history (c.rings-rings.ensures.holds config w stands)) c.in-Err.ensures.call
    c.refused.ensures.call
