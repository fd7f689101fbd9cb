use Rattle.std.proofs.Common.{ap, sym, ◌∙◌}
use Rattle.session_state.proofs.NamedLemmas.{added-naming, below, below-all, change_of, list-widened, list-widening}
use Rattle.session_state.proofs.named.Named.add_at.Goals.{in-Ok, in-Err}
use Rattle.session_state.proofs.named.Named.add_at.Goals as goal

pub add-requires : goal.add-requires
add-requires c = below-all _ _ _ _ c.args.i _ c.self.invariant.0 c.self.view_is c.requires

pub invariant_of-self : goal.invariant_of-self
invariant_of-self c = (
  added-naming c.add.result c.self.inside.entries.items c.self.inside.current c.self.inside.pool _ _ c.args.i
      c.args.pattern c.add.ensures.added c.add.ensures.unchanged c.self.invariant.0
      (below _ _ _ c.args.i _ c.self.view_is c.requires),
  c.self.invariant.1,
  c.self.invariant.2,
  c.self.invariant.3,
  c.self.invariant.4,
  c.self.invariant.5,
)

pub returns-clause-new : goal.returns-clause-new
returns-clause-new c =
    λ choice there. list-widened c.add.result c.self.inside.entries.items c.self.inside.current c.self.inside.pool _ _
    c.args.i c.args.pattern _ choice c.add.ensures.room c.add.ensures.added c.add.ensures.unchanged c.self.invariant.0
    c.self.view_is c.requires there

pub returns-clause-change : goal.returns-clause-change
returns-clause-change c = λ choice there.
    let led = list-widening c.add.result c.self.inside.entries.items c.self.inside.current c.self.inside.pool _ c.args.i
    _ choice c.add.ensures.room c.self.invariant.0 c.self.view_is there in
    elim c.match-add.branch [
      | in-Ok w ↦ w.result-is ∙ ap change_of (sym w.in-Ok.is) ∙ led
      | in-Err w ↦ w.result-is ∙ ap change_of (sym w.in-Err.is) ∙ led
    ]
