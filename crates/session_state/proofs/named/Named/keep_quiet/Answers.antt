use Rattle.std.proofs.Common.{sym, subst}
use Rattle.session_state.specs.declared.choices.Ahead.TheVariants.{Nobody}
use Rattle.session_state.specs.Entries.{TellsAhead}
use Rattle.session_state.proofs.NamedLemmas.{naming-entries}
use Rattle.session_state.proofs.named.Named.keep_quiet.Goals as goal

pub invariant_of-self : goal.invariant_of-self
invariant_of-self c = (
  c.self.invariant.0,
  c.self.invariant.1,
  subst (TellsAhead Nobody)
      (sym
      (naming-entries c.self.inside.entries.items c.self.inside.current c.self.inside.pool c.args.self.now
      c.self.view_is)) c.requires,
  c.self.invariant.3,
  tt,
  c.self.invariant.5,
)
