use Rattle.std.proofs.Common.{[]}
use Rattle.session_state.proofs.NamedLemmas.{below-all, list-changed}
use Rattle.session_state.proofs.named.Named.clear_at.Goals as goal

pub clear-requires : goal.clear-requires
clear-requires c = below-all _ _ _ _ c.args.i _ c.self.invariant.0 c.self.view_is c.requires

pub returns : goal.returns
returns c =
    λ choice there. list-changed c.self.inside.entries.items c.self.inside.current c.self.inside.pool _ _ c.args.i [] _
    choice c.self.invariant.0 c.self.view_is c.requires there c.clear.ensures
