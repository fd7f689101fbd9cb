use Rattle.std.proofs.Common.{◌∙◌, ap, sym}
use Rattle.protocol.specs.Pattern.{passes}
use Rattle.session_state.proofs.NamedLemmas.{below-all, patterns-at}
use Rattle.session_state.proofs.named.Named.passes.Goals as goal

pub passes-requires : goal.passes-requires
passes-requires c = below-all _ _ _ _ c.args.i _ c.self.invariant.0 c.self.view_is c.requires

pub returns : goal.returns
returns c = λ choice x there location channel kind.
    c.passes.ensures.facts x location channel kind
    ∙ ap (λ ps. passes ps x) (sym (patterns-at _ _ _ c.args.i _ choice c.self.view_is there))
