use Rattle.std.proofs.Common.{◌∙◌, ap, sym, Some}
use Rattle.std.specs.Net.Addr.{ipv4_bits}
use Rattle.server_core.proofs.CurrentLemmas.{spared-same}
use Rattle.server_core.proofs.reviewing.review_unless_spared.Goals as goal

pub returns-else-not-is_spared-clause-here : goal.returns-else-not-is_spared-clause-here
returns-else-not-is_spared-clause-here c = λ s there.
    let sees = c.is_spared.ensures c.if-not-is_spared.false c.requires.same c.requires.changes in
    there ∙ ap Some (sym (spared-same c.args.old.now c.args.config.now (ipv4_bits c.args.one.now.address) s
    c.requires.same sees (c.requires.current s there)))
