use Rattle.std.proofs.Common.{rules, ◌∙◌, ap, sym, Some}
use Rattle.std.proofs.lemmas.List.{get_or_default}
use Rattle.server_core.specs.declared.clients.Opened.{Opened}
use Rattle.server_core.specs.Clients.{IsNumberAt, no_one, slot_in}
use Rattle.server_core.proofs.NumberLemmas.{slot-at}
use Rattle.server_core.proofs.clients.Clients.slot_of.Goals as goal

pub returns : goal.returns
returns c =
    let os = c.args.self.now.opened.items in
    let found : IsNumberAt os c.number-number.result c.in_ok-at.at = search rules in
    ap (λ (o : Opened). Some o.slot)
    (c.index.ensures ∙ get_or_default os c.in_ok-at.at c.index.result.now no_one found.inside)
    ∙ sym (slot-at os c.number-number.result c.in_ok-at.at c.requires.rising found)
    ∙ ap (slot_in os) c.number-number.ensures
