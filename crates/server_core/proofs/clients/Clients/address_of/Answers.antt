use Rattle.std.proofs.Common.{rules, ◌≡◌, ◌∙◌, ap, option_map, sym, None, Some}
use Rattle.std.specs.Net.Addr.{ipv4_bits}
use Rattle.std.proofs.lemmas.List.{get_or_default}
use Rattle.server_core.specs.declared.clients.Opened.{Opened}
use Rattle.server_core.specs.Clients.{IsNumberAt, address_in, no_one, slot_in}
use Rattle.server_core.proofs.NumberLemmas.{address-at, no-address}
use Rattle.server_core.proofs.clients.Clients.address_of.Goals as goal

pub returns : goal.returns
returns c =
    let os = c.args.self.now.opened.items in
    let found : IsNumberAt os c.number.result c.in_ok-at.at = search rules in
    ap (λ (o : Opened). Some (ipv4_bits o.address))
    (c.index.ensures ∙ get_or_default os c.in_ok-at.at c.index.result.now no_one found.inside)
    ∙ sym (address-at os c.number.result c.in_ok-at.at c.requires.rising found)
    ∙ ap (address_in os) c.number.ensures

pub returns-in_err-at : goal.returns-in_err-at
returns-in_err-at c =
    let os = c.args.self.now.opened.items in
    let none : slot_in os c.number.result ≡ None = search rules in
    ap (option_map ipv4_bits) c.from_residual.ensures
    ∙ sym (no-address os c.args.client.now (ap (slot_in os) (sym c.number.ensures) ∙ none))
