use Rattle.std.proofs.Common.{◌≡◌, ◌∙◌, Some, ap, option_map, position, sym}
use Rattle.protocol.specs.Catalog.{Config, has_codes}
use Rattle.config_explained.specs.ConfigTexts.{keys_of}
use Rattle.config_explained.specs.Lists.{owner_at}
use Rattle.config_explained.proofs.lists.list_owner.Goals as goal

pub returns-in-Some : goal.returns-in-Some
returns-in-Some c =
    let keys = keys_of c.args.read.now.text in
    let place = c.in-Some.place in
    let found : Some place ≡ position (λ e. has_codes c.args.network.now c.args.code.now e.station)
    c.args.read.now.config.entries =
    sym c.in-Some.is ∙ c.place_of.ensures.value
    ∙ ap (λ (config : Config). position (λ e. has_codes c.args.network.now c.args.code.now e.station) config.entries)
    c.config.ensures in
    ap Some (c.owner_at.ensures ∙ ap (λ k. owner_at k place) c.table.ensures) ∙ ap (option_map (owner_at keys)) found
