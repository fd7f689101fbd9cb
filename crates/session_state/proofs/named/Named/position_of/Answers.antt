use Rattle.std.proofs.Common.{ap, ◌∙◌}
use Rattle.std.specs.List.{position}
use Rattle.catalog.specs.Places.{station_at}
use Rattle.session_state.specs.Choices.{is_entry_of_station}
use Rattle.session_state.proofs.NamedLemmas.{naming-entries, position-entries}
use Rattle.session_state.proofs.named.Named.position_of.Goals as goal

pub returns : goal.returns
returns c =
    let s = station_at c.args.config.now.entries c.args.place in
    let entries = naming-entries c.self.inside.entries.items c.self.inside.current c.self.inside.pool c.args.self.now
    c.self.view_is in
    c.position_among.ensures
    ∙ ap (position (is_entry_of_station c.args.config.now s)) (c.as_slice.ensures.value ∙ entries)
    ∙ position-entries c.args.config.now s c.args.self.now.choices
