use Rattle.std.proofs.Common.{◌≡◌, ◌++◌}
use Rattle.toml.specs.View.{members_view}
use Rattle.protocol.specs.Catalog.{stations_of}
use Rattle.config_explained.specs.Changes.{groups_in}
use Rattle.config_explained.specs.ConfigTexts.{keys_of}
use Rattle.config_explained.proofs.group_changes.put_groups.Given as goal

abbrev pub invariant-loop-name : goal.invariant-loop-name
invariant-loop-name l =
    l.fn.text.items ++ groups_in (keys_of l.new.text) (stations_of l.new.config) (members_view l.groups.entries)
    ≡ l.text.items ++ groups_in (keys_of l.new.text) (stations_of l.new.config) (members_view l.name-iterator)
