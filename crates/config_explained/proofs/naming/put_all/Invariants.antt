use Rattle.std.proofs.Common.{◌≡◌, ◌++◌}
use Rattle.toml.specs.View.{members_view}
use Rattle.protocol.specs.Catalog.{stations_of}
use Rattle.config_explained.specs.ConfigTexts.{keys_of}
use Rattle.config_explained.specs.Naming.{unused_in}
use Rattle.config_explained.proofs.naming.put_all.Given as goal

abbrev pub invariant-loop-name : goal.invariant-loop-name
invariant-loop-name l =
    l.fn.text.items ++ unused_in (keys_of l.read.text) (stations_of l.read.config) (members_view l.groups.entries)
    ≡ l.text.items ++ unused_in (keys_of l.read.text) (stations_of l.read.config) (members_view l.name-iterator)
