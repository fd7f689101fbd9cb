use Rattle.std.proofs.Common.{◌≡◌, ◌++◌}
use Rattle.toml.specs.View.{members_view}
use Rattle.config_explained.specs.Unknown.{owner_lines, whose}
use Rattle.config_explained.proofs.unknown.put_unknown.Given as goal

abbrev pub invariant-loop-key : goal.invariant-loop-key
invariant-loop-key l = l.fn.text.items ++ owner_lines (whose l.owner) (members_view l.table.entries)
    ≡ l.text.items ++ owner_lines (whose l.owner) (members_view l.key-iterator)
