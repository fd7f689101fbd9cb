use Rattle.std.proofs.Common.{◌≡◌}
use Rattle.toml.specs.View.{members_view}
use Rattle.catalog.specs.Groups.{group_in}
use Rattle.catalog.proofs.groups.group_in.Given as goal

abbrev pub invariant-loop-key : goal.invariant-loop-key
invariant-loop-key l = group_in (members_view l.groups.entries) l.name ≡ group_in (members_view l.key-iterator) l.name
