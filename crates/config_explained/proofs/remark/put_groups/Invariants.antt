use Rattle.std.proofs.Common.{◌≡◌, ◌++◌}
use Rattle.toml.specs.View.{members_view}
use Rattle.config_explained.specs.Remarks.{groups_remarks}
use Rattle.config_explained.proofs.remark.put_groups.Given as goal

abbrev pub invariant-loop-name : goal.invariant-loop-name
invariant-loop-name l = l.fn.text.items ++ groups_remarks l.which (members_view l.groups.entries)
    ≡ l.text.items ++ groups_remarks l.which (members_view l.name-iterator)
