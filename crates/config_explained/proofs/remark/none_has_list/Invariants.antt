use Rattle.std.proofs.Common.{◌≡◌, true}
use Rattle.toml.specs.View.{table_view}
use Rattle.config_explained.specs.Remarks.{none_has_list}
use Rattle.config_explained.proofs.remark.none_has_list.Given as goal

-- None of those before has a list.
abbrev pub invariant-loop-place : goal.invariant-loop-place
invariant-loop-place l = none_has_list (table_view l.table) l.place ≡ true
