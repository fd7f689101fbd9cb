use Rattle.std.proofs.Common.{sym}
use Rattle.toml.specs.View.{table_view}
use Rattle.config_explained.proofs.AloneLemmas.{one_has_list}
use Rattle.config_explained.proofs.remark.none_has_list.Goals as goal

pub returns-then-has_list : goal.returns-then-has_list
returns-then-has_list c =
    one_has_list (table_view c.args.table.now) c.args.count c.loop-place.place c.loop-place-test.true
    (sym c.if-has_list.ensures)
