use Rattle.std.proofs.Common.{◌≡◌, ◌++◌, map}
use Rattle.toml.specs.View.{table_view}
use Rattle.config_explained.specs.Changes.{olds_from}
use Rattle.config_explained.proofs.ChangeLemmas.{olds_left}
use Rattle.config_explained.proofs.changes.put_olds.Given as goal

abbrev pub invariant-loop-place : goal.invariant-loop-place
invariant-loop-place l =
    l.fn.text.items
    ++ olds_from (table_view l.tables.old.now) (table_view l.tables.new.now) l.new 0 (map (λ e. e.station) l.stations)
    ≡ l.text.items
    ++ olds_left (table_view l.tables.old.now) (table_view l.tables.new.now) l.new l.stations l.place
