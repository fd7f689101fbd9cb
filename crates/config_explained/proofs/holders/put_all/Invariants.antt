use Rattle.std.proofs.Common.{◌≡◌, ◌++◌, map}
use Rattle.toml.specs.View.{table_view}
use Rattle.config_explained.specs.Holders.{holders_from}
use Rattle.config_explained.proofs.HolderLemmas.{lines_left}
use Rattle.config_explained.proofs.holders.put_all.Given as goal

abbrev pub invariant-loop-place : goal.invariant-loop-place
invariant-loop-place l =
    l.fn.text.items ++ holders_from (table_view l.table) 0 (map (λ e. e.station) l.stations)
    ≡ l.text.items ++ lines_left (table_view l.table) l.stations l.place
