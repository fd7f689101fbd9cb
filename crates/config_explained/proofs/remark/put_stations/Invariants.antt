use Rattle.std.proofs.Common.{◌≡◌, ◌++◌, map}
use Rattle.toml.specs.View.{table_view}
use Rattle.config_explained.specs.Remarks.{remarks_from}
use Rattle.config_explained.proofs.RemarkLemmas.{remarks_left}
use Rattle.config_explained.proofs.remark.put_stations.Given as goal

abbrev pub invariant-loop-place : goal.invariant-loop-place
invariant-loop-place l =
    l.fn.text.items ++ remarks_from l.which (table_view l.table) 0 (map (λ e. e.station) l.stations)
    ≡ l.text.items ++ remarks_left l.which (table_view l.table) l.stations l.place
