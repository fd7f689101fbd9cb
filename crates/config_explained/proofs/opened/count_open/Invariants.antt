use Rattle.std.proofs.Common.{◌≡◌, ◌+◌, ◌≤◌, map}
use Rattle.toml.specs.View.{table_view}
use Rattle.config_explained.specs.Opened.{opened_from}
use Rattle.config_explained.proofs.OpenedLemmas.{opened_left}
use Rattle.config_explained.proofs.opened.count_open.Given as goal

abbrev pub invariant-loop-place : goal.invariant-loop-place
invariant-loop-place l = record {
  so_far : opened_from (table_view l.table) 0 (map (λ e. e.station) l.stations)
      ≡ l.count + opened_left (table_view l.table) l.stations l.place;
  few : l.count ≤ l.place;
}
