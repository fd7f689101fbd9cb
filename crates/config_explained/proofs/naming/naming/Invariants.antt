use Rattle.std.proofs.Common.{◌≡◌, ◌+◌, ◌≤◌, map}
use Rattle.toml.specs.View.{table_view}
use Rattle.config_explained.specs.Naming.{naming_from}
use Rattle.config_explained.proofs.NamingLemmas.{naming_left}
use Rattle.config_explained.proofs.naming.naming.Given as goal

abbrev pub invariant-loop-place : goal.invariant-loop-place
invariant-loop-place l = record {
  so_far : naming_from (table_view l.table) l.entry 0 (map (λ e. e.station) l.stations)
      ≡ l.count + naming_left (table_view l.table) l.entry l.stations l.place;
  few : l.count ≤ l.place;
}
