use Rattle.std.proofs.Common.{◌≡◌, ◌++◌, map}
use Rattle.toml.specs.View.{table_view}
use Rattle.config_explained.specs.Parts.{parts_from}
use Rattle.config_explained.proofs.PartLemmas.{parts_left}
use Rattle.config_explained.proofs.parts.put_parts.Given as goal

abbrev pub invariant-loop-place : goal.invariant-loop-place
invariant-loop-place l =
    l.fn.text.items ++ parts_from (table_view l.table) l.network 0 (map (λ e. e.station) l.stations)
    ≡ l.text.items ++ parts_left (table_view l.table) l.network l.stations l.place
