use Rattle.std.proofs.Common.{◌≡◌, ◌++◌, map}
use Rattle.toml.specs.View.{table_view}
use Rattle.config_explained.specs.Silences.{silences_from}
use Rattle.config_explained.proofs.SilenceLemmas.{silences_left}
use Rattle.config_explained.proofs.silence.silences_in.Given as goal

abbrev pub invariant-loop-place : goal.invariant-loop-place
invariant-loop-place l = silences_from (table_view l.table) 0 (map (λ e. e.station) l.stations)
    ≡ l.all.items ++ silences_left (table_view l.table) l.stations l.place
