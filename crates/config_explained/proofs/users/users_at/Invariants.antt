use Rattle.std.proofs.Common.{◌≡◌, ◌++◌, map}
use Rattle.toml.specs.View.{table_view}
use Rattle.config_explained.specs.Users.{users_from}
use Rattle.config_explained.proofs.UserLemmas.{users_left}
use Rattle.config_explained.proofs.users.users_at.Given as goal

abbrev pub invariant-loop-place : goal.invariant-loop-place
invariant-loop-place l =
    users_from (table_view l.table) 0 (map (λ e. e.station) l.stations)
    ≡ map (λ t. t.items) l.texts.items ++ users_left (table_view l.table) l.stations l.place
