use Rattle.std.proofs.Common.{◌≡◌, ◌++◌, map}
use Rattle.toml.specs.View.{table_view}
use Rattle.config_explained.specs.Changes.{news_from}
use Rattle.config_explained.proofs.ChangeLemmas.{news_left}
use Rattle.config_explained.proofs.changes.put_news.Given as goal

abbrev pub invariant-loop-place : goal.invariant-loop-place
invariant-loop-place l =
    l.fn.text.items ++ news_from (table_view l.tables.new.now) l.old 0 (map (λ e. e.station) l.stations)
    ≡ l.text.items ++ news_left (table_view l.tables.new.now) l.old l.stations l.place
