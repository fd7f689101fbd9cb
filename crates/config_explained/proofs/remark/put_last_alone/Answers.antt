use Rattle.std.proofs.Common.{◌≡◌, ◌∙◌, ◌++◌, List, Some, None, OnOk, ap, sym, subst, append-nil, ℕ}
use Rattle.toml.specs.View.{table_view}
use Rattle.catalog.specs.declared.station.Station.{Station}
use Rattle.config_explained.proofs.AloneLemmas.{last_line_is}
use Rattle.config_explained.proofs.remark.put_last_alone.Goals as goal

pub returns-in-Some : goal.returns-in-Some
returns-in-Some c =
    subst (λ (l : List ℕ). OnOk c.put_alone.result (c.put_alone.new.text.items ≡ c.args.text.now.items ++ l))
    (last_line_is (table_view c.args.table.now) (λ (e : Station). e.station) c.args.stations.now
    (Some c.in-Some.last.now) c.in-Some.ensures.value)
    c.put_alone.ensures

pub returns-in-None : goal.returns-in-None
returns-in-None c =
    sym (ap (λ l. c.args.text.now.items ++ l)
    (sym (last_line_is (table_view c.args.table.now) (λ (e : Station). e.station) c.args.stations.now None
    c.in-None.ensures.value))
    ∙ append-nil c.args.text.now.items)
