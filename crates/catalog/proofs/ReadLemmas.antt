-- One value more of those that describe the stations.
use Rattle.std.proofs.Common.{◌≡◌, ◌<◌, ◌+◌, ℕ, List, [], ◌∷◌, ◌++◌, map, drop, length}
use Rattle.std.proofs.Common.{get_or, sym, ap, ◌∙◌, Result, Option}
use Rattle.std.proofs.Common.{Ok}
use Rattle.std.proofs.lemmas.List.{at_drop_more}
use Rattle.protocol.specs.Catalog.{Entry}
use Rattle.toml.specs.Data.{Members}
use Rattle.toml.specs.View.{view}
use Rattle.toml.specs.declared.value.Value.{Value}
use Rattle.catalog.specs.Reading.{station_of, stations_read}
use Rattle.catalog.specs.Steps.{◌>>=◌}
use Rattle.catalog.specs.declared.fault.ConfigFault.{ConfigFault}

pub read_on : (groups : Option Members) (earlier more : List Entry) (values : List Value) (i : ℕ) (value : Value) (e : Entry)
    → i < length values → value ≡ get_or values i value → more ≡ earlier ++ e ∷ []
    → station_of groups earlier (view value) ≡ Ok e
    → stations_read groups more (map view (drop (i + 1) values))
    ≡ stations_read groups earlier (map view (drop i values))
read_on groups earlier more values i value e inside item pushed read =
    let later = map view (drop (i + 1) values) in
    sym (at_drop_more (λ vs. stations_read groups earlier (map view vs)) values i value inside
    ∙ ap (λ v. stations_read groups earlier (view v ∷ later)) (sym item)
    ∙ ap (λ (r : Result Entry ConfigFault). r >>= (λ e. stations_read groups (earlier ++ e ∷ []) later)) read
    ∙ ap (λ es. stations_read groups es later) (sym pushed))
