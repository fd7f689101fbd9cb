use Rattle.std.proofs.Common.{◌≡◌, ◌∙◌, ap}
use Rattle.protocol.specs.Catalog.{Config}
use Rattle.catalog.specs.Indexing.{first_place}
use Rattle.catalog.proofs.IndexLemmas.{few_places, place_found}
use Rattle.catalog.proofs.config.Config.place_of.Goals as goal

pub returns : goal.returns
returns c =
    let network = c.args.network.now in
    let code = c.args.code.now in
    let inside = c.self.inside in
    let holds = c.self.invariant in
    let found : c.place_of.result ≡ first_place inside.stations.items network code =
    place_found inside.index.places inside.stations.items network code c.place_of.result holds.4 holds.5
    c.place_of.ensures.short c.place_of.ensures.spelled c.place_of.ensures.long in
    record {
      value = found ∙ ap (λ (config : Config). first_place config.entries network code) c.self.view_is;
      few = few_places inside.stations.items network code c.place_of.result found holds.6;
    }
