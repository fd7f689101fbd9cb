use Rattle.std.proofs.Common.{◌≡◌, All, map, filter, take, ◌<◌, length}
use Rattle.std.specs.Net.Addr.{ipv4_bits}
use Rattle.protocol.specs.Catalog.{sees}
use Rattle.catalog.specs.Places.{station_at, AreRising}
use Rattle.catalog.proofs.config.Config.view.Given as goal

abbrev pub invariant-loop-place : goal.invariant-loop-place
invariant-loop-place l = record {
  visible : map (station_at l.self-inside.stations.items) l.places.items
      ≡ map (λ e. e.station)
      (filter (λ e. sees e.access l.self-inside.access (ipv4_bits l.address))
      (take l.place l.self-inside.stations.items));
  places : All (λ p. p < length l.self-inside.stations.items) l.places.items;
  before : All (λ p. p < l.place) l.places.items;
  rising : AreRising l.places.items;
}
