use Rattle.std.proofs.Common.{◌≡◌, [], All, drop, length, map, take, Ok}
use Rattle.toml.specs.View.{view}
use Rattle.catalog.specs.Groups.{groups_value}
use Rattle.catalog.specs.Indexing.{Finds, HasShortCodes}
use Rattle.catalog.specs.Places.{HasDistinctCodes}
use Rattle.catalog.specs.Reading.{stations_read}
use Rattle.catalog.proofs.listing.stations_read.Given as goal

abbrev pub invariant-loop-value : goal.invariant-loop-value
invariant-loop-value l = record {
  read : stations_read (groups_value l.groups) l.stations.items (map view (drop l.value-index l.values))
      ≡ stations_read (groups_value l.groups) [] (map view l.values);
  before : stations_read (groups_value l.groups) [] (take l.value-index (map view l.values)) ≡ Ok l.stations.items;
  size : length l.stations.items ≡ l.value-index;
  distinct : HasDistinctCodes l.stations.items;
  finds : Finds l.index.places l.stations.items;
  short : All HasShortCodes l.stations.items;
}
