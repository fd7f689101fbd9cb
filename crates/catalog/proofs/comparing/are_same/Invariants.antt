use Rattle.std.proofs.Common.{◌≡◌, drop}
use Rattle.protocol.specs.Catalog.{are_same_stations}
use Rattle.catalog.proofs.SameLemmas.{stations_in}
use Rattle.catalog.proofs.comparing.are_same.Given as goal

abbrev pub invariant-loop-place : goal.invariant-loop-place
invariant-loop-place l =
    are_same_stations (stations_in l.stations) (stations_in l.others)
    ≡ are_same_stations (stations_in (drop l.place l.stations)) (stations_in (drop l.place l.others))
