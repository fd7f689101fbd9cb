use Rattle.std.proofs.Common.{◌≡◌, ◌≤◌, length}
use Rattle.catalog.specs.Changes.{is_changed_at, places_below}
use Rattle.catalog.proofs.changes.changed_places.Given as goal

abbrev pub invariant-loop-place : goal.invariant-loop-place
invariant-loop-place l = record {
  places : l.places.items ≡ places_below (is_changed_at l.stations l.others) l.place;
  room : length l.places.items ≤ 256;
}
