use Rattle.std.proofs.Common.{◌≡◌}
use Rattle.catalog.specs.Finding.{has_code}
use Rattle.catalog.proofs.FindLemmas.{from_place}
use Rattle.catalog.proofs.view.find_code.Given as goal

abbrev pub invariant-loop-place : goal.invariant-loop-place
invariant-loop-place l =
    from_place (has_code l.code) l.stations l.places l.place-index
    ≡ from_place (has_code l.code) l.stations l.places 0
