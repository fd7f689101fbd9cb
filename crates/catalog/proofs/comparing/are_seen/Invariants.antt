use Rattle.std.proofs.Common.{◌≡◌, ◌≤◌, length}
use Rattle.std.specs.Net.Addr.{ipv4_bits}
use Rattle.protocol.specs.Catalog.{sees}
use Rattle.catalog.proofs.SameLemmas.{SameFrom}
use Rattle.catalog.proofs.comparing.are_seen.Given as goal

abbrev pub invariant-loop-place : goal.invariant-loop-place
invariant-loop-place l = record {
  within : l.at ≤ length l.places;
  same : SameFrom (λ e. sees e.access l.global (ipv4_bits l.address)) l.stations l.places 0 0
      ≡ SameFrom (λ e. sees e.access l.global (ipv4_bits l.address)) l.stations l.places l.place l.at;
}
