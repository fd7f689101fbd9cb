use Rattle.std.proofs.Common.{◌≡◌}
use Rattle.std.specs.Net.Addr.{ipv4_bits}
use Rattle.protocol.specs.Catalog.{sees}
use Rattle.config_explained.proofs.SeenLemmas.{seen_before}
use Rattle.config_explained.proofs.seen.seen_by.Given as goal

abbrev pub invariant-loop-place : goal.invariant-loop-place
invariant-loop-place l = l.text.items
    ≡ seen_before (λ e. sees e.access l.config.access (ipv4_bits l.address)) l.config.entries l.place
