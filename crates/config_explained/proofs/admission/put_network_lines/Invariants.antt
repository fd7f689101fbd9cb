use Rattle.std.proofs.Common.{◌≡◌, ◌++◌, drop, flat_map}
use Rattle.config_explained.specs.Changes.{network_line}
use Rattle.config_explained.proofs.admission.put_network_lines.Given as goal

abbrev pub invariant-loop-network : goal.invariant-loop-network
invariant-loop-network l =
    l.fn.text.items ++ flat_map (network_line l.name l.verb) l.networks
    ≡ l.text.items ++ flat_map (network_line l.name l.verb) (drop l.network-index l.networks)
