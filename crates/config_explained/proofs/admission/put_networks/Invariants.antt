use Rattle.std.proofs.Common.{◌≡◌, ◌++◌, drop, map}
use Rattle.config_explained.specs.Holders.{words_of}
use Rattle.config_explained.specs.NetworkTexts.{network_text}
use Rattle.config_explained.proofs.admission.put_networks.Given as goal

abbrev pub invariant-loop-network : goal.invariant-loop-network
invariant-loop-network l =
    l.fn.words.items ++ words_of (map network_text l.networks)
    ≡ l.words.items ++ words_of (map network_text (drop l.network-index l.networks))
