use Rattle.std.proofs.Common.{◌≡◌, ◌++◌, length}
use Rattle.protocol.specs.Pieces.{split}
use Rattle.access_list.specs.Tokens.{is_separator}
use Rattle.config_explained.specs.Opened.{networks_of}
use Rattle.config_explained.proofs.OpenedLemmas.{networks_left}
use Rattle.config_explained.proofs.opened.networks_of.Given as goal

abbrev pub invariant-loop-entry : goal.invariant-loop-entry
invariant-loop-entry l =
    networks_of l.list ≡ l.networks.items ++ networks_left (split is_separator l.list) (length l.yielded)
