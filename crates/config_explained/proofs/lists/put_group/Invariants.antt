use Rattle.std.proofs.Common.{◌≡◌, ◌++◌, flat_map, length}
use Rattle.protocol.specs.Pieces.{split}
use Rattle.access_list.specs.Tokens.{is_separator}
use Rattle.config_explained.specs.Lists.{entry_of_group}
use Rattle.config_explained.proofs.PieceLemmas.{pieces_left}
use Rattle.config_explained.proofs.lists.put_group.Given as goal

abbrev pub invariant-loop-entry : goal.invariant-loop-entry
invariant-loop-entry l =
    l.fn.text.items ++ flat_map (entry_of_group l.name) (split is_separator l.group)
    ≡ l.text.items ++ pieces_left (entry_of_group l.name) (split is_separator l.group) (length l.yielded)
