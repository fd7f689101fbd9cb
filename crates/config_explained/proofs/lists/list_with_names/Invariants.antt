use Rattle.std.proofs.Common.{◌≡◌, ◌++◌, Some, length}
use Rattle.toml.specs.View.{table_view}
use Rattle.catalog.specs.Groups.{named_in}
use Rattle.protocol.specs.Pieces.{split}
use Rattle.access_list.specs.Tokens.{is_separator}
use Rattle.config_explained.specs.Lists.{entry_shown, list_shown}
use Rattle.config_explained.proofs.PieceLemmas.{pieces_left}
use Rattle.config_explained.proofs.lists.list_with_names.Given as goal

abbrev pub invariant-loop-entry : goal.invariant-loop-entry
invariant-loop-entry l =
    list_shown (Some (table_view l.groups)) l.list
    ≡ l.text.items ++ pieces_left (λ entry. entry_shown entry (named_in (table_view l.groups) entry)) (split is_separator l.list) (length l.yielded)
