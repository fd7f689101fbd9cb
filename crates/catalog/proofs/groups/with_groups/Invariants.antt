use Rattle.std.proofs.Common.{◌≡◌, ◌++◌, Some, length}
use Rattle.toml.specs.View.{table_view}
use Rattle.protocol.specs.Pieces.{split}
use Rattle.access_list.specs.Tokens.{is_separator}
use Rattle.catalog.specs.Groups.{list_meant}
use Rattle.catalog.proofs.GroupLemmas.{meant_left}
use Rattle.catalog.proofs.groups.with_groups.Given as goal

abbrev pub invariant-loop-entry : goal.invariant-loop-entry
invariant-loop-entry l = list_meant (Some (table_view l.groups)) l.list
    ≡ l.text.items ++ meant_left (table_view l.groups) (split is_separator l.list) (length l.yielded)
