use Rattle.std.proofs.Common.{◌≡◌, length}
use Rattle.std.specs.Str.{bytes_eq}
use Rattle.protocol.specs.Pieces.{split}
use Rattle.access_list.specs.Tokens.{is_separator}
use Rattle.config_explained.specs.Naming.{has_entry}
use Rattle.config_explained.proofs.PieceLemmas.{has_left}
use Rattle.config_explained.proofs.naming.has_entry.Given as goal

abbrev pub invariant-loop-piece : goal.invariant-loop-piece
invariant-loop-piece l =
    has_entry l.entry l.list ≡ has_left (bytes_eq l.entry) (split is_separator l.list) (length l.yielded)
