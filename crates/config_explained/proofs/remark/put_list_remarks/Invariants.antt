use Rattle.std.proofs.Common.{◌≡◌, ◌++◌, length}
use Rattle.protocol.specs.Pieces.{split}
use Rattle.access_list.specs.Tokens.{is_separator}
use Rattle.config_explained.specs.Remarks.{list_remarks, remark_if}
use Rattle.config_explained.specs.Unknown.{whose}
use Rattle.config_explained.proofs.PieceLemmas.{pieces_left}
use Rattle.config_explained.proofs.remark.put_list_remarks.Given as goal

abbrev pub invariant-loop-entry : goal.invariant-loop-entry
invariant-loop-entry l = l.fn.text.items ++ list_remarks l.which (whose l.owner) l.list
    ≡ l.text.items ++ pieces_left (remark_if l.which (whose l.owner)) (split is_separator l.list) (length l.yielded)
