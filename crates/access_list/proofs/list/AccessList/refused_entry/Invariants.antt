use Rattle.std.proofs.Common.{◌≡◌, length}
use Rattle.protocol.specs.Pieces.{split}
use Rattle.access_list.specs.Tokens.{is_separator, first_refused}
use Rattle.access_list.proofs.ParseLemmas.{refused_left}
use Rattle.access_list.proofs.list.AccessList.refused_entry.Given as goal

abbrev pub invariant-loop-entry : goal.invariant-loop-entry
invariant-loop-entry l = first_refused l.text ≡ refused_left (split is_separator l.text) (length l.yielded)
