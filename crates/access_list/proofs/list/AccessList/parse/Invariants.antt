use Rattle.std.proofs.Common.{◌≡◌, length}
use Rattle.protocol.specs.Pieces.{split}
use Rattle.access_list.specs.Tokens.{is_separator, list_of}
use Rattle.access_list.proofs.ParseLemmas.{left}
use Rattle.access_list.proofs.list.AccessList.parse.Given as goal

abbrev pub invariant-loop-word : goal.invariant-loop-word
invariant-loop-word l = list_of l.text ≡ left l.tokens.items (split is_separator l.text) (length l.yielded)
