use Rattle.server_core.proofs.WordLemmas.{AddedTo}
use Rattle.server_core.proofs.marks.BitRow.add_common.Given as goal

-- So many words are added.
abbrev pub invariant-loop-i : goal.invariant-loop-i
invariant-loop-i l = AddedTo l.i l.fn.self.words.items l.one.words.items l.other.words.items l.self.words.items
