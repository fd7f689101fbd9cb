use Rattle.std.proofs.Common.{◌≡◌, ◌++◌, length}
use Rattle.protocol.specs.Pieces.{split}
use Rattle.access_list.specs.Tokens.{is_separator}
use Rattle.config_explained.specs.Holders.{entries_of, words_of}
use Rattle.config_explained.proofs.EntryLemmas.{words_left}
use Rattle.config_explained.proofs.entries.put_entries.Given as goal

abbrev pub invariant-loop-entry : goal.invariant-loop-entry
invariant-loop-entry l = l.fn.text.items ++ words_of (entries_of l.list)
    ≡ l.text.items ++ words_left (split is_separator l.list) (length l.yielded)
