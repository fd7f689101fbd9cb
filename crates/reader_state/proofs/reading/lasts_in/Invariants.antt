-- The lines that are to come are those of the other last packets.
use Rattle.std.proofs.Common.{◌≡◌, ◌++◌, List, length}
use Rattle.slreader.specs.Lasts.{LastValue}
use Rattle.reader_state.specs.States.{AreLast, text_of}
use Rattle.reader_state.proofs.reading.lasts_in.Given as goal

abbrev pub invariant-lines : goal.invariant-lines
invariant-lines l = (ls : List LastValue) → AreLast ls → l.bytes ≡ text_of ls
    → (rest : List LastValue) × (ls ≡ l.lasts.items ++ rest) × AreLast rest × (l.left ≡ text_of rest)

abbrev pub decreases-lines : goal.decreases-lines
decreases-lines l = length l.left
