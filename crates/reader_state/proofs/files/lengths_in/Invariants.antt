-- The lines that are to come are those of the other files.
use Rattle.std.proofs.Common.{◌≡◌, ◌++◌, List, length}
use Rattle.continued_files.specs.Lengths.{LengthValue}
use Rattle.reader_state.specs.States.{AreLengths, files_text}
use Rattle.reader_state.proofs.files.lengths_in.Given as goal

abbrev pub invariant-lines : goal.invariant-lines
invariant-lines l = (fs : List LengthValue) → AreLengths fs → l.bytes ≡ files_text fs
    → (rest : List LengthValue) × (fs ≡ l.files.items ++ rest) × AreLengths rest × (l.left ≡ files_text rest)

abbrev pub decreases-lines : goal.decreases-lines
decreases-lines l = length l.left
