-- What a call that answered says of the bytes that it read.
use Rattle.std.proofs.Common.{◌≡◌, ℕ, List, length, sym, ◌∙◌, arith}
use Rattle.slreader.specs.declared.came.What.{What}
use Rattle.slreader.specs.declared.came.What.TheVariants as what
use Rattle.slreader.specs.Dialogue.{ReaderValue, outcome_of, read_first}
use Rattle.slreader.specs.Dialogue.Outcome.{Gave}
use Rattle.slreader.specs.Whats.{what_value, Reads}
use Rattle.slreader.proofs.ReadingLaws.{first_within, first_some, first_all, gave_is}

reads_what : (r : ReaderValue) (piece : List ℕ) (u : ℕ) (w : What)
    → (u ≡ (read_first r piece).used) × (what_value w ≡ (read_first r piece).given) → Reads u w (length piece)
reads_what r piece u what.Nothing is = is.0 ∙ first_all r piece (sym is.1)
reads_what r piece u what.Hello is = let some = first_some r piece _ (sym is.1) in let all =
    first_within r piece in let same = is.0 in (omega arith, omega arith)
reads_what r piece u (what.Refused want) is = let some = first_some r piece _ (sym is.1) in let all =
    first_within r piece in let same = is.0 in (omega arith, omega arith)
reads_what r piece u (what.Packet packet) is = let some = first_some r piece _ (sym is.1) in let all =
    first_within r piece in let same = is.0 in (omega arith, omega arith)
reads_what r piece u what.End is = let some = first_some r piece _ (sym is.1) in let all =
    first_within r piece in let same = is.0 in (omega arith, omega arith)

pub reads_gave : (r : ReaderValue) (piece : List ℕ) (u : ℕ) (w : What)
    → Gave u (what_value w) ≡ outcome_of (read_first r piece) → Reads u w (length piece)
reads_gave r piece u w is = reads_what r piece u w (gave_is u (what_value w) (read_first r piece) is)
