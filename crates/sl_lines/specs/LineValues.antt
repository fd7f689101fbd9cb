-- What a line that is lent says, and what is left of the cutter that lent it.
-- SeedLink 3, the form of a command.
use Rattle.std.specs.Prelude.{◌≡◌, ℕ, List, [], ◌∷◌, Option, Some, None, ⊤}
use Rattle.std.specs.Borrow.{MutBor, Fml}
use mathlib.Core.Option.{none}
use denote.Follow.{follows_so}
use Rattle.protocol.specs.Lines.{Line as ProtocolLine, open_after}
use Rattle.protocol.specs.Lines.Line.{Text as ProtocolText, TooLong as ProtocolTooLong}
use Rattle.sl_lines.specs.declared.lines.Line.{Line}
use Rattle.sl_lines.specs.declared.lines.Line.TheVariants.{Text, TooLong}
use Rattle.sl_lines.specs.declared.lines.LineCutter.{LineCutter}
use Rattle.sl_lines.specs.contracts.lines.LineCutter.{the_row}

-- the line that a lent one is
abbrev pub line_value : Line → ProtocolLine
line_value (Text bytes) = ProtocolText bytes.now
line_value TooLong = ProtocolTooLong

-- the lines that a byte gives: one or none
abbrev pub lines_value : Option Line → List ProtocolLine
lines_value None = []
lines_value (Some line) = line_value line ∷ []

-- Once the lent line is let go, the cutter's open line is the one after the byte.
abbrev pub LeavesOpen : MutBor LineCutter → ℕ → Fml
LeavesOpen cutter byte = follows_so the_row the_row cutter.ghost_name none (λ _ _. ⊤)
    (λ left. left ≡ open_after cutter.now (byte ∷ []))
