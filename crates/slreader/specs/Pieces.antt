-- One more byte of a line that answers HELLO, or of an answer to a command.
-- SeedLink 3: the two lines that answer HELLO, OK and ERROR. Left out: the answer to any other command.
use Rattle.std.specs.Prelude.{ℕ, ◌+◌, Bool, true, false, ◌&&◌, ◌||◌, not, nat_lt, ◌==◌, if◌then◌else◌, List, ◌++◌}
use Rattle.std.specs.Prelude.{length, slice_index, codes}
use Rattle.protocol.specs.Lines.{line_end}
use Rattle.slreader.specs.declared.pieces.LinePiece.{LinePiece}
use Rattle.slreader.specs.declared.pieces.LinePiece.TheVariants as line
use Rattle.slreader.specs.declared.pieces.ReplyPiece.{ReplyPiece}
use Rattle.slreader.specs.declared.pieces.ReplyPiece.TheVariants as reply

-- ---- the lines that answer HELLO

-- what the first line begins with
abbrev pub greeting : List ℕ
greeting = codes "SeedLink v"

-- One more byte behind `count` bytes of a line, the last of which is CR or is not. The line begins with the bytes of
-- `mark`, has at most 256 bytes, and is ended by CR LF.
abbrev pub line_piece : (mark : List ℕ) (count : ℕ) (after_cr : Bool) (b : ℕ) → LinePiece
line_piece mark count after_cr b =
    if nat_lt count (length mark) && not (slice_index mark count == b) then line.Other
    else if after_cr && b == 10 then line.Whole
    else if nat_lt count 256 || (count == 256 && b == 13) then line.Open
    else line.Other

-- ---- the answer to a command

abbrev pub reply_text : (is_error : Bool) → List ℕ
reply_text true = codes "ERROR" ++ line_end
reply_text false = codes "OK" ++ line_end

-- Whether the answer is an ERROR: the first byte decides, `E` (69) or another.
abbrev pub begins_error : (count : ℕ) (is_error : Bool) (b : ℕ) → Bool
begins_error count is_error b = if count == 0 then b == 69 else is_error

-- one more byte behind `count` bytes of an answer
abbrev pub reply_byte : List ℕ → (count : ℕ) (is_error : Bool) (b : ℕ) → ReplyPiece
reply_byte text count is_error b =
    if nat_lt count (length text) && slice_index text count == b
    then (if count + 1 == length text then reply.Whole is_error else reply.Open is_error)
    else reply.Other

abbrev pub reply_piece : (count : ℕ) (is_error : Bool) (b : ℕ) → ReplyPiece
reply_piece count is_error b =
    reply_byte (reply_text (begins_error count is_error b)) count (begins_error count is_error b) b
