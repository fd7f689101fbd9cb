-- The lines of what a client sends, and what the open line of a client makes of them byte by byte. SeedLink 3, the form
-- of a command: a line ended by CR, by LF or by both. Left out: any limit of the standard on a line; it is 256 bytes
-- here.
use Rattle.std.specs.Prelude.{ℕ, Bool, ◌||◌, ◌==◌, nat_le, nat_lt, if◌then◌else◌, List, [], ◌∷◌, ◌++◌, length}
use Rattle.protocol.specs.Pieces.{split, without_empty, all_but_last, last_of}

-- CR or LF
abbrev pub is_line_end : ℕ → Bool
is_line_end b = b == 13 || b == 10

-- what ends each line of a reply: CR and LF
abbrev pub line_end : List ℕ
line_end = 13 ∷ 10 ∷ []

-- a line without its end, or a line of more than 256 bytes
pub data Line : Type 0 where
  Text : List ℕ → Line
  TooLong : Line

-- ---- the lines of all the bytes

-- Bytes are split at every line end. The pieces that one ends are the lines, but for empty ones.
abbrev pub lines_of : List ℕ → List (List ℕ)
lines_of bytes = without_empty (all_but_last (split is_line_end bytes))

-- the piece that nothing has ended yet
abbrev pub rest_of : List ℕ → List ℕ
rest_of bytes = last_of (split is_line_end bytes)

-- a line as it is handed on
abbrev pub capped : List ℕ → Line
capped bs = if nat_le (length bs) 256 then Text bs else TooLong

-- ---- the lines byte by byte

-- the open line after one more byte
abbrev pub joined : Line → ℕ → Line
joined (Text bs) b = if nat_lt (length bs) 256 then Text (bs ++ b ∷ []) else TooLong
joined TooLong b = TooLong

-- What an open line gives when it ends; an empty one gives nothing.
abbrev pub ended_line : Line → List Line
ended_line (Text []) = []
ended_line line = line ∷ []

-- the lines that end while an open line takes bytes, in order
abbrev pub cut_from : Line → List ℕ → List Line
cut_from line [] = []
cut_from line (b ∷ bytes) = if is_line_end b then ended_line line
    ++ cut_from (Text []) bytes else cut_from (joined line b) bytes

-- the open line after the bytes
abbrev pub open_after : Line → List ℕ → Line
open_after line [] = line
open_after line (b ∷ bytes) = if is_line_end b then open_after (Text []) bytes else open_after (joined line b) bytes
