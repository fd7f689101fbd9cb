-- The lines that a server sends before a transfer, and what is told of one that a reader does not take.
-- SeedLink 3: two lines answer HELLO, and OK or ERROR each command but END, with CR LF at the end of each. SeedLink 4
-- names all versions that it speaks in the first of these lines, as `SLPROTO:4.0 SLPROTO:3.1`.
use Rattle.std.specs.Prelude.{ℕ, ◌+◌, Bool, false, ◌&&◌, ◌||◌, not, ◌==◌, nat_lt, if◌then◌else◌, List, [], ◌∷◌, ◌++◌}
use Rattle.std.specs.Prelude.{length, codes, Option, Some, None}
use Rattle.std.specs.List.{ends_with, starts_with}
use Rattle.protocol.specs.Lines.{line_end}
use Rattle.protocol.specs.declared.reason.Reason.{Reason}
use Rattle.protocol.specs.declared.reason.Reason.TheVariants.{BadReply, NotAPacket}
use Rattle.slreader.specs.Pieces.{greeting}
use Rattle.job_read.specs.declared.answers.Remark.{Remark}
use Rattle.job_read.specs.declared.answers.Remark.TheVariants.{Unasked, OtherEnd}

-- ---- lines

-- The bytes begin with OK or ERROR, and that end.
abbrev pub begins_reply : List ℕ → (end : List ℕ) → Bool
begins_reply bytes end =
    starts_with ◌==◌ bytes (codes "OK" ++ end) || starts_with ◌==◌ bytes (codes "ERROR" ++ end)

-- A line is whole with its end, and one that a reader takes behind so many lines that answer HELLO.
abbrev pub is_answer : (count : ℕ) → List ℕ → Bool
is_answer count line =
    if count == 0 then starts_with ◌==◌ line greeting && ends_with ◌==◌ line line_end
    else if count == 1 then ends_with ◌==◌ line line_end
    else begins_reply line line_end

-- A text stands somewhere in bytes.
abbrev pub has_text : (text bytes : List ℕ) → Bool
has_text text [] = false
has_text text (b ∷ bytes) = starts_with ◌==◌ (b ∷ bytes) text || has_text text bytes

-- The first line names SeedLink 4, and 3 is not among the versions that it names.
abbrev pub is_four_alone : List ℕ → Bool
is_four_alone line = starts_with ◌==◌ line (codes "SeedLink v4") && not (has_text (codes "SLPROTO:3") line)

-- ---- byte by byte

-- how many lines that answer HELLO came, what came of the last line, whether that is whole and one that a reader takes,
-- and whether the server speaks SeedLink 4 alone
pub record AnswersValue : Type 0 where
  pub count : ℕ
  pub line : List ℕ
  pub is_whole : Bool
  pub is_four : Bool

-- nothing came
abbrev pub no_answers : AnswersValue
no_answers = record { count = 0; line = []; is_whole = false; is_four = false }

-- a byte more of a line, of which 258 are kept
abbrev pub held : List ℕ → ℕ → List ℕ
held line byte = if length line == 258 then line else line ++ byte ∷ []

-- behind a whole line another one begins
abbrev pub begun_line : AnswersValue → List ℕ
begun_line a = if a.is_whole then [] else a.line

-- with that line, which is whole or not
abbrev pub with_line : AnswersValue → List ℕ → Bool → AnswersValue
with_line a line is_whole =
    record {
      count = if is_whole && nat_lt a.count 2 then a.count + 1 else a.count;
      line = line;
      is_whole = is_whole;
      is_four = a.is_four || (is_whole && a.count == 0 && is_four_alone line);
    }

-- after a byte more
abbrev pub after_byte : AnswersValue → ℕ → AnswersValue
after_byte a byte =
    with_line a (held (begun_line a) byte) (byte == 10 && is_answer a.count (held (begun_line a) byte))

abbrev pub after_bytes : AnswersValue → List ℕ → AnswersValue
after_bytes a [] = a
after_bytes a (b ∷ bytes) = after_bytes (after_byte a b) bytes

-- ---- what is told

-- What is told of bytes at which a reading fails for that reason: an answer where packets are due, or an answer that
-- LF (10) alone ends.
abbrev pub remark_of : Reason → List ℕ → Option Remark
remark_of NotAPacket bytes = if begins_reply bytes line_end then Some Unasked else None
remark_of BadReply bytes = if begins_reply bytes (10 ∷ []) then Some OtherEnd else None
remark_of reason bytes = None
