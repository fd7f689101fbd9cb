-- The text of a reader's state: a line for each station, NET STA NUMBER END, in the manner of slinktool. NUMBER is that
-- of the last packet, in six hexadecimal digits, and END the end of its record in units of 0.0001 s since 1970, or `-`.
-- If the reader writes files, a line `#` follows and then one for each file, NAME COUNT: the first COUNT records of the
-- file are counted by the numbers above.
use Rattle.std.specs.Prelude.{ℕ, ℤ, List, [], ◌∷◌, ◌++◌, is_none, not, Bool, ◌&&◌, if◌then◌else◌}
use Rattle.std.specs.List.{list_any}
use Rattle.std.specs.Str.{bytes_eq}
use Rattle.std.specs.Prelude.{Option, Some, None}
use Rattle.std.specs.Prelude.{◌≡◌, ◌≢◌, ◌<◌, ◌^◌, true}
use Rattle.std.specs.Fmt.{decimal, signed_decimal}
use Rattle.std.specs.Prelude.{FitsSigned}
use Rattle.std.specs.Int.{w64}
use Rattle.std.specs.Int.Signed.{mag}
use Rattle.protocol.specs.Packet.{digits}
use Rattle.continued_files.specs.Lengths.{LengthValue}
use Rattle.slreader.specs.Wants.{WantValue}
use Rattle.slreader.specs.Tallies.{TallyValue}
use Rattle.slreader.specs.Lasts.{LastValue, is_named, last_at, lasts_of}

-- an end, as it is written
abbrev pub end_text : Option ℤ → List ℕ
end_text None = 45 ∷ []
end_text (Some tick) = signed_decimal tick

-- the line of a station, without its end
abbrev pub words_of : LastValue → List ℕ
words_of l =
    l.network ++ 32 ∷ (l.station ++ 32 ∷ (digits l.reached.number ++ 32 ∷ end_text l.reached.end))

-- the line of a station
abbrev pub line_of : LastValue → List ℕ
line_of l = words_of l ++ 10 ∷ []

-- all lines
abbrev pub text_of : List LastValue → List ℕ
text_of [] = []
text_of (l ∷ ls) = line_of l ++ text_of ls

-- the line of a file, without its end
abbrev pub file_words : LengthValue → List ℕ
file_words f = f.name ++ 32 ∷ decimal f.count

-- the line of a file
abbrev pub file_line : LengthValue → List ℕ
file_line f = file_words f ++ 10 ∷ []

-- the lines of files
abbrev pub files_text : List LengthValue → List ℕ
files_text [] = []
files_text (f ∷ fs) = file_line f ++ files_text fs

-- what follows the lines of stations
abbrev pub files_part : List LengthValue → List ℕ
files_part [] = []
files_part (f ∷ fs) = 35 ∷ (10 ∷ files_text (f ∷ fs))

-- what a state says
pub record StateValue : Type 0 where
  pub lasts : List LastValue
  pub files : List LengthValue

-- its text
abbrev pub state_text : StateValue → List ℕ
state_text s = text_of s.lasts ++ files_part s.files

-- It can be read back: it is of 64 bits.
abbrev pub IsEnd : Option ℤ → Type 0
IsEnd None = Unit {0}
IsEnd (Some tick) = FitsSigned w64 tick × (mag tick < 2 ^ 63)

-- A last packet that can be read back: its codes are those of a station, and its number and its end are in range.
pub record IsLast (l : LastValue) : Type 0 where
  pub named : is_named l ≡ true
  pub number : l.reached.number < 0x1000000
  pub ends : IsEnd l.reached.end

-- all of them can
abbrev pub AreLast : List LastValue → Type 0
AreLast [] = Unit {0}
AreLast (l ∷ ls) = IsLast l × AreLast ls

-- the byte stands nowhere in the text
abbrev pub Lacks : ℕ → List ℕ → Type 0
Lacks b [] = Unit {0}
Lacks b (x ∷ xs) = (x ≢ b) × Lacks b xs

-- A length that can be read back: the name has no space and no end of a line, and the count is of 64 bits.
pub record IsLength (f : LengthValue) : Type 0 where
  pub space : Lacks 32 f.name
  pub end : Lacks 10 f.name
  pub count : f.count < 2 ^ 64

-- all of them can
abbrev pub AreLengths : List LengthValue → Type 0
AreLengths [] = Unit {0}
AreLengths (f ∷ fs) = IsLength f × AreLengths fs

-- no station of these is the one of that last packet
abbrev pub is_of_another : List LastValue → LastValue → Bool
is_of_another lasts l = is_none (last_at l.network l.station lasts)

-- those that are of other stations
abbrev pub others_of : List LastValue → List LastValue → List LastValue
others_of lasts [] = []
others_of lasts (b ∷ bs) = if is_of_another lasts b then b ∷ others_of lasts bs else others_of lasts bs

-- one of each station of these: the last of those that are of it
abbrev pub one_each : List LastValue → List LastValue
one_each [] = []
one_each (l ∷ ls) = if is_of_another ls l then l ∷ one_each ls else one_each ls

-- what is kept by a reader: the last packet of each station of its wants, and those of other stations that were kept
-- before
abbrev pub lasts_after : TallyValue → List WantValue → List LastValue → List LastValue
lasts_after t wants before = one_each (lasts_of t wants) ++ others_of (lasts_of t wants) before

-- No two of them are of one station.
abbrev pub are_apart : List LastValue → Bool
are_apart [] = true
are_apart (l ∷ ls) = is_of_another ls l && are_apart ls

-- no length of these is of that file
abbrev pub is_of_other : List LengthValue → LengthValue → Bool
is_of_other fs f = not (list_any (λ g. bytes_eq g.name f.name) fs)

-- No two of them are of one file.
abbrev pub are_of_others : List LengthValue → Bool
are_of_others [] = true
are_of_others (f ∷ fs) = is_of_other fs f && are_of_others fs

-- a state that can be read back
pub record IsState (s : StateValue) : Type 0 where
  pub lasts : AreLast s.lasts
  pub apart : are_apart s.lasts ≡ true
  pub files : AreLengths s.files
  pub named : are_of_others s.files ≡ true
