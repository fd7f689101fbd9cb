-- The moments of the command line, and the window that they make.
use Rattle.std.specs.Prelude.{◌≡◌, ◌⊎◌, ◌==◌, ◌++◌, Bool, true, false, ℕ, ℤ, List, Option, Some, None, Err, int_lt}
use Rattle.std.specs.Prelude.{is_some, codes, if◌then◌else◌, ◌+◌, [], ◌∷◌}
use Rattle.std.specs.Prelude.{option_and_then}
use Rattle.std.specs.Borrow.{Bor}
use Rattle.protocol.specs.Time.{time_of}
use Rattle.sl_time.specs.Parsed.{parsed, time_reason}
use Rattle.sl_time.specs.declared.command.TimeFault.{TimeFault}
use Rattle.sl_time.specs.Spelled.{command_text}
use Rattle.slreader.specs.Words.{WindowValue}
use Rattle.slreader.specs.Words.WindowValue.{Following, Held, Between}
use Rattle.incidents.specs.declared.failure.Failure.{Failure}
use Rattle.protocol.specs.declared.reason.Reason.TheVariants.{OutOfMemory}

-- The text is the one that stands for the word, and spells a time.
abbrev pub IsMoment : List ℕ → List ℕ → Type 0
IsMoment word text = (text ≡ command_text word) × (is_some (time_of text) ≡ true)

-- how many commas a text has
abbrev pub comma_count : List ℕ → ℕ
comma_count [] = 0
comma_count (b ∷ bs) = if b == 44 then comma_count bs + 1 else comma_count bs

-- the text of an end: that of a day is its last second
abbrev pub last_text : List ℕ → List ℕ
last_text text = if comma_count text == 2 then text ++ codes ",23,59,59" else text

-- The text is the one that stands for the word as an end, and spells a time.
abbrev pub IsLast : List ℕ → List ℕ → Type 0
IsLast word text = (text ≡ last_text (command_text word)) × (is_some (time_of text) ≡ true)

abbrev pub IsLastOf : Option (Bor (List ℕ)) → Option (List ℕ) → Type 0
IsLastOf None text = text ≡ None
IsLastOf (Some word) None = ⊥
IsLastOf (Some word) (Some text) = IsLast word.now text

-- The word spells no time as an end, for that reason; or there was no memory for it.
abbrev pub IsNoLast : List ℕ → Failure → Type 0
IsNoLast word failure =
    (failure.reason ≡ OutOfMemory)
    ⊎ ((fault : TimeFault) × (failure.reason ≡ time_reason fault)
    × (parsed (last_text (command_text word)) ≡ Err fault))

abbrev pub RefusesLast : Option (Bor (List ℕ)) → Failure → Type 0
RefusesLast None failure = ⊥
RefusesLast (Some word) failure = IsNoLast word.now failure

-- The word spells no time, for that reason; or there was no memory for it.
abbrev pub IsNoMoment : List ℕ → Failure → Type 0
IsNoMoment word failure =
    (failure.reason ≡ OutOfMemory)
    ⊎ ((fault : TimeFault) × (failure.reason ≡ time_reason fault) × (parsed (command_text word) ≡ Err fault))

-- The text is that of the word, or there is neither.
abbrev pub IsMomentOf : Option (Bor (List ℕ)) → Option (List ℕ) → Type 0
IsMomentOf None text = text ≡ None
IsMomentOf (Some word) None = ⊥
IsMomentOf (Some word) (Some text) = IsMoment word.now text

-- There is a word, which spells no time for that reason; or there was no memory for its text.
abbrev pub RefusesMoment : Option (Bor (List ℕ)) → Failure → Type 0
RefusesMoment None failure = ⊥
RefusesMoment (Some word) failure = IsNoMoment word.now failure

-- The second moment lies before the first.
abbrev pub is_earlier : Option ℤ → Option ℤ → Bool
is_earlier None last = false
is_earlier (Some begin) None = false
is_earlier (Some begin) (Some last) = int_lt last begin

-- There are texts of a begin and an end, and the window that they make ends before it begins.
abbrev pub is_backwards : (begin last : Option (List ℕ)) → Bool
is_backwards begin last = is_earlier (option_and_then time_of begin) (option_and_then time_of last)

-- the window of a begin and an end, and of whether what is held is asked for. An end has a begin.
abbrev pub window_by : (begin last : Option (List ℕ)) → (is_fetch : Bool) → WindowValue
window_by (Some begin) (Some last) is_fetch = Between begin last
window_by (Some begin) None true = Held (Some begin)
window_by (Some begin) None false = Following (Some begin)
window_by None last true = Held None
window_by None last false = Following None
