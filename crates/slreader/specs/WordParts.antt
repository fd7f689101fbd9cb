-- The parts of a word that spells a want, and the first of them that is wrong. This project's own.
use Rattle.std.specs.Prelude.{ℕ, Bool, false, if◌then◌else◌, List, [], ◌∷◌, Option, Some, None}
use Rattle.slreader.specs.declared.part.WantPart.{WantPart}
use Rattle.slreader.specs.declared.part.WantPart.TheVariants.{Network, Station, Patterns, Number}
use Rattle.slreader.specs.Wants.{Action, is_action, is_code, has_patterns}
use Rattle.slreader.specs.Words.{WindowValue, action_of, front_of, rest_of, patterns_of, number_behind}

-- the codes of a word, before `:` (58) and `@` (64), joined by `_` (95)
abbrev pub codes_in : List ℕ → List ℕ
codes_in word = front_of 58 (front_of 64 word)

-- a code that is there and has at most so many bytes
abbrev pub has_code : ℕ → Option (List ℕ) → Bool
has_code most None = false
has_code most (Some code) = is_code most code

-- an action that can be asked for
abbrev pub is_possible : Option Action → Bool
is_possible None = false
is_possible (Some action) = is_action action

-- The number, or that there is none, makes an action of the window.
abbrev pub has_action : WindowValue → Option (Option ℕ) → Bool
has_action window None = false
has_action window (Some number) = is_possible (action_of window number)

-- That part of the word is right.
abbrev pub is_right : WindowValue → List ℕ → WantPart → Bool
is_right window word Network = is_code 2 (front_of 95 (codes_in word))
is_right window word Station = has_code 5 (rest_of 95 (codes_in word))
is_right window word Patterns = has_patterns (patterns_of (rest_of 58 (front_of 64 word)))
is_right window word Number = has_action window (number_behind (rest_of 64 word))

-- the first of some parts that is not right
abbrev pub first_wrong : WindowValue → List ℕ → List WantPart → Option WantPart
first_wrong window word [] = None
first_wrong window word (part ∷ parts) =
    if is_right window word part then first_wrong window word parts else Some part

-- the first part that is not right, as they stand in the word
abbrev pub wrong_part : WindowValue → List ℕ → Option WantPart
wrong_part window word = first_wrong window word (Network ∷ Station ∷ Patterns ∷ Number ∷ [])
