-- Wants that are asked for together: whether one narrows or moves what an earlier one of its station asks for, and how
-- many there may be.
-- SeedLink 3, STATION, SELECT, DATA and FETCH: a station that is named again keeps its patterns and gets more, and asks
-- from the number that is named last. Left out: wants of different moments, since all wants have those of one window.
use Rattle.std.specs.Prelude.{ℕ, ◌+◌, Bool, true, false, ◌&&◌, ◌||◌, not, ◌==◌, nat_le, nat_lt, length, take}
use Rattle.std.specs.Prelude.{if◌then◌else◌, List, [], ◌∷◌, Option, Some, None}
use Rattle.std.specs.List.{list_all, list_any}
use Rattle.std.specs.Str.{bytes_eq}
use Rattle.slreader.specs.Wants.{Action, WantValue, patterns_together}
use Rattle.slreader.specs.Wants.Action.{Data, Fetch, Time}
use Rattle.job_read.specs.declared.together.Misfit.{Misfit}
use Rattle.job_read.specs.declared.together.Misfit.TheVariants.{Clash, Nothing, Patterns, Stations}

-- ---- patterns

-- The pattern says what to send: `!` (33) begins one that says what not to send.
abbrev pub is_positive : List ℕ → Bool
is_positive [] = true
is_positive (b ∷ bs) = not (b == 33)

abbrev pub has_positive : List (List ℕ) → Bool
has_positive patterns = list_any is_positive patterns

-- the text is one of these
abbrev pub is_among : List (List ℕ) → List ℕ → Bool
is_among patterns text = list_any (λ p. bytes_eq p text) patterns

-- What these say not to send, others say too.
abbrev pub are_negative_in : (others patterns : List (List ℕ)) → Bool
are_negative_in others patterns = list_all (λ p. is_positive p || is_among others p) patterns

-- Both are so, or neither is.
abbrev pub agree : Bool → Bool → Bool
agree true b = b
agree false b = not b

-- Both say what to send or neither does, and both say not to send the same. Then the patterns of both together let pass
-- what either lets pass.
abbrev pub add_up : (a b : List (List ℕ)) → Bool
add_up a b = agree (has_positive a) (has_positive b) && are_negative_in b a && are_negative_in a b

-- ---- numbers

-- the number that is asked for
abbrev pub number_in : Action → Option ℕ
number_in (Data number begin) = number
number_in (Fetch number begin) = number
number_in (Time begin last) = None

abbrev pub is_same_number : Option ℕ → Option ℕ → Bool
is_same_number None None = true
is_same_number (Some m) None = false
is_same_number None (Some n) = false
is_same_number (Some m) (Some n) = m == n

-- ---- wants

abbrev pub is_same_station : WantValue → WantValue → Bool
is_same_station v w = bytes_eq v.network w.network && bytes_eq v.station w.station

-- They are of one station, and one of them narrows or moves what the other asks for.
abbrev pub clash : WantValue → WantValue → Bool
clash v w =
    is_same_station v w
    && not (add_up v.patterns w.patterns && is_same_number (number_in v.action) (number_in w.action))

-- the place of the first want that clashes with an earlier one, of those from a place on
abbrev pub clash_from : (all : List WantValue) → (place : ℕ) → List WantValue → Option ℕ
clash_from all place [] = None
clash_from all place (w ∷ ws) =
    if list_any (λ v. clash v w) (take place all) then Some place else clash_from all (place + 1) ws

abbrev pub first_clash : List WantValue → Option ℕ
first_clash wants = clash_from wants 0 wants

-- ---- what a reader that nobody watches refuses

-- The wants have at most 1,024 patterns together.
abbrev pub has_few_patterns : List WantValue → Bool
has_few_patterns wants = nat_le (patterns_together wants) 1024

-- none, or more than one reader can ask for
abbrev pub excess : List WantValue → Option Misfit
excess wants =
    if length wants == 0 then Some Nothing
    else if nat_lt 255 (length wants) then Some Stations
    else if has_few_patterns wants then None else Some Patterns

-- the clash, and otherwise the excess
abbrev pub clash_or : Option Misfit → Option ℕ → Option Misfit
clash_or other None = other
clash_or other (Some place) = Some (Clash place)

-- Why wants are not asked for together. A clash is refused if records or a state are kept or wants come from a file,
-- and more wants than one reader can ask for also if servers are asked again.
abbrev pub misfit_of : (is_kept is_retried : Bool) → List WantValue → Option Misfit
misfit_of true is_retried wants = clash_or (excess wants) (first_clash wants)
misfit_of false true wants = excess wants
misfit_of false false wants = None

-- Nobody may look at what becomes of the wants: records or a state are kept, or they come from a file.
abbrev pub is_kept : (has_archive has_state has_file : Bool) → Bool
is_kept has_archive has_state has_file = has_archive || has_state || has_file
