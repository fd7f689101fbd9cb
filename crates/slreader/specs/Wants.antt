-- What a reader wants, whether it can be asked for, and the commands that ask for it.
-- SeedLink 3, commands. Left out: wildcards in a station's code, and several patterns in one command.
use Rattle.std.specs.Prelude.{ℕ, ◌+◌, Bool, true, ◌&&◌, ◌||◌, not, nat_le, List, [], ◌∷◌, ◌++◌, length, map, sum_by}
use Rattle.std.specs.Prelude.{Option, Some, None, is_some, codes}
use Rattle.std.specs.List.{list_all}
use Rattle.protocol.specs.Packet.{digits}
use Rattle.protocol.specs.Pattern.{pattern_of}
use Rattle.protocol.specs.Time.{time_of}

-- Which records of a station are wanted. Numbers are sequence numbers; a begin and a last are texts of moments.
pub data Action : Type 0 where
  -- what comes, from a number on
  Data : (number : Option ℕ) → (begin : Option (List ℕ)) → Action
  -- what the server holds, from a number on
  Fetch : (number : Option ℕ) → (begin : Option (List ℕ)) → Action
  -- what lies between two moments
  Time : (begin : Option (List ℕ)) → (last : Option (List ℕ)) → Action

-- a station, which of its records are wanted by their patterns, and from where on
pub record WantValue : Type 0 where
  pub network : List ℕ
  pub station : List ℕ
  pub patterns : List (List ℕ)
  pub action : Action

-- A want that is asked for without STATION, at whatever station the server takes for the first; or wants that each
-- begin with STATION.
pub data PlanValue : Type 0 where
  Uni : WantValue → PlanValue
  Multi : List WantValue → PlanValue

abbrev pub wants_of : PlanValue → List WantValue
wants_of (Uni w) = w ∷ []
wants_of (Multi wants) = wants

-- ---- what can be asked for

-- `A` to `Z` and `0` to `9`
abbrev pub is_code_byte : ℕ → Bool
is_code_byte b = (nat_le 65 b && nat_le b 90) || (nat_le 48 b && nat_le b 57)

-- a code of at most so many bytes
abbrev pub is_code : ℕ → List ℕ → Bool
is_code most code = nat_le 1 (length code) && nat_le (length code) most && list_all is_code_byte code

-- the text of a pattern
abbrev pub is_pattern : List ℕ → Bool
is_pattern text = is_some (pattern_of text)

-- at most 64 of them
abbrev pub has_patterns : List (List ℕ) → Bool
has_patterns patterns = nat_le (length patterns) 64 && list_all is_pattern patterns

-- the text of a moment, if there is one
abbrev pub is_moment : Option (List ℕ) → Bool
is_moment None = true
is_moment (Some text) = is_some (time_of text)

-- The second stands only behind the first.
abbrev pub is_led : Bool → Bool → Bool
is_led has_first has_second = has_first || not has_second

abbrev pub is_action : Action → Bool
is_action (Data number begin) = is_led (is_some number) (is_some begin) && is_moment begin
is_action (Fetch number begin) = is_led (is_some number) (is_some begin) && is_moment begin
is_action (Time begin last) = is_led (is_some begin) (is_some last) && is_moment begin && is_moment last

-- The want can be spelled: a network of 1 or 2 bytes, a station of 1 to 5, at most 64 patterns, and an action of
-- which each argument has the one before it.
unfoldable pub is_want : WantValue → Bool
is_want w = is_code 2 w.network && is_code 5 w.station && has_patterns w.patterns && is_action w.action

-- how many patterns wants have together
abbrev pub patterns_together : List WantValue → ℕ
patterns_together wants = sum_by (λ w. length w.patterns) wants

-- 1 to 255 wants, each of which can be spelled, with at most 1,024 patterns together
abbrev pub is_plan : PlanValue → Bool
is_plan p = nat_le 1 (length (wants_of p)) && nat_le (length (wants_of p)) 255 && list_all is_want (wants_of p) &&
    nat_le (patterns_together (wants_of p)) 1024

-- ---- commands

-- A command without its end. One that has an answer is part of a want; the last one has none, and begins the transfer.
pub record Command : Type 0 where
  pub want : Option ℕ
  pub line : List ℕ

-- a space and an argument, if there is one
abbrev pub argument : Option (List ℕ) → List ℕ
argument None = []
argument (Some text) = 32 ∷ text

-- a space and the six digits of a number, if there is one
abbrev pub number_argument : Option ℕ → List ℕ
number_argument None = []
number_argument (Some number) = 32 ∷ digits number

abbrev pub action_line : Action → List ℕ
action_line (Data number begin) = codes "DATA" ++ (number_argument number ++ argument begin)
action_line (Fetch number begin) = codes "FETCH" ++ (number_argument number ++ argument begin)
action_line (Time begin last) = codes "TIME" ++ (argument begin ++ argument last)

abbrev pub station_line : WantValue → List ℕ
station_line w = codes "STATION " ++ (w.station ++ 32 ∷ w.network)

abbrev pub select_line : List ℕ → List ℕ
select_line pattern = codes "SELECT " ++ pattern

-- a command that has an answer
abbrev pub command_of : ℕ → List ℕ → Command
command_of want line = record { want = Some want; line = line }

-- the command that has none
abbrev pub last_command : List ℕ → Command
last_command line = record { want = None; line = line }

-- a SELECT for each pattern
abbrev pub selects : ℕ → List (List ℕ) → List Command
selects want patterns = map (λ p. command_of want (select_line p)) patterns

-- the commands of a want in a plan of several: its station, its patterns and its action
unfoldable pub commands_of_want : ℕ → WantValue → List Command
commands_of_want want w =
    (command_of want (station_line w) ∷ selects want w.patterns) ++ command_of want (action_line w.action) ∷ []

-- the commands of wants, of which the first has that number
abbrev pub commands_from : ℕ → List WantValue → List Command
commands_from want [] = []
commands_from want (w ∷ ws) = commands_of_want want w ++ commands_from (want + 1) ws

-- All commands of a plan after HELLO. The last one has no answer: the action of a plan of one station, else END.
abbrev pub commands_of : PlanValue → List Command
commands_of (Uni w) = selects 0 w.patterns ++ last_command (action_line w.action) ∷ []
commands_of (Multi wants) = commands_from 0 wants ++ last_command (codes "END") ∷ []
