-- What a command leads to that changes what was negotiated.
-- SeedLink 3, the dialogue in uni-station and multi-station mode.
use Rattle.std.specs.Prelude.{ℕ, nat_lt, ◌&&◌, Bool, if◌then◌else◌, List, [], ◌∷◌, ◌++◌, length, sum_by, Option, Some}
use Rattle.std.specs.Prelude.{None, filter_map}
use Rattle.protocol.specs.Pattern.{Pattern}
use Rattle.protocol.specs.Session.{Choice, Negotiated, Outcome, choices_of, error_line, ok_line, select_in, select_uni}
use Rattle.protocol.specs.Session.{wish_of, with_pattern, together, max_patterns, max_together}
use Rattle.protocol.specs.Session.Negotiated.{Uni, Multi}
use Rattle.protocol.specs.Session.{current_choice}
use Rattle.protocol.specs.Session.Outcome.{Stays, Starts as StartsOutcome}
use Rattle.session_state.specs.declared.negotiation.Change.{Change}
use Rattle.session_state.specs.declared.negotiation.Change.TheVariants.{Done, Refused, Starts}
use Rattle.session_state.specs.NamedValues.{Choice as Named}

-- SELECT with a pattern, where a station is current; without a pattern, as for a text that is none, nothing changes
abbrev pub selecting_in : List Choice → Option ℕ → Option Pattern → Option Choice → Outcome
selecting_in cs current pattern None = Stays error_line (Multi cs current)
selecting_in cs current pattern (Some c) = select_in cs current c (with_pattern (together cs) c.patterns pattern)

-- the same in either mode
abbrev pub selecting : Negotiated → Option Pattern → Outcome
selecting (Uni ps) pattern = select_uni ps (with_pattern (length ps) ps pattern)
selecting (Multi cs current) pattern = selecting_in cs current pattern (current_choice cs current)

-- the outcome of a command with that change, after which so much is negotiated
abbrev pub outcome_after : Change → Negotiated → Outcome
outcome_after Done n = Stays ok_line n
outcome_after Refused n = Stays error_line n
outcome_after Starts n = StartsOutcome (filter_map wish_of (choices_of n))

-- how many patterns named stations have together
abbrev pub all_patterns : List Named → ℕ
all_patterns cs = sum_by (λ c. length c.patterns) cs

-- Where there are so many in all, there is room for one more.
abbrev pub has_room : (all : ℕ) → List Pattern → Bool
has_room all ps = nat_lt (length ps) max_patterns && nat_lt all max_together

-- the patterns with one more, where there is room
abbrev pub widened : (all : ℕ) → List Pattern → Pattern → List Pattern
widened all ps p = if has_room all ps then ps ++ p ∷ [] else ps

-- what comes of it
abbrev pub widening : (all : ℕ) → List Pattern → Change
widening all ps = if has_room all ps then Done else Refused
