-- The word that spells a want: NET_STA, then possibly `:` and patterns joined by commas, then possibly `@` and a
-- number. This project's own.
use Rattle.std.specs.Prelude.{◌≡◌, ℕ, ◌+◌, ◌==◌, if◌then◌else◌, List, [], take, drop, position}
use Rattle.std.specs.Prelude.{Option, Some, None, option_map, option_and_then}
use Rattle.protocol.specs.Packet.{number_of}
use Rattle.protocol.specs.Pieces.{split}
use Rattle.slreader.specs.declared.fault.ReaderFault.{ReaderFault}
use Rattle.slreader.specs.declared.fault.ReaderFault.TheVariants as fault
use Rattle.slreader.specs.Wants.{Action, WantValue, is_want}
use Rattle.slreader.specs.Wants.Action.{Data, Fetch, Time}

-- what stands before the first separator; all of a text that has none
abbrev pub front_at : Option ℕ → List ℕ → List ℕ
front_at None text = text
front_at (Some place) text = take place text

-- what stands behind it, where there is one
abbrev pub rest_at : Option ℕ → List ℕ → Option (List ℕ)
rest_at None text = None
rest_at (Some place) text = Some (drop (place + 1) text)

abbrev pub place_of : (separator : ℕ) → List ℕ → Option ℕ
place_of separator text = position (λ b. b == separator) text

abbrev pub front_of : (separator : ℕ) → List ℕ → List ℕ
front_of separator text = front_at (place_of separator text) text

abbrev pub rest_of : (separator : ℕ) → List ℕ → Option (List ℕ)
rest_of separator text = rest_at (place_of separator text) text

-- the patterns that commas (44) separate, where there are some
abbrev pub patterns_of : Option (List ℕ) → List (List ℕ)
patterns_of None = []
patterns_of (Some list) = split (λ b. b == 44) list

-- the number behind `@`, if there is one; None where its digits are none of a number
abbrev pub number_behind : Option (List ℕ) → Option (Option ℕ)
number_behind None = Some None
number_behind (Some digits) = option_map Some (number_of digits)

-- Which records are wanted: as they come, those that are held, or those between two moments. A begin and a last are
-- texts of moments.
pub data WindowValue : Type 0 where
  Following : (begin : Option (List ℕ)) → WindowValue
  Held : (begin : Option (List ℕ)) → WindowValue
  Between : (begin last : List ℕ) → WindowValue

-- The action that asks for them, with or without a number. SeedLink 3 has TIME for a begin without a number, and
-- nothing for an end beside a number.
abbrev pub action_of : WindowValue → Option ℕ → Option Action
action_of (Following None) number = Some (Data number None)
action_of (Following (Some begin)) None = Some (Time (Some begin) None)
action_of (Following (Some begin)) (Some number) = Some (Data (Some number) (Some begin))
action_of (Held begin) number = Some (Fetch number begin)
action_of (Between begin last) None = Some (Time (Some begin) (Some last))
action_of (Between begin last) (Some number) = None

-- a want, if it can be asked for
abbrev pub spellable : WantValue → Option WantValue
spellable w = if is_want w then Some w else None

-- the want of a text without its number: patterns stand behind `:` (58), the station behind `_` (95)
abbrev pub want_with : Action → (codes : List ℕ) → (patterns : List (List ℕ)) → Option WantValue
want_with action codes patterns =
    option_and_then
    (λ station. spellable
    (record { network = front_of 95 codes; station = station; patterns = patterns; action = action }))
    (rest_of 95 codes)

abbrev pub want_numbered : WindowValue → (text : List ℕ) → Option ℕ → Option WantValue
want_numbered window text number =
    option_and_then (λ action. want_with action (front_of 58 text) (patterns_of (rest_of 58 text)))
    (action_of window number)

-- The want that a word spells in a window; None where it spells none that can be asked for. The number stands behind
-- `@` (64).
unfoldable pub want_of : WindowValue → List ℕ → Option WantValue
want_of window text = option_and_then (want_numbered window (front_of 64 text)) (number_behind (rest_of 64 text))

-- Why a word is no want: it spells none that can be asked for, or there is no memory for its patterns.
abbrev pub IsNoWant : ReaderFault → Option WantValue → Type 0
IsNoWant fault.Limit want = want ≡ None
IsNoWant fault.OutOfMemory want = Unit {0}
IsNoWant fault.NotAPacket want = ⊥
IsNoWant fault.AllRefused want = ⊥
IsNoWant fault.BadReply want = ⊥
