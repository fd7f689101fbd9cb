-- The dialogue of a reader in words: what a server may send it, part by part, and what each part gives.
-- SeedLink 3: the two lines that answer HELLO, OK and ERROR, and data packets with the end of a transfer. Left out:
-- the answer to any other command.
use Rattle.std.specs.Prelude.{◌≡◌, ◌≢◌, ℕ, ◌+◌, ◌<◌, ◌≤◌, Bool, true, false, List, [], ◌∷◌, ◌++◌, length, map}
use Rattle.std.specs.Prelude.{replicate, suc, take, codes, All}
use Rattle.std.specs.List.{list_any}
use Rattle.protocol.specs.Lines.{line_end}
use Rattle.protocol.specs.Packet.{IsSomePacket}
use Rattle.slreader.specs.Pieces.{greeting}
use Rattle.slreader.specs.Lines.{ended}
use Rattle.slreader.specs.Wants.{PlanValue, WantValue, station_line, select_line, action_line}
use Rattle.slreader.specs.Wants.PlanValue.{Uni, Multi}
use Rattle.slreader.specs.Dialogue.{Given}
use Rattle.slreader.specs.Dialogue.Given.{Hello, Refused, Packet, End}

-- ---- parts

-- bytes that a server sends as one, and what a reader is given by the last of them
pub record Part : Type 0 where
  pub bytes : List ℕ
  pub given : List Given

abbrev pub bytes_of : List Part → List ℕ
bytes_of [] = []
bytes_of (p ∷ parts) = p.bytes ++ bytes_of parts

abbrev pub given_of : List Part → List Given
given_of [] = []
given_of (p ∷ parts) = p.given ++ given_of parts

-- ---- the two lines that answer HELLO

-- A text and CR LF. The text begins with a mark, has at most 256 bytes, and has no CR LF in it.
pub record IsLine (mark bytes : List ℕ) : Type 0 where
  pub text : List ℕ
  pub marked : (rest : List ℕ) × (text ≡ mark ++ rest)
  pub short : length text ≤ 256
  pub one_line : (before after : List ℕ) → text ≢ before ++ (line_end ++ after)
  pub whole : text ++ line_end ≡ bytes

abbrev pub first_part : List ℕ → Part
first_part line = record { bytes = line; given = [] }

abbrev pub second_part : List ℕ → Part
second_part line = record { bytes = line; given = Hello ∷ [] }

-- ---- the answers to the commands of the wants

-- what a server answers to a want
pub data Verdict : Type 0 where
  -- OK to each command
  Accepted : Verdict
  -- OK to so many commands and ERROR to the next; the others are not asked
  RefusedAfter : (oks : ℕ) → Verdict

-- A want may have the verdict if so many of its commands are answered.
abbrev pub IsVerdict : (commands : ℕ) → Verdict → Type 0
IsVerdict commands Accepted = Unit {0}
IsVerdict commands (RefusedAfter oks) = oks < commands

-- Each want has one verdict.
abbrev pub AreVerdicts : List ℕ → List Verdict → Type 0
AreVerdicts [] [] = Unit {0}
AreVerdicts [] (v ∷ verdicts) = ⊥
AreVerdicts (n ∷ commands) [] = ⊥
AreVerdicts (n ∷ commands) (v ∷ verdicts) = IsVerdict n v × AreVerdicts commands verdicts

abbrev pub is_accepted : Verdict → Bool
is_accepted Accepted = true
is_accepted (RefusedAfter oks) = false

abbrev pub ok_part : Part
ok_part = record { bytes = codes "OK" ++ line_end; given = [] }

abbrev pub error_part : (want : ℕ) → Part
error_part want = record { bytes = codes "ERROR" ++ line_end; given = Refused want ∷ [] }

-- the answers to one want
abbrev pub answers_of : (want commands : ℕ) → Verdict → List Part
answers_of want commands Accepted = replicate commands ok_part
answers_of want commands (RefusedAfter oks) = replicate oks ok_part ++ error_part want ∷ []

-- the answers to wants, of which the first has that number
abbrev pub answers_from : ℕ → List ℕ → List Verdict → List Part
answers_from want [] verdicts = []
answers_from want (n ∷ commands) [] = []
answers_from want (n ∷ commands) (v ∷ verdicts) = answers_of want n v ++ answers_from (want + 1) commands verdicts

-- How many commands of each want are answered: a SELECT for each pattern, and in a plan of several wants also STATION
-- and the action. The last command of a plan has no answer.
abbrev pub answered_commands : PlanValue → List ℕ
answered_commands (Uni w) = length w.patterns ∷ []
answered_commands (Multi wants) = map (λ w. length w.patterns + 2) wants

-- The answers to HELLO and to each want of the plan, some of which was accepted or none.
pub record IsNegotiation (plan : PlanValue) (is_some_accepted : Bool) (parts : List Part) : Type 0 where
  pub first : List ℕ
  pub second : List ℕ
  pub verdicts : List Verdict
  pub greeted : IsLine greeting first
  pub described : IsLine [] second
  pub each : AreVerdicts (answered_commands plan) verdicts
  pub some : list_any is_accepted verdicts ≡ is_some_accepted
  pub whole : first_part first ∷ second_part second ∷ answers_from 0 (answered_commands plan) verdicts ≡ parts

-- ---- what is asked meanwhile

-- the commands of a want in a plan of several: its station, its patterns and its action
abbrev pub lines_of_want : WantValue → List (List ℕ)
lines_of_want w = station_line w ∷ (map select_line w.patterns ++ action_line w.action ∷ [])

-- the commands of each want that are answered
abbrev pub lines_of : PlanValue → List (List (List ℕ))
lines_of (Uni w) = map select_line w.patterns ∷ []
lines_of (Multi wants) = map lines_of_want wants

-- the command that begins the transfer, and has no answer
abbrev pub last_line : PlanValue → List ℕ
last_line (Uni w) = action_line w.action
last_line (Multi wants) = codes "END"

-- those of a want that are asked: all, or those up to the one that is answered ERROR
abbrev pub lines_asked : List (List ℕ) → Verdict → List (List ℕ)
lines_asked lines Accepted = lines
lines_asked lines (RefusedAfter oks) = take (suc oks) lines

-- those of all wants
abbrev pub all_asked : List (List (List ℕ)) → List Verdict → List (List ℕ)
all_asked [] verdicts = []
all_asked (lines ∷ more) [] = []
all_asked (lines ∷ more) (v ∷ verdicts) = lines_asked lines v ++ all_asked more verdicts

-- The transfer is begun only if some want was accepted.
abbrev pub last_asked : (is_some_accepted : Bool) → List ℕ → List (List ℕ)
last_asked true line = line ∷ []
last_asked false line = []

-- the bytes of lines, each with its end
abbrev pub bytes_of_lines : List (List ℕ) → List ℕ
bytes_of_lines [] = []
bytes_of_lines (l ∷ lines) = ended l ++ bytes_of_lines lines

-- all that is asked where the wants have these verdicts: HELLO, the commands of the wants, and the last one
abbrev pub asked_by : PlanValue → List Verdict → List ℕ
asked_by plan verdicts = bytes_of_lines
    (codes "HELLO" ∷ (all_asked (lines_of plan) verdicts
    ++ last_asked (list_any is_accepted verdicts) (last_line plan)))

-- ---- the whole dialogue

abbrev pub packet_part : List ℕ → Part
packet_part packet = record { bytes = packet; given = Packet packet ∷ [] }

-- the end of a transfer, if there is one
abbrev pub end_parts : Bool → List Part
end_parts true = record { bytes = codes "END"; given = End ∷ [] } ∷ []
end_parts false = []

-- what is not read
abbrev pub unread_part : List ℕ → Part
unread_part bytes = record { bytes = bytes; given = [] }

-- If some want was accepted, packets come, and possibly the end. If none was, nothing more is read, whatever comes.
abbrev pub MayFollow : (is_some_accepted : Bool) → List Part → Type 0
MayFollow true parts = (packets : List (List ℕ)) × (is_ended : Bool) × All IsSomePacket packets
    × (map packet_part packets ++ end_parts is_ended ≡ parts)
MayFollow false parts = (bytes : List ℕ) × (unread_part bytes ∷ [] ≡ parts)

-- A server may send a reader with the plan these parts.
pub record IsDialogue (plan : PlanValue) (parts : List Part) : Type 0 where
  pub is_some_accepted : Bool
  pub negotiation : List Part
  pub transfer : List Part
  pub negotiated : IsNegotiation plan is_some_accepted negotiation
  pub followed : MayFollow is_some_accepted transfer
  pub whole : negotiation ++ transfer ≡ parts

-- Some dialogue begins with the bytes.
abbrev pub BeginsDialogue : PlanValue → List ℕ → Type 0
BeginsDialogue plan bytes =
    (more : List ℕ) × (parts : List Part) × IsDialogue plan parts × (bytes_of parts ≡ bytes ++ more)

-- The bytes begin with a whole negotiation.
abbrev pub HasNegotiated : PlanValue → (is_some_accepted : Bool) → List ℕ → Type 0
HasNegotiated plan is_some_accepted bytes = (parts : List Part) × (more : List ℕ)
    × IsNegotiation plan is_some_accepted parts × (bytes_of parts ++ more ≡ bytes)
