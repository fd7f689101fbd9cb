-- What there is to tell of a client's negotiation, by the lines that it sent.
-- SeedLink 3, STATION. Left out: when it is told.
use Rattle.std.specs.Prelude.{ℕ, if◌then◌else◌, List, [], ◌∷◌, ◌++◌, drop, Option, Some, None, option_map}
use Rattle.std.specs.Prelude.{slice_index_or}
use Rattle.protocol.specs.Catalog.{Station, View, find_station}
use Rattle.protocol.specs.Lines.{Line, cut_from}
use Rattle.protocol.specs.Command.{Command, command_of}
use Rattle.protocol.specs.Command.Command.{Station as StationCommand}
use Rattle.protocol.specs.History.{Arrival}
use Rattle.protocol.specs.Client.{Client, State as ClientState, is_ending, is_nothing, listed, read_byte, reads}
use Rattle.protocol.specs.Client.State.{Negotiating as ClientNegotiating}
use Rattle.session_state.specs.declared.news.AskedStation.{AskedStation}
use Rattle.session_state.specs.declared.news.News.{News}
use Rattle.session_state.specs.declared.news.News.TheVariants.{NoStation}
use Rattle.session_state.specs.declared.session.reading.Instruction.{Instruction}
use Rattle.session_state.specs.declared.session.reading.Instruction.TheVariants.{Unseen}

-- ---- codes as they were asked for

-- the byte of a word at a place, or a space after its end
abbrev pub byte_or_space : List ℕ → ℕ → ℕ
byte_or_space word place = slice_index_or word place 32

-- the first eight bytes of a word, with spaces after a shorter one
abbrev pub cut_code : List ℕ → List ℕ
cut_code word =
    byte_or_space word 0 ∷ byte_or_space word 1 ∷ byte_or_space word 2 ∷ byte_or_space word 3 ∷ byte_or_space word 4
    ∷ byte_or_space word 5 ∷ byte_or_space word 6 ∷ byte_or_space word 7 ∷ []

-- the station that these words ask for
abbrev pub asked_by : (code : List ℕ) → (network : Option (List ℕ)) → AskedStation
asked_by code network = record { station = cut_code code; network = option_map cut_code network }

-- ---- a station that the client doesn't see

-- what was asked for, if no station was found
abbrev pub missing : Option Station → AskedStation → Option AskedStation
missing None asked = Some asked
missing (Some found) asked = None

-- the station that a command asks for, if the view has none with its codes
abbrev pub missed_by : View → Command → Option AskedStation
missed_by v (StationCommand code network) = missing (find_station v code network) (asked_by code network)
missed_by v _ = None

-- the same of the line that a byte ends, if it ends one
abbrev pub missed_in : View → List Line → Option AskedStation
missed_in v [] = None
missed_in v (line ∷ lines) = missed_by v (command_of line)

-- the same of an instruction
abbrev pub missed_of : Instruction → Option AskedStation
missed_of (Unseen asked) = Some asked
missed_of _ = None

-- ---- what there is to tell

-- once a command may have missed a station
abbrev pub news_after : Option News → Option AskedStation → Option News
news_after news None = news
news_after news (Some asked) = Some (NoStation asked)

-- once a byte may have ended a line, which asks for stations in negotiation alone
abbrev pub news_in : View → ClientState → List Line → Option News → Option News
news_in v (ClientNegotiating n) lines news = news_after news (missed_in v lines)
news_in v _ lines news = news

-- once the client has read what it may of the unread bytes: what the last STATION of them says that was answered ERROR,
-- and what there was to tell before if none was
abbrev pub news_on : View → List Arrival → List ℕ → Client → Option News → Option News
news_on v h [] c news = news
news_on v h (b ∷ bytes) c news =
    if reads c.state c.waiting
    then news_on v h bytes (read_byte v h b c) (news_in v c.state (cut_from c.open_line (b ∷ [])) news)
    else news

-- once bytes came that fit
abbrev pub news_received : View → List Arrival → List ℕ → Client → Option News → Option News
news_received v h bytes c news = if is_ending c.state then news else news_on v h (c.unread ++ bytes) c news

-- once bytes that waited were handed, and these are left
abbrev pub news_left : View → List Arrival → Client → (left : List ℕ) → Option News → Option News
news_left v h c (b ∷ bs) news = news
news_left v h c [] news = news_on v h c.unread (record c { state = listed c.state; waiting = [] }) news

-- once the first n bytes that waited, one at least, were handed
abbrev pub news_taken : View → List Arrival → Client → (n : ℕ) → Option News → Option News
news_taken v h c n news = news_left v h c (drop n c.waiting) news
