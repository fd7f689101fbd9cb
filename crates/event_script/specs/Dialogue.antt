-- The dialogue of a script: a line an event, with what each take was handed. The lines are this project's own.
use Rattle.std.specs.Prelude.{ℕ, ◌+◌, ◌-◌, ◌==◌, ◌&&◌, Bool, true, false, if◌then◌else◌, List, [], ◌∷◌, ◌++◌, length}
use Rattle.std.specs.Prelude.{take, drop, slice_range, codes, decimal, Option, Some, None, Result, Ok, Err}
use Rattle.std.specs.Int.{w32, to_be_bytes}
use Rattle.std.specs.List.{ends_with, starts_with}
use Rattle.std.specs.Net.Text.{ipv4_text}
use Rattle.std.specs.Result.{result_ok}
use Rattle.protocol.specs.Record.{Facts}
use Rattle.protocol.specs.declared.record.RecordFault.{RecordFault}
use Rattle.protocol.specs.World.{Event, Handed}
use Rattle.protocol.specs.World.Event.{Open, Bytes, Take, Close, Arrive, Reload}
use Rattle.record_check.specs.Listing.{header_text, reading_of, refusal_text}
use Rattle.record_check.specs.declared.fault.FileFault.TheVariants.{Record}
use Rattle.record_check.specs.declared.options.Times.TheVariants.{Ticks}
use Rattle.event_script.specs.Spelling.{spelled}

-- ---- what a client sends and is handed

-- The bytes without their ending, behind a mark and a space; behind two marks if they don't end so.
abbrev pub marked_text : (mark : ℕ) → (ending bytes : List ℕ) → List ℕ
marked_text mark ending bytes =
    if ends_with ◌==◌ bytes ending then mark ∷ 32 ∷ spelled (take (length bytes - length ending) bytes)
    else mark ∷ mark ∷ 32 ∷ spelled bytes

-- what a client sends: `> HELLO` with a carriage return, or `>> HEL`
abbrev pub sent_text : List ℕ → List ℕ
sent_text bytes = marked_text 62 (13 ∷ []) bytes

-- what it is handed, if that is not a packet: `< OK` with a carriage return and a line feed, or `<< END`
abbrev pub answer_text : List ℕ → List ℕ
answer_text bytes = marked_text 60 (13 ∷ 10 ∷ []) bytes

-- Bytes are as long as a packet, and begin as one does.
abbrev pub is_packet : List ℕ → Bool
is_packet bytes = length bytes == 520 && starts_with ◌==◌ bytes (codes "SL")

-- what the record of a packet says; nothing of other bytes, or if the record is not valid
abbrev pub packet_facts : List ℕ → Option Facts
packet_facts bytes = if is_packet bytes then result_ok (reading_of (drop 8 bytes)) else None

-- the number of a packet, and what its record says
abbrev pub packet_text : List ℕ → Facts → List ℕ
packet_text bytes x = codes "packet " ++ spelled (slice_range bytes 2 8) ++ 32 ∷ header_text Ticks x

-- bytes that a client is handed, by what the record says if they are a packet
abbrev pub received_text : List ℕ → Option Facts → List ℕ
received_text bytes None = answer_text bytes
received_text bytes (Some x) = packet_text bytes x

-- no byte: the connection is over, or goes on
abbrev pub nothing_text : Bool → List ℕ
nothing_text true = codes "end"
nothing_text false = codes "nothing"

-- what a take was handed
abbrev pub handed_text : Handed → List ℕ
handed_text x = if length x.bytes == 0 then nothing_text x.ended else received_text x.bytes (packet_facts x.bytes)

-- ---- lines

-- the line of a client
abbrev pub client_line : ℕ → List ℕ → List ℕ
client_line client text = decimal client ++ 32 ∷ text ++ 10 ∷ []

-- four numbers joined by dots
abbrev pub address_text : ℕ → List ℕ
address_text address = ipv4_text (to_be_bytes w32 address)

-- the line of the first of the takes that are left
abbrev pub take_line : List Handed → List ℕ
take_line [] = []
take_line (x ∷ xs) = client_line x.client (handed_text x)

-- what a record says, or why it is refused
abbrev pub arrival_text : Result Facts RecordFault → List ℕ
arrival_text (Ok x) = header_text Ticks x
arrival_text (Err fault) = refusal_text (Record fault)

-- the line of an arrival
abbrev pub arrival_line : List ℕ → List ℕ
arrival_line bytes = codes "arrive " ++ arrival_text (reading_of bytes) ++ 10 ∷ []

-- The line of an event: how many clients opened before it, and what the takes from it on were handed.
abbrev pub event_line : ℕ → List Handed → Event → List ℕ
event_line opened xs (Open address) = client_line opened (codes "open " ++ address_text address)
event_line opened xs (Bytes client bytes) = client_line client (sent_text bytes)
event_line opened xs (Take client count) = take_line xs
event_line opened xs (Close client) = client_line client (codes "close")
event_line opened xs (Arrive bytes) = arrival_line bytes
event_line opened xs (Reload config) = codes "server reload\n"

-- ---- the whole

-- how many clients opened, with an event
abbrev pub opened_after : ℕ → Event → ℕ
opened_after opened (Open address) = opened + 1
opened_after opened e = opened

-- the takes that are left after an event
abbrev pub takes_after : List Handed → Event → List Handed
takes_after xs (Take client count) = drop 1 xs
takes_after xs e = xs

-- the lines of events, after so many clients opened, with what their takes were handed
abbrev pub dialogue_from : ℕ → List Event → List Handed → List ℕ
dialogue_from opened [] xs = []
dialogue_from opened (e ∷ es) xs =
    event_line opened xs e ++ dialogue_from (opened_after opened e) es (takes_after xs e)

-- The dialogue of events: a line an event, in order. Each take has the line of what it was handed, in the order of the
-- takes.
abbrev pub dialogue_of : List Event → List Handed → List ℕ
dialogue_of es xs = dialogue_from 0 es xs
