-- The lines that tell what a reader was given, and the records of its packets.
-- SEED Reference Manual 2.4, chapter 8, for what a record says; the lines are this project's own.
use Rattle.std.specs.Prelude.{ℕ, List, [], ◌∷◌, ◌++◌, map, slice_get, slice_range, Option, Some, None, codes}
use Rattle.std.specs.Option.{unwrap_or}
use Rattle.std.specs.Char.{to_ascii_uppercase}
use Rattle.protocol.specs.Record.{Facts}
use Rattle.record_check.specs.Listing.{header_text}
use Rattle.record_check.specs.declared.options.Times.{Times}
use Rattle.reader_run.specs.declared.packet_lines.PacketLines.{PacketLines}
use Rattle.reader_run.specs.declared.packet_lines.PacketLines.TheVariants.{Each, No}
use Rattle.slreader.specs.Tallies.{packet_facts}
use Rattle.slreader.specs.Wants.{WantValue, PlanValue, wants_of}
use Rattle.slreader.specs.Dialogue.{Given}
use Rattle.slreader.specs.Dialogue.Given.{Hello, Refused, Packet, End}

-- the six digits of a packet's number, in upper case
abbrev pub number_text : List ℕ → List ℕ
number_text packet = map to_ascii_uppercase (slice_range packet 2 8)

-- what its record says, if it can be read
abbrev pub facts_text : Times → Option Facts → List ℕ
facts_text times None = codes "unreadable"
facts_text times (Some x) = header_text times x

-- the line of a packet, with its end
abbrev pub packet_line : Times → List ℕ → List ℕ
packet_line times packet = number_text packet ++ 32 ∷ (facts_text times (packet_facts packet) ++ 10 ∷ [])

-- the same, if packets have lines
abbrev pub line_of : PacketLines → List ℕ → List ℕ
line_of (Each times) packet = packet_line times packet
line_of No packet = []

-- the line of a want that was refused, with its end
abbrev pub refusal_line : WantValue → List ℕ
refusal_line w = codes "refused " ++ (w.network ++ 32 ∷ (w.station ++ 10 ∷ []))

-- How lines are written: the lines of wants if they are refused, and whether packets have lines, and with which times.
pub record LineStyle : Type 0 where
  pub refusals : List (List ℕ)
  pub packets : PacketLines

-- What is told and was not written yet, and how: the lines, and the records of packets.
pub record OutputValue : Type 0 where
  pub style : LineStyle
  pub lines : List ℕ
  pub records : List ℕ

-- the record of a packet
abbrev pub record_of : List ℕ → List ℕ
record_of packet = slice_range packet 8 520

-- the line of a want that is refused
abbrev pub refusal_at : List (List ℕ) → ℕ → List ℕ
refusal_at refusals want = unwrap_or (slice_get refusals want) []

-- one thing more was given
abbrev pub with_given : OutputValue → Given → OutputValue
with_given o Hello = o
with_given o (Refused want) = record o { lines = o.lines ++ refusal_at o.style.refusals want }
with_given o (Packet packet) =
    record o { lines = o.lines ++ line_of o.style.packets packet; records = o.records ++ record_of packet }
with_given o End = o

-- all of them
abbrev pub with_all : OutputValue → List Given → OutputValue
with_all o [] = o
with_all o (g ∷ gs) = with_all (with_given o g) gs

-- what a call gave
abbrev pub told : OutputValue → Option Given → OutputValue
told o None = o
told o (Some g) = with_given o g

-- the same of the lines alone
abbrev pub with_lines : OutputValue → Option Given → OutputValue
with_lines o None = o
with_lines o (Some Hello) = o
with_lines o (Some (Refused want)) = record o { lines = o.lines ++ refusal_at o.style.refusals want }
with_lines o (Some (Packet packet)) = record o { lines = o.lines ++ line_of o.style.packets packet }
with_lines o (Some End) = o

-- and of the records
abbrev pub with_records : List ℕ → Option Given → List ℕ
with_records records None = records
with_records records (Some Hello) = records
with_records records (Some (Refused want)) = records
with_records records (Some (Packet packet)) = records ++ record_of packet
with_records records (Some End) = records

-- lines that are told, beside records that wait
abbrev pub beside : OutputValue → (records : List ℕ) → OutputValue
beside o records = record o { records = records }

-- the lines of a plan's wants, if they are refused; none if packets have none
abbrev pub refusals_of : PacketLines → PlanValue → List (List ℕ)
refusals_of (Each times) plan = map refusal_line (wants_of plan)
refusals_of No plan = []

-- how the lines of a plan are written
abbrev pub style_of : PacketLines → PlanValue → LineStyle
style_of packets plan = record { refusals = refusals_of packets plan; packets = packets }

-- before anything is given
abbrev pub nothing_told : PacketLines → PlanValue → OutputValue
nothing_told packets plan = record { style = style_of packets plan; lines = []; records = [] }
