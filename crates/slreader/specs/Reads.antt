-- What parts of a call read: its lines and answers, and then its packets.
-- SeedLink 3: the dialogue of a reader.
use Rattle.std.specs.Prelude.{◌≡◌, ℕ, true, List, length, drop, Option, Some, None, Result, Ok, Err}
use Rattle.sl_packet.specs.Progress.{Progress}
use Rattle.sl_packet.specs.declared.cutter.NotAPacket.{NotAPacket}
use Rattle.slreader.specs.declared.fault.ReaderFault.{ReaderFault}
use Rattle.slreader.specs.declared.fault.ReaderFault.TheVariants as fault
use Rattle.slreader.specs.declared.stage.StageEvent.{StageEvent}
use Rattle.slreader.specs.declared.stage.StageEvent.TheVariants as event
use Rattle.slreader.specs.declared.stage.PieceStep.{PieceStep}
use Rattle.slreader.specs.Tallies.{TallyValue, counted}
use Rattle.slreader.specs.Dialogue.{Given, ReaderValue, FirstGiven, behind, fails, read_first}
use Rattle.slreader.specs.Dialogue.Given.{Hello, Refused, Packet, End}
use Rattle.slreader.specs.ReaderViews.{given_value, given_option, transfer_stage, is_talk}

-- Either an answer gave something at its last byte, or nothing was given: then all bytes were read, or packets come
-- next.
abbrev pub TalkedOf : ReaderValue → List ℕ → (used : ℕ) → Option StageEvent → ReaderValue → Type 0
TalkedOf r piece used (Some e) r' =
    (packet : List ℕ) → read_first r piece ≡ record { used = used; given = Some (given_value e packet); reader = r' }
TalkedOf r piece used None r' =
    (read_first r piece ≡ behind used (read_first r' (drop used piece)))
    × (is_talk r'.stage ≡ true → used ≡ length piece)

-- what was counted, where that was given
abbrev pub tally_after : TallyValue → Option StageEvent → (packet : List ℕ) → TallyValue
tally_after t None packet = t
tally_after t (Some event.Hello) packet = t
tally_after t (Some (event.Refused want)) packet = t
tally_after t (Some event.Packet) packet = counted t packet
tally_after t (Some event.End) packet = t

-- what was counted, with what was given if it is a packet
abbrev pub tally_given : TallyValue → Option Given → TallyValue
tally_given t None = t
tally_given t (Some Hello) = t
tally_given t (Some (Refused want)) = t
tally_given t (Some (Packet packet)) = counted t packet
tally_given t (Some End) = t

-- the reader, once it counts what a call gave
abbrev pub with_given : ReaderValue → Result PieceStep ReaderFault → (packet : List ℕ) → ReaderValue
with_given r (Ok step) packet = record r { tally = tally_after r.tally step.event packet }
with_given r (Err fault) packet = r

-- what a cutter that began with `before` read of a piece, where it stands at `after`
abbrev pub cut_first : ReaderValue → (piece : List ℕ) → Result PieceStep NotAPacket → (after : Progress)
    → (packet : List ℕ)
    → FirstGiven
cut_first r piece (Ok step) after packet =
    record {
      used = step.used;
      given = given_option step.event packet;
      reader = record r { stage = transfer_stage after; tally = tally_after r.tally step.event packet };
    }
cut_first r piece (Err bad) after packet =
    record { used = length piece; given = None; reader = fails r fault.NotAPacket }
