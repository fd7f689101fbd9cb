-- What a call answers, by what its parts read.
use Rattle.std.proofs.Common.{◌≡◌, ℕ, ◌+◌, true, List, [], ◌∷◌, length, Some, None, refl, sym, ap, ◌∙◌}
use Rattle.std.specs.Prelude.{◌≢◌, Option, is_some, Result, Ok, Err}
use Rattle.sl_packet.specs.Progress.{Progress}
use Rattle.sl_packet.specs.Progress.Progress.{Amid, Finished, Faulty}
use Rattle.sl_packet.specs.declared.cutter.NotAPacket.{NotAPacket as BadPacket}
use Rattle.slreader.specs.declared.fault.ReaderFault.{ReaderFault}
use Rattle.slreader.specs.declared.fault.ReaderFault.TheVariants.{NotAPacket}
use Rattle.slreader.specs.declared.stage.StageEvent.{StageEvent}
use Rattle.slreader.specs.declared.stage.StageEvent.TheVariants as event
use Rattle.slreader.specs.declared.stage.PieceStep.{PieceStep}
use Rattle.slreader.specs.Dialogue.{ReaderValue, Given, FirstGiven, at_stage, behind, fails, outcome_in, outcome_of}
use Rattle.slreader.specs.Dialogue.{read_first}
use Rattle.slreader.specs.Dialogue.Given.{Packet}
use Rattle.slreader.specs.Dialogue.Stage.{Failed}
use Rattle.slreader.specs.Dialogue.Outcome.{Gave, Stopped}
use Rattle.slreader.specs.declared.stage.ReaderStage.{ReaderStage}
use Rattle.slreader.specs.declared.stage.ReaderStage.TheVariants as code
use Rattle.slreader.specs.Wants.{Command}
use Rattle.slreader.specs.OutboxValue.{OutboxValue}
use Rattle.slreader.specs.Tallies.{TallyValue}
use Rattle.slreader.specs.ReaderViews.{given_option, reader_value, transfer_stage}
use Rattle.slreader.specs.Reads.{TalkedOf, tally_after, tally_given, cut_first}
use Rattle.slreader.proofs.TransferLemmas.{failed_reads}

-- A cutter that goes on stops nothing.
sound_outcome : (n : ℕ) (g : Option Given) (p : Progress) → p ≢ Faulty → outcome_in n g (transfer_stage p) ≡ Gave n g
sound_outcome n (Some g) p sound = refl
sound_outcome n None (Amid rest) sound = refl
sound_outcome n None Finished sound = refl
sound_outcome n None Faulty sound = absurd (sound refl)

-- What a cutter read is what the reader read.
abbrev pub Cuts : Progress → List ℕ → Result PieceStep BadPacket → Progress → List ℕ → Type 0
Cuts p piece o p' packet = (q : ReaderValue)
    → read_first (at_stage q (transfer_stage p)) piece ≡ cut_first q piece o p' packet

reads_cut : (r : ReaderValue) (piece packet : List ℕ) (o o' : Result PieceStep BadPacket) (p p' : Progress)
    → r.stage ≡ transfer_stage p → Cuts p piece o p' packet → o ≡ o'
    → read_first r piece ≡ cut_first r piece o' p' packet
reads_cut r piece packet o o' p p' at cuts is =
    ap (λ s. read_first (at_stage r s) piece) at ∙ cuts r ∙ ap (λ x. cut_first r piece x p' packet) is

pub received_outcome : (r : ReaderValue) (n : ℕ) (piece packet : List ℕ) (o : Result PieceStep BadPacket)
    (step : PieceStep)
    (p p' : Progress) → r.stage ≡ transfer_stage p → Cuts p piece o p' packet → o ≡ Ok step → p' ≢ Faulty
    → Gave (n + step.used) (given_option step.event packet) ≡ outcome_of (behind n (read_first r piece))
received_outcome r n piece packet o step p p' at cuts is sound =
    sym (ap (λ f. outcome_of (behind n f)) (reads_cut r piece packet o (Ok step) p p' at cuts is)
    ∙ sound_outcome (n + step.used) (given_option step.event packet) p' sound)

pub received_reader : (r r' : ReaderValue) (piece packet : List ℕ) (o : Result PieceStep BadPacket) (step : PieceStep)
    (p p' : Progress) → r.stage ≡ transfer_stage p → Cuts p piece o p' packet → o ≡ Ok step
    → r' ≡ record r { stage = transfer_stage p'; tally = tally_after r.tally step.event packet }
    → r' ≡ (read_first r piece).reader
received_reader r r' piece packet o step p p' at cuts is to =
    to ∙ sym (ap (λ (f : FirstGiven). f.reader) (reads_cut r piece packet o (Ok step) p p' at cuts is))

pub refused_outcome : (r : ReaderValue) (n : ℕ) (piece packet : List ℕ) (o : Result PieceStep BadPacket)
    (bad : BadPacket)
    (p p' : Progress) → r.stage ≡ transfer_stage p → Cuts p piece o p' packet → o ≡ Err bad
    → Stopped NotAPacket ≡ outcome_of (behind n (read_first r piece))
refused_outcome r n piece packet o bad p p' at cuts is =
    sym (ap (λ f. outcome_of (behind n f)) (reads_cut r piece packet o (Err bad) p p' at cuts is))

pub refused_reader : (r : ReaderValue) (piece packet : List ℕ) (o : Result PieceStep BadPacket) (bad : BadPacket)
    (p p' : Progress) → r.stage ≡ transfer_stage p → Cuts p piece o p' packet → o ≡ Err bad
    → fails r NotAPacket ≡ (read_first r piece).reader
refused_reader r piece packet o bad p p' at cuts is =
    sym (ap (λ (f : FirstGiven). f.reader) (reads_cut r piece packet o (Err bad) p p' at cuts is))

-- A reader that failed reads nothing more.
failed_first : (r : ReaderValue) (fault : ReaderFault) (piece : List ℕ) → r.stage ≡ Failed fault
    → read_first r piece ≡ record { used = length piece; given = None; reader = at_stage r (Failed fault) }
failed_first r fault piece at = ap (λ s. read_first (at_stage r s) piece) at ∙ failed_reads r fault piece

pub failed_outcome : (r : ReaderValue) (n : ℕ) (fault : ReaderFault) (piece : List ℕ) → r.stage ≡ Failed fault
    → Stopped fault ≡ outcome_of (behind n (read_first r piece))
failed_outcome r n fault piece at = sym (ap (λ f. outcome_of (behind n f)) (failed_first r fault piece at))

pub failed_reader : (r : ReaderValue) (fault : ReaderFault) (piece : List ℕ) → r.stage ≡ Failed fault
    → r ≡ (read_first r piece).reader
failed_reader r fault piece at = ap (at_stage r) at
    ∙ sym (ap (λ (f : FirstGiven). f.reader) (failed_first r fault piece at))

-- What an answer gave is all that was read, and is no packet.
pub talked_reader : (r r' : ReaderValue) (piece packet : List ℕ) (n : ℕ) (o : Option StageEvent) → is_some o ≡ true
    → TalkedOf r piece n o r' → record r' { tally = tally_after r'.tally o packet } ≡ (read_first r piece).reader
talked_reader r r' piece packet n None some talked = absurd cc
talked_reader r r' piece packet n (Some event.Hello) some talked =
    sym (ap (λ (f : FirstGiven). f.reader) (talked []))
talked_reader r r' piece packet n (Some (event.Refused want)) some talked =
    sym (ap (λ (f : FirstGiven). f.reader) (talked []))
talked_reader r r' piece packet n (Some event.Packet) some talked =
    let same : Some (Packet []) ≡ Some (Packet (0 ∷ [])) =
    ap (λ (f : FirstGiven). f.given) (sym (talked []) ∙ talked (0 ∷ [])) in
    absurd cc
talked_reader r r' piece packet n (Some event.End) some talked =
    sym (ap (λ (f : FirstGiven). f.reader) (talked []))

-- What was given is counted.
pub given_tally : (t : TallyValue) (o : Option StageEvent) (packet : List ℕ)
    → tally_given t (given_option o packet) ≡ tally_after t o packet
given_tally t None packet = refl
given_tally t (Some event.Hello) packet = refl
given_tally t (Some (event.Refused want)) packet = refl
given_tally t (Some event.Packet) packet = refl
given_tally t (Some event.End) packet = refl

-- the reader of the parts, with a cutter that went on and with what was counted
pub counted_reader : (r r' : ReaderValue) (stage : ReaderStage) (p p' : Progress) (ahead : List Command) (kept : ℕ)
    (outbox : OutboxValue) (tally : TallyValue) (o : Option StageEvent) (packet : List ℕ) →
    reader_value stage p ahead kept outbox tally ≡ r → stage ≡ code.Transfer →
    r' ≡ record (reader_value stage p' ahead kept outbox tally) { tally = tally_after tally o packet } →
    r' ≡ record r { stage = transfer_stage p'; tally = tally_after r.tally o packet }
counted_reader r r' stage p p' ahead kept outbox tally o packet view is to =
    to
    ∙ ap (λ s. record (reader_value s p' ahead kept outbox tally) { tally = tally_after tally o packet }) is
    ∙ ap (λ (q : ReaderValue). record q { stage = transfer_stage p'; tally = tally_after q.tally o packet }) view
