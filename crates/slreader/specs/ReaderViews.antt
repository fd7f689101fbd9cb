-- What a reader of the code is in the definitions, and what a call gives.
-- SeedLink 3: the dialogue of a reader.
use Rattle.std.specs.Prelude.{ℕ, Bool, true, false, List, [], ◌∷◌, Option, Some, None, Result, Ok, Err}
use Rattle.sl_packet.specs.Progress.{Progress}
use Rattle.sl_packet.specs.Progress.Progress.{Amid, Finished, Faulty}
use Rattle.slreader.specs.declared.fault.ReaderFault.{ReaderFault}
use Rattle.slreader.specs.declared.fault.ReaderFault.TheVariants.{NotAPacket}
use Rattle.slreader.specs.declared.stage.ReaderStage.{ReaderStage}
use Rattle.slreader.specs.declared.stage.ReaderStage.TheVariants as code
use Rattle.slreader.specs.declared.stage.StageEvent.{StageEvent}
use Rattle.slreader.specs.declared.stage.StageEvent.TheVariants as event
use Rattle.slreader.specs.declared.stage.PieceStep.{PieceStep}
use Rattle.slreader.specs.Wants.{Command}
use Rattle.slreader.specs.Tallies.{TallyValue}
use Rattle.slreader.specs.OutboxValue.{OutboxValue}
use Rattle.slreader.specs.Dialogue.{Stage, ReaderValue, Given, Outcome}
use Rattle.slreader.specs.Dialogue.Stage.{FirstLine, SecondLine, Answer, Transfer, Over, Failed}
use Rattle.slreader.specs.Dialogue.Given.{Hello, Refused, Packet, End}
use Rattle.slreader.specs.Dialogue.Outcome.{Gave, Stopped}

-- what a reader in a transfer is sent next
abbrev pub transfer_stage : Progress → Stage
transfer_stage (Amid rest) = Transfer rest
transfer_stage Finished = Over
transfer_stage Faulty = Failed NotAPacket

-- what a reader is sent next
abbrev pub stage_value : ReaderStage → Progress → Stage
stage_value (code.FirstLine count after_cr) progress = FirstLine count after_cr
stage_value (code.SecondLine count after_cr) progress = SecondLine count after_cr
stage_value (code.Answer want count is_error) progress = Answer want count is_error
stage_value code.Transfer progress = transfer_stage progress
stage_value (code.Failed fault) progress = Failed fault

-- the reader, part by part
abbrev pub reader_value : ReaderStage → Progress → List Command → ℕ → OutboxValue → TallyValue → ReaderValue
reader_value stage progress ahead kept outbox tally =
    record {
      stage = stage_value stage progress;
      ahead = ahead;
      kept = kept;
      asked = outbox.asked;
      sent = outbox.sent;
      tally = tally;
    }

-- what was given; the packet lies in a buffer
abbrev pub given_value : StageEvent → (packet : List ℕ) → Given
given_value event.Hello packet = Hello
given_value (event.Refused want) packet = Refused want
given_value event.Packet packet = Packet packet
given_value event.End packet = End

-- one thing that was given, or nothing
abbrev pub given_list : Option StageEvent → (packet : List ℕ) → List Given
given_list None packet = []
given_list (Some e) packet = given_value e packet ∷ []

abbrev pub given_option : Option StageEvent → (packet : List ℕ) → Option Given
given_option None packet = None
given_option (Some e) packet = Some (given_value e packet)

-- what a call answered
abbrev pub step_outcome : Result PieceStep ReaderFault → (packet : List ℕ) → Outcome
step_outcome (Ok step) packet = Gave step.used (given_option step.event packet)
step_outcome (Err fault) packet = Stopped fault

-- Bytes are read one by one at that stage: lines and answers.
abbrev pub is_talk : Stage → Bool
is_talk (FirstLine count after_cr) = true
is_talk (SecondLine count after_cr) = true
is_talk (Answer want count is_error) = true
is_talk (Transfer rest) = false
is_talk Over = false
is_talk (Failed fault) = false
