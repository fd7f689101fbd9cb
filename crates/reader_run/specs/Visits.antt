-- What is done at servers that are asked one after the other: what each was asked, what of its answer was written, and
-- why its connection ended.
-- SeedLink 3: the dialogue of a reader. Each server is asked for what comes after the packets that were counted.
use Rattle.std.specs.Prelude.{◌≡◌, ℕ, ◌*◌, ◌-◌, ◌^◌, List, [], ◌∷◌, ◌++◌, length, true, false, Option}
use Rattle.std.specs.Prelude.{Ok, Err}
use Rattle.slreader.specs.declared.fault.ReaderFault.TheVariants.{Limit}
use Rattle.slreader.specs.GoingOn.{plan_on}
use Rattle.slreader.specs.Tallies.{TallyValue}
use Rattle.slreader.specs.Wants.{WantValue, is_plan}
use Rattle.reader_run.specs.declared.packet_lines.PacketLines.{PacketLines}
use Rattle.reader_run.specs.declared.fault.ListingFault.{ListingFault}
use Rattle.reader_run.specs.declared.fault.ListingFault.TheVariants.{Reader, Read}
use Rattle.reader_run.specs.Calls.{Call, ConnectionValue}
use Rattle.reader_run.specs.Calls.Call.{Connects, Fails, PassesOver, Closes}
use Rattle.reader_run.specs.Following.{reader_on}
use Rattle.reader_run.specs.Keeping.{CountsKeeping, Tells}
use Rattle.reader_run.specs.Lines.{LineStyle, style_of}
use Rattle.reader_run.specs.Stops.{EndsReads, StopsOver, Writes, writes}
use Rattle.reader_run.specs.Whole.{EndsCounted, RecordsFirst, StopsCounted, is_told_before}

-- What is asked for, and how it is listed.
pub record Asking : Type 0 where
  pub wants : List WantValue
  pub packets : PacketLines

abbrev pub asking : List WantValue → PacketLines → Asking
asking wants packets = record { wants = wants; packets = packets }

-- how the lines are written of a server that is asked after what was counted
abbrev pub style_on : Asking → TallyValue → LineStyle
style_on a t = style_of a.packets (plan_on t a.wants)

-- How far a reading is: what was counted, the lines and the records that were written, what is counted of writing them,
-- and how many calls of the keeper failed.
pub record Progress : Type 0 where
  pub tally : TallyValue
  pub lines : Option (List ℕ)
  pub line_writes : Writes
  pub records : Option (List ℕ)
  pub record_writes : Writes
  pub keeper_failures : ℕ

abbrev pub progress : TallyValue → (lines : Option (List ℕ)) → (line_failures line_empty : ℕ)
    → (records : Option (List ℕ)) → (record_failures record_empty keeper_failures : ℕ) → Progress
progress t lines line_failures line_empty records record_failures record_empty keeper_failures = record {
  tally = t;
  lines = lines;
  line_writes = writes line_failures line_empty;
  records = records;
  record_writes = writes record_failures record_empty;
  keeper_failures = keeper_failures;
}

-- ---- one connection

-- why it ended, by what its sides and the writers count
abbrev pub StopsBetween : ListingFault → (c c' : ConnectionValue) → (p p' : Progress) → Type 0
StopsBetween fault c c' p p' =
    StopsOver fault (EndsReads c.failures c'.failures c.reads c'.reads c'.left) (c'.failures ≡ c.failures)
    c.writes c'.writes p.line_writes p'.line_writes p.record_writes p'.record_writes

-- The server was asked for what comes after all that was counted, up to the end of the transfer, and all that it gave
-- was written and counted.
abbrev pub EndsVisit : Asking → (c c' : ConnectionValue) → (p p' : Progress) → Type 0
EndsVisit a c c' p p' = EndsCounted (reader_on a.wants p.tally) p'.tally (style_on a p.tally) c.left c'.left
    c.sent c'.sent p.lines p'.lines p.records p'.records

-- The same up to a fault of the dialogue or of reading, which was one; and nothing else failed.
pub record BreaksVisit (a : Asking) (fault : ListingFault) (c c' : ConnectionValue) (p p' : Progress) : Type 0 where
  pub told : is_told_before fault ≡ true
  pub stops : StopsCounted fault (reader_on a.wants p.tally) p'.tally (style_on a p.tally) c.left c'.left
      c.sent c'.sent p.lines p'.lines p.records p'.records
  pub why : StopsBetween fault c c' p p'
  pub keeper : p'.keeper_failures ≡ p.keeper_failures

-- Not all that came could be written or kept, or nothing could be asked. Nothing of it is counted, and the records were
-- written before their lines.
pub record StopsVisit (a : Asking) (fault : ListingFault) (c c' : ConnectionValue) (p p' : Progress) : Type 0 where
  pub untold : is_told_before fault ≡ false
  pub same : p'.tally ≡ p.tally
  pub order : RecordsFirst (reader_on a.wants p.tally) (style_on a p.tally) c.left c'.left p.lines p'.lines
      p.records p'.records
  pub why : StopsBetween fault c c' p p'
  pub keeper : CountsKeeping {T = Unit {0}} (Err fault) p.keeper_failures p'.keeper_failures
  pub plan : fault ≡ Reader Limit → is_plan (plan_on p.tally a.wants) ≡ false

-- ---- one after the other

-- Some connections were made, which broke off and were passed over. At each the server was asked for what comes after
-- all that had been counted and written.
pub data Visits {F : Type 0} (a : Asking) (p : Progress) : List (Call F) → Progress → Type 0 where
  NoVisit : Visits a p [] p
  OneMore : {calls : List (Call F)} {p1 p2 : Progress} → Visits a p calls p1 → (fault : ListingFault)
      → (c c' : ConnectionValue) → BreaksVisit a fault c c' p1 p2
      → Visits a p (calls ++ Connects c ∷ PassesOver fault c' (Ok tt) ∷ []) p2

-- Last of all a server was asked up to the end of the transfer.
pub record EndsVisits {F : Type 0} (a : Asking) (p p' : Progress) (told told' : Option (List (Call F))) : Type 0 where
  pub calls : List (Call F)
  pub before : Progress
  pub visits : Visits a p calls before
  pub from : ConnectionValue
  pub to : ConnectionValue
  pub called : Tells told told' (calls ++ Connects from ∷ Closes to ∷ [])
  pub ends : EndsVisit a from to before p'

-- No connection was made after them.
pub record FailsAfter {F : Type 0} (fault : F) (a : Asking) (p p' : Progress) (told told' : Option (List (Call F)))
    : Type 0 where
  pub calls : List (Call F)
  pub visits : Visits a p calls p'
  pub called : Tells told told' (calls ++ Fails fault ∷ [])

-- The last one broke off too, and no other server was to be asked.
pub record BreaksLast {F : Type 0} (fault : F) (a : Asking) (p p' : Progress) (told told' : Option (List (Call F)))
    : Type 0 where
  pub calls : List (Call F)
  pub before : Progress
  pub visits : Visits a p calls before
  pub why : ListingFault
  pub from : ConnectionValue
  pub to : ConnectionValue
  pub called : Tells told told' (calls ++ Connects from ∷ PassesOver why to (Err fault) ∷ [])
  pub breaks : BreaksVisit a why from to before p'

-- At the last one not all could be written or kept, or nothing could be asked.
pub record StopsLast {F : Type 0} (fault : ListingFault) (a : Asking) (p p' : Progress)
    (told told' : Option (List (Call F))) : Type 0 where
  pub calls : List (Call F)
  pub before : Progress
  pub visits : Visits a p calls before
  pub from : ConnectionValue
  pub to : ConnectionValue
  pub called : Tells told told' (calls ++ Connects from ∷ Closes to ∷ [])
  pub stops : StopsVisit a fault from to before p'

-- So many connections were made that they can't be counted.
pub record ManyVisits {F : Type 0} (fault : ListingFault) (a : Asking) (p p' : Progress)
    (told told' : Option (List (Call F))) : Type 0 where
  pub read : fault ≡ Read
  pub calls : List (Call F)
  pub visits : Visits a p calls p'
  pub called : Tells told told' calls
  pub count : length calls ≡ 2 * (2 ^ 64 - 1)
