-- Laws over records that wait beside the lines that are told.
use Rattle.std.proofs.Common.{◌≡◌, ◌-◌, ℕ, List, take, drop, length, [], Some, None, Ok, Err, refl, sym, ap, subst, ◌∙◌}
use Rattle.std.specs.Prelude.{Bool, Option, Result, IfErr, IfOk}
use Rattle.slreader.specs.declared.fault.ReaderFault.{ReaderFault}
use Rattle.slreader.specs.declared.fault.ReaderFault.TheVariants as code
use Rattle.reader_run.specs.declared.record_sink.SinkFault.{SinkFault}
use Rattle.reader_run.specs.declared.record_sink.SinkFault.TheVariants.{OutOfMemory, Write}
use Rattle.std.specs.Io.KnownBytes.{Appends}
use Rattle.sl_io.specs.Counts.{StopsWriting}
use Rattle.sl_io.specs.Known.{AppendsBeginning}
use Rattle.slreader.specs.Dialogue.{Given, ReaderValue, read_first, outcome_of}
use Rattle.slreader.specs.Dialogue.Given.{Hello, Refused, Packet, End}
use Rattle.slreader.specs.Dialogue.Outcome.{Gave}
use Rattle.reader_run.specs.Lines.{OutputValue, beside, record_of, told, with_lines, with_records}
use Rattle.reader_run.specs.Pieces.{FailsPiece, StopsPiece, TakesPiece}
use Rattle.reader_run.specs.Rounds.{FailsInBlock, TakesBlock}
use Rattle.reader_run.specs.Takes.{StopsGiven, StopsTake}
use Rattle.reader_run.proofs.OrderLaws.{tells-as-before, tells-first}
use Rattle.reader_run.proofs.PieceLaws.{TakenTo, taken-on}

-- The first bytes of the piece were gone over, the others are left, and the records of what is told wait.
pub record TakenBeside (r r1 : ReaderValue) (o o1 : OutputValue) (piece left : List ℕ) (waits : List ℕ → Type 0)
    : Type 0 where
  pub records : List ℕ
  pub taken : TakenTo r r1 o (beside o1 records) piece left
  pub waiting : waits records

-- what was given is told, line and record
pub told-beside : (o : OutputValue) (records : List ℕ) (g : Option Given)
    → beside (with_lines o g) (with_records records g) ≡ told (beside o records) g
told-beside o records None = refl
told-beside o records (Some Hello) = refl
told-beside o records (Some (Refused want)) = refl
told-beside o records (Some (Packet packet)) = refl
told-beside o records (Some End) = refl

-- its records are those that waited and that of what was given
pub records-told : (o : OutputValue) (records : List ℕ) (g : Option Given)
    → (told (beside o records) g).records ≡ with_records records g
records-told o records g = ap (λ (x : OutputValue). x.records) (sym (told-beside o records g))

-- ---- a packet, and what was given

-- what stopped the taking of a record stopped the giving of its packet
given-as : (fault : SinkFault) (waits waits' : List ℕ → Type 0) (packet : List ℕ) (written written' : Option (List ℕ))
    (f f' e e' : ℕ) → StopsTake fault waits waits' (record_of packet) written written' f f' e e'
    → StopsGiven fault waits waits' (Some (Packet packet)) written written' f f' e e'
given-as OutOfMemory waits waits' packet written written' f f' e e' h = h
given-as Write waits waits' packet written written' f f' e e' h = record { begun = h.begun; stopped = h.stopped }

pub given-taken : (fault : SinkFault) (waits waits' : List ℕ → Type 0) (packet : List ℕ) (g : Option Given)
    (written written' : Option (List ℕ)) (f f' e e' : ℕ) → g ≡ Some (Packet packet)
    → StopsTake fault waits waits' (record_of packet) written written' f f' e e'
    → StopsGiven fault waits waits' g written written' f f' e e'
given-taken fault waits waits' packet g written written' f f' e e' is h =
    subst (λ x. StopsGiven fault waits waits' x written written' f f' e e') (sym is)
    (given-as fault waits waits' packet written written' f f' e e' h)

-- ---- a part of a piece more

-- something was given, and its record waits
pub beside-on : (r r1 r2 : ReaderValue) (o o1 o2 : OutputValue) (piece left : List ℕ) (used : ℕ) (g : Option Given)
    (waits waits' : List ℕ → Type 0) → TakenBeside r r1 o o1 piece left waits →
    Gave used g ≡ outcome_of (read_first r1 left) → r2 ≡ (read_first r1 left).reader → o2 ≡ with_lines o1 g →
    ((records : List ℕ) → waits records → waits' (with_records records g)) →
    TakenBeside r r2 o o2 piece (take (length left - used) (drop used left)) waits'
beside-on r r1 r2 o o1 o2 piece left used g waits waits' t gave reader lines more =
    record {
      records = with_records t.records g;
      taken = taken-on r r1 r2 o (beside o1 t.records) (beside o2 (with_records t.records g)) piece left used g t.taken
          gave reader (ap (λ x. beside x (with_records t.records g)) lines ∙ told-beside o1 t.records g);
      waiting = more t.records t.waiting;
    }

-- something was given, and not all records could be written
pub stops-given : (r r1 r2 : ReaderValue) (o o1 : OutputValue) (piece left : List ℕ) (used : ℕ) (g : Option Given)
    (fault : SinkFault) (waits waits' : List ℕ → Type 0) (w0 w w' : Option (List ℕ)) (f0 f f' e0 e e' : ℕ) →
    TakenBeside r r1 o o1 piece left waits → Gave used g ≡ outcome_of (read_first r1 left)
    → r2 ≡ (read_first r1 left).reader → fault ≡ Write → StopsGiven fault waits waits' g w w' f f' e e' →
    w ≡ w0 → f ≡ f0 → e ≡ e0 → StopsPiece r o piece w0 w' f0 f' e0 e'
stops-given r r1 r2 o o1 piece left used g fault waits waits' w0 w w' f0 f f' e0 e e' t gave reader is h same fails empty
    =
    let part = subst (λ x. StopsGiven x waits waits' g w w' f f' e e') is h in
    let on = taken-on r r1 r2 o (beside o1 t.records) (told (beside o1 t.records) g) piece left used g t.taken gave
    reader refl in
    let begun = subst (AppendsBeginning w w') (sym (records-told o1 t.records g)) (part.begun t.records t.waiting) in
    record {
      told = told (beside o1 t.records) g;
      first = tells-first r r2 o (told (beside o1 t.records) g) piece _ on;
      begun = subst (λ x. AppendsBeginning x w' (told (beside o1 t.records) g).records) same begun;
      stopped = subst (λ x. StopsWriting x f' e0 e') fails (subst (λ x. StopsWriting f f' x e') empty part.stopped);
    }

-- there was no memory for what was given
pub none-given : (r r1 r2 : ReaderValue) (o o1 o2 : OutputValue) (piece left : List ℕ) (fault : SinkFault)
    (waits waits' : List ℕ → Type 0) (g : Option Given) (w w' : Option (List ℕ)) (f f' e e' : ℕ) →
    TakenBeside r r1 o o1 piece left waits → o2 ≡ o1 → fault ≡ OutOfMemory →
    StopsGiven fault waits waits' g w w' f f' e e' →
    FailsPiece r r2 o o2 piece code.OutOfMemory waits'
none-given r r1 r2 o o1 o2 piece left fault waits waits' g w w' f f' e e' t same is h =
    let none = subst (λ x. StopsGiven x waits waits' g w w' f f' e e') is h in
    record {
      records = t.records;
      fails = λ other. absurd (other refl);
      late = λ is. absurd cc;
      first = tells-as-before r r1 o (beside o1 t.records) (beside o2 t.records) piece left t.taken
          (ap (λ x. beside x t.records) same);
      waiting = none.waiting t.records t.waiting;
    }

-- ---- before the first part

-- nothing was gone over, and nothing waits
pub beside-first : (r : ReaderValue) (o : OutputValue) (piece : List ℕ) (waits : List ℕ → Type 0) → o.records ≡ []
    → waits [] → TakenBeside r r o o piece piece waits
beside-first r o piece waits empty nothing =
    record {
      records = [];
      taken = record {
        bytes = [];
        parts = refl;
        goes = record { reader = refl; output = ap (beside o) (sym empty) };
      };
      waiting = nothing;
    }

-- ---- a piece as a whole

-- What was written after two calls that wrote nothing was written after the first of them began.
pub appends-from : (w0 w1 w2 w' : Option (List ℕ)) (bytes : List ℕ) → w1 ≡ w0 → w2 ≡ w1 → Appends w2 w' bytes
    → Appends w0 w' bytes
appends-from w0 w1 w2 w' bytes begun taken h =
    subst (λ x. Appends x w' bytes) (taken ∙ begun) h

-- all that a piece gives was taken, and then written
pub takes-written : (r r' : ReaderValue) (o o' o2 : OutputValue) (piece : List ℕ) (taken : Result Bool ReaderFault)
    (is_over : Bool) (waits : List ℕ → Type 0) (lines lines' w0 w1 w2 w' : Option (List ℕ)) →
    taken ≡ Ok is_over → IfOk taken (λ b. TakesPiece r r' o o' piece b waits) → Appends lines lines' o'.lines
    → ((records : List ℕ) → waits records → Appends w2 w' records) → o2 ≡ record o' { lines = []; records = [] }
    → w1 ≡ w0 → w2 ≡ w1 → TakesBlock r r' o o2 piece is_over lines lines' w0 w'
takes-written r r' o o' o2 piece taken is_over waits lines lines' w0 w1 w2 w' is h listed kept cleared begun same =
    let t : TakesPiece r r' o o' piece is_over waits = subst (λ x. IfOk x (λ b. TakesPiece r r' o o' piece b waits)) is h
    in
    record {
      told = beside o' t.records;
      takes = t.takes;
      written = record {
        first = t.first;
        listed = listed;
        kept = appends-from w0 w1 w2 w' t.records begun same (kept t.records t.waiting);
        cleared = cleared;
      };
    }

-- the same up to a fault
pub fails-written : (r r' : ReaderValue) (o o' o2 : OutputValue) (piece : List ℕ) (taken : Result Bool ReaderFault)
    (fault : ReaderFault) (waits : List ℕ → Type 0) (lines lines' w0 w1 w2 w' : Option (List ℕ)) →
    taken ≡ Err fault → IfErr taken (λ f. FailsPiece r r' o o' piece f waits) → Appends lines lines' o'.lines
    → ((records : List ℕ) → waits records → Appends w2 w' records) → o2 ≡ record o' { lines = []; records = [] }
    → w1 ≡ w0 → w2 ≡ w1 → FailsInBlock fault r r' o o2 piece lines lines' w0 w'
fails-written r r' o o' o2 piece taken fault waits lines lines' w0 w1 w2 w' is h listed kept cleared begun same =
    let t : FailsPiece r r' o o' piece fault waits = subst (λ x. IfErr x (λ f. FailsPiece r r' o o' piece f waits)) is h
    in
    record {
      told = beside o' t.records;
      fails = t.fails;
      late = t.late;
      written = record {
        first = t.first;
        listed = listed;
        kept = appends-from w0 w1 w2 w' t.records begun same (kept t.records t.waiting);
        cleared = cleared;
      };
    }
