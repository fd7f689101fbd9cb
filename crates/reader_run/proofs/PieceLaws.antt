-- Laws over what is told of a piece, and over pieces one after the other.
use Rattle.std.proofs.Common.{◌≡◌, ◌≢◌, ◌-◌, ℕ, List, [], ◌∷◌, ◌++◌, take, drop, length, Some, None, true, false}
use Rattle.std.proofs.Common.{refl, sym, ap, ◌∙◌, append_assoc, append-nil, arith, take-append-drop, length-drop}
use Rattle.std.proofs.lemmas.List.{take_all}
use Rattle.std.specs.Prelude.{Option}
use Rattle.std.specs.Option.{option_to_list}
use Rattle.slreader.specs.declared.fault.ReaderFault.{ReaderFault}
use Rattle.slreader.specs.declared.fault.ReaderFault.TheVariants.{Limit}
use Rattle.slreader.specs.Dialogue.{ReaderValue, Stage, Given, given_from, read_on, read_first, outcome_of, outcome_in}
use Rattle.slreader.specs.Dialogue.{outcome_at}
use Rattle.slreader.specs.Dialogue.Stage.{FirstLine, SecondLine, Answer, Transfer, Over, Failed}
use Rattle.slreader.specs.Dialogue.Given.{End}
use Rattle.slreader.specs.Dialogue.Outcome.{Gave, Stopped}
use Rattle.slreader.proofs.FaultLaws.{read-no-limit}
use Rattle.slreader.proofs.ReadingLaws.{read_on-append, given_from-append, first_reader, first_given, first_all}
use Rattle.slreader.proofs.ReadingLaws.{gave_is, end_first}
use Rattle.reader_run.specs.Lines.{OutputValue, with_given, with_all, told}
use Rattle.reader_run.specs.Pieces.{GoesOver, Takes, FailsIn}

-- ---- things given one after the other

pub with_all-append : (o : OutputValue) (gs hs : List Given) → with_all o (gs ++ hs) ≡ with_all (with_all o gs) hs
with_all-append o [] hs = refl
with_all-append o (g ∷ gs) hs = with_all-append (with_given o g) gs hs

with_all-option : (o : OutputValue) (g : Option Given) → with_all o (option_to_list g) ≡ told o g
with_all-option o None = refl
with_all-option o (Some g) = refl

-- ---- one more part of a piece

-- The first bytes of the piece were gone over, and the others are left.
pub record TakenTo (r r1 : ReaderValue) (o o1 : OutputValue) (piece left : List ℕ) : Type 0 where
  pub bytes : List ℕ
  pub parts : bytes ++ left ≡ piece
  pub goes : GoesOver r r1 o o1 bytes

-- From where `r` and `o` are, the part that a call reads goes on.
pub goes-on : (r r1 : ReaderValue) (o o1 : OutputValue) (bytes left : List ℕ) → GoesOver r r1 o o1 bytes →
    GoesOver r (read_first r1 left).reader o (told o1 (read_first r1 left).given)
    (bytes ++ take (read_first r1 left).used left)
goes-on r r1 o o1 bytes left goes =
    let part = take (read_first r1 left).used left in
    record {
      reader = first_reader r1 left ∙ ap (λ x. read_on x part) goes.reader ∙ sym (read_on-append r bytes part);
      output =
          sym (with_all-option o1 (read_first r1 left).given)
          ∙ ap (with_all o1) (sym (first_given r1 left) ∙ ap (λ x. given_from x part) goes.reader)
          ∙ ap (λ x. with_all x (given_from (read_on r bytes) part)) goes.output
          ∙ sym (with_all-append o (given_from r bytes) (given_from (read_on r bytes) part))
          ∙ ap (with_all o) (sym (given_from-append r bytes part));
    }

-- the same, said of the reader and of what is told after the call
goes-to : (r r1 r2 : ReaderValue) (o o1 o2 : OutputValue) (bytes left more : List ℕ) → GoesOver r r1 o o1 bytes →
    r2 ≡ (read_first r1 left).reader → o2 ≡ told o1 (read_first r1 left).given →
    bytes ++ take (read_first r1 left).used left ≡ more → GoesOver r r2 o o2 more
goes-to r r1 r2 o o1 o2 bytes left more goes reader output all =
    let on = goes-on r r1 o o1 bytes left goes in
    record {
      reader = reader ∙ on.reader ∙ ap (read_on r) all;
      output = output ∙ on.output ∙ ap (λ x. with_all o (given_from r x)) all;
    }

-- ---- nothing more is given

takes-all : (r r1 r2 : ReaderValue) (o o1 : OutputValue) (piece left : List ℕ) → TakenTo r r1 o o1 piece left →
    (read_first r1 left).given ≡ None → r2 ≡ (read_first r1 left).reader → GoesOver r r2 o o1 piece
takes-all r r1 r2 o o1 piece left t none reader =
    let used : (read_first r1 left).used ≡ length left = first_all r1 left none in
    let whole : take (read_first r1 left).used left ≡ left = ap (λ n. take n left) used
    ∙ take_all (length left) left (omega arith) in
    goes-to r r1 r2 o o1 o1 t.bytes left piece t.goes reader (sym (ap (told o1) none))
    (ap (λ x. t.bytes ++ x) whole ∙ t.parts)

takes-piece : (r r2 : ReaderValue) (o o2 : OutputValue) (piece : List ℕ) → GoesOver r r2 o o2 piece
    → Takes r r2 o o2 piece false
takes-piece r r2 o o2 piece goes =
    record {
      bytes = piece;
      behind = [];
      parts = append-nil piece;
      goes = goes;
      all = λ _. refl;
      over = λ h. absurd (let other : true ≡ false = sym h in cc);
    }

pub takes-nothing : (r r1 r2 : ReaderValue) (o o1 : OutputValue) (piece left : List ℕ) (used : ℕ)
    → TakenTo r r1 o o1 piece left →
    Gave used None ≡ outcome_of (read_first r1 left) → r2 ≡ (read_first r1 left).reader → Takes r r2 o o1 piece false
takes-nothing r r1 r2 o o1 piece left used t e reader =
    takes-piece r r2 o o1 piece
    (takes-all r r1 r2 o o1 piece left t (sym (gave_is used None (read_first r1 left) e).1) reader)

-- ---- a fault

stopped_at : (n : ℕ) (s : Stage) (fault : ReaderFault) → Stopped fault ≡ outcome_at n s → s ≡ Failed fault
stopped_at n (FirstLine count after_cr) fault e = absurd cc
stopped_at n (SecondLine count after_cr) fault e = absurd cc
stopped_at n (Answer want count is_error) fault e = absurd cc
stopped_at n (Transfer rest) fault e = absurd cc
stopped_at n Over fault e = absurd cc
stopped_at n (Failed other) fault e = cc

stopped_in : (n : ℕ) (h : Option Given) (s : Stage) (fault : ReaderFault) → Stopped fault ≡ outcome_in n h s
    → (h ≡ None) × (s ≡ Failed fault)
stopped_in n None s fault e = (refl, stopped_at n s fault e)
stopped_in n (Some g) s fault e = absurd cc

pub fails-in : (r r1 r2 : ReaderValue) (o o1 : OutputValue) (piece left : List ℕ) (fault : ReaderFault)
    → TakenTo r r1 o o1 piece left →
    Stopped fault ≡ outcome_of (read_first r1 left) → r2 ≡ (read_first r1 left).reader → FailsIn r r2 o o1 piece fault
fails-in r r1 r2 o o1 piece left fault t e reader =
    let why = stopped_in (read_first r1 left).used (read_first r1 left).given
    (read_first r1 left).reader.stage fault e in
    let goes = takes-all r r1 r2 o o1 piece left t why.0 reader in
    record {
      goes = goes;
      stage = ap (λ (x : ReaderValue). x.stage) (sym goes.reader ∙ reader) ∙ why.1;
    }

-- ---- something is given

-- The part that was read and what is left of the piece are what was left before.
parts-on : (bytes left piece : List ℕ) (n : ℕ) → bytes ++ left ≡ piece → (bytes ++ take n left) ++ drop n left ≡ piece
parts-on bytes left piece n parts =
    append_assoc bytes (take n left) (drop n left) ∙ ap (λ x. bytes ++ x) (take-append-drop n left) ∙ parts

pub taken-on : (r r1 r2 : ReaderValue) (o o1 o2 : OutputValue) (piece left : List ℕ) (used : ℕ) (g : Option Given)
    → TakenTo r r1 o o1 piece left →
    Gave used g ≡ outcome_of (read_first r1 left) → r2 ≡ (read_first r1 left).reader → o2 ≡ told o1 g →
    TakenTo r r2 o o2 piece (take (length left - used) (drop used left))
taken-on r r1 r2 o o1 o2 piece left used g t e reader output =
    let gave = gave_is used g (read_first r1 left) e in
    let size : length (drop used left) ≡ length left - used = length-drop used left in
    let rest : take (length left - used) (drop used left)
    ≡ drop used left = take_all (length left - used) (drop used left) (omega (arith, size)) in
    record {
      bytes = t.bytes ++ take used left;
      parts = ap (λ x. (t.bytes ++ take used left) ++ x) rest ∙ parts-on t.bytes left piece used t.parts;
      goes = goes-to r r1 r2 o o1 o2 t.bytes left (t.bytes ++ take used left) t.goes reader
          (output ∙ ap (told o1) gave.1) (ap (λ n. t.bytes ++ take n left) (sym gave.0));
    }

-- ---- the end

pub takes-end : (r r1 r2 : ReaderValue) (o o1 : OutputValue) (piece left : List ℕ) (used : ℕ)
    → TakenTo r r1 o o1 piece left →
    Gave used (Some End) ≡ outcome_of (read_first r1 left) → r2 ≡ (read_first r1 left).reader
    → Takes r r2 o o1 piece true
takes-end r r1 r2 o o1 piece left used t e reader =
    let gave = gave_is used (Some End) (read_first r1 left) e in
    let on = taken-on r r1 r2 o o1 o1 piece left used (Some End) t e reader refl in
    record {
      bytes = on.bytes;
      behind = take (length left - used) (drop used left);
      parts = on.parts;
      goes = on.goes;
      all = λ h. absurd (let other : true ≡ false = h in cc);
      over = λ _. ap (λ (x : ReaderValue). x.stage) (sym on.goes.reader ∙ reader) ∙ end_first r1 left (sym gave.1);
    }

-- ---- no fault of the plan comes late

pub taken-no-limit : (r r1 : ReaderValue) (o o1 : OutputValue) (piece left : List ℕ) (fault : ReaderFault)
    → TakenTo r r1 o o1 piece left →
    Stopped fault ≡ outcome_of (read_first r1 left) → r.stage ≢ Failed Limit → fault ≢ Limit
taken-no-limit r r1 o o1 piece left fault t e h is =
    let why = stopped_in (read_first r1 left).used (read_first r1 left).given
    (read_first r1 left).reader.stage fault e in
    let failed : (read_first r1 left).reader.stage ≡ Failed Limit = why.1 ∙ ap Failed is in
    read-no-limit r (t.bytes ++ take (read_first r1 left).used left) h
    (ap (λ (x : ReaderValue). x.stage) (sym (goes-on r r1 o o1 t.bytes left t.goes).reader) ∙ failed)
