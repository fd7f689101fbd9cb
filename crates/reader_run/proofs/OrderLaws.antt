-- Laws over the order in which records and lines are written: a line has its record before it.
use Rattle.std.proofs.Common.{◌≡◌, ℕ, List, [], ◌++◌, refl, sym, ap, subst, ◌∙◌, append_assoc, append-nil, inl, inr}
use Rattle.std.proofs.KnownBytes.{Appends-nil, Appends-trans, Consumes-nil, Consumes-trans, Consumes-kept}
use Rattle.std.specs.Prelude.{Option}
use Rattle.std.specs.Io.KnownBytes.{Appends, Consumes, Keeps}
use Rattle.slreader.specs.Dialogue.{ReaderValue, given_from, read_on}
use Rattle.slreader.proofs.ReadingLaws.{given_from-append}
use Rattle.slreader.proofs.SentLaws.{given_from-sent}
use Rattle.reader_run.specs.Lines.{LineStyle, OutputValue, with_all}
use Rattle.reader_run.specs.Pieces.{TellsFirst, WritesRecordsFirst}
use Rattle.reader_run.specs.Rounds.{ListedTo}
use Rattle.reader_run.specs.Whole.{RecordsFirst, lines_given, records_given}
use Rattle.reader_run.proofs.PieceLaws.{TakenTo}
use Rattle.reader_run.proofs.ReadLaws.{all-adds, lines-append, records-append}

-- ---- one piece

-- what was gone over of a piece is told, whatever comes of the rest
pub tells-first : (r r1 : ReaderValue) (o o1 : OutputValue) (piece left : List ℕ) → TakenTo r r1 o o1 piece left
    → TellsFirst r o o1 piece
tells-first r r1 o o1 piece left t =
    record { bytes = t.bytes; behind = left; parts = t.parts; output = t.goes.output }

-- the same where what is told stays as it was
pub tells-as-before : (r r1 : ReaderValue) (o o1 o2 : OutputValue) (piece left : List ℕ) → TakenTo r r1 o o1 piece left
    → o2 ≡ o1 → TellsFirst r o o2 piece
tells-as-before r r1 o o1 o2 piece left t same =
    subst (λ x. TellsFirst r o x piece) (sym same) (tells-first r r1 o o1 piece left t)

-- ---- before anything is written

pub nothing-written : (r : ReaderValue) (style : LineStyle) (left lines records : Option (List ℕ))
    → RecordsFirst r style left left lines lines records records
nothing-written r style left lines records =
    record {
      came = [];
      behind = [];
      read = Consumes-nil left;
      listed = [];
      later = [];
      given = refl;
      told = ([], [], refl, Appends-nil lines);
      more = [];
      rest = [];
      begun = refl;
      kept = Appends-nil records;
    }

-- ---- all that came is listed

pub listed-first : (r r1 : ReaderValue) (o o1 : OutputValue)
    (left left1 left2 sent sent1 lines lines1 records records1 : Option (List ℕ)) →
    ListedTo r r1 o o1 left left1 sent sent1 lines lines1 records records1 → Keeps left1 left2 →
    RecordsFirst r o.style left left2 lines lines1 records records1
listed-first r r1 o o1 left left1 left2 sent sent1 lines lines1 records records1 t keeps =
    let given = given_from r t.came in
    record {
      came = t.came;
      behind = [];
      read = Consumes-kept left left1 left2 (t.came ++ [])
          (subst (Consumes left left1) (sym (append-nil t.came)) t.read) keeps;
      listed = given;
      later = [];
      given = append-nil given;
      told = (lines_given o.style given, [], sym (append-nil (lines_given o.style given)), t.told);
      more = [];
      rest = [];
      begun = refl;
      kept = subst (Appends records records1) (sym (append-nil (records_given given))) t.kept;
    }

-- ---- a piece more was read, and what it gives was written in part or as a whole

pub written-first : (r r1 : ReaderValue) (o o1 o2 : OutputValue)
    (left left1 left2 sent sent1 lines lines1 lines2 records records1 records2 : Option (List ℕ)) (piece : List ℕ) →
    ListedTo r r1 o o1 left left1 sent sent1 lines lines1 records records1 → TellsFirst r1 o1 o2 piece
    → Consumes left1 left2 piece → WritesRecordsFirst o2 lines1 lines2 records1 records2 →
    RecordsFirst r o.style left left2 lines lines2 records records2
written-first r r1 o o1 o2 left left1 left2 sent sent1 lines lines1 lines2 records records1 records2 piece t tells read
    wrote =
    let before = read_on r t.came in
    let given = given_from before tells.bytes in
    let gives : given_from r1 tells.bytes ≡ given = ap (λ x. given_from x tells.bytes) t.reader
    ∙ given_from-sent before r1.sent tells.bytes in
    let empty : OutputValue = record { style = o.style; lines = []; records = [] } in
    let told_is = tells.output ∙ ap (λ x. with_all x (given_from r1 tells.bytes)) t.output ∙ ap (with_all empty) gives
    ∙ all-adds empty given in
    let lines_are : o2.lines ≡ lines_given o.style given = ap (λ (x : OutputValue). x.lines) told_is in
    let records_are : o2.records ≡ records_given given = ap (λ (x : OutputValue). x.records) told_is in
    let first = given_from r t.came in
    let all : given_from r (t.came ++ tells.bytes) ≡ first ++ given = given_from-append r t.came tells.bytes in
    let whole : t.came ++ piece ≡ (t.came ++ tells.bytes) ++ tells.behind = ap (λ x. t.came ++ x) (sym tells.parts)
    ∙ sym (append_assoc t.came tells.bytes tells.behind) in
    let reads : Consumes left left2 ((t.came ++ tells.bytes) ++ tells.behind) = subst (Consumes left left2) whole
    (Consumes-trans left left1 left2 t.came piece t.read read) in
    elim wrote [
      | inl p ↦ record {
        came = t.came ++ tells.bytes;
        behind = tells.behind;
        read = reads;
        listed = first;
        later = given;
        given = sym all;
        told = (
          lines_given o.style first,
          [],
          sym (append-nil (lines_given o.style first)),
          subst (Appends lines lines2) (append-nil (lines_given o.style first))
              (Appends-trans lines lines1 lines2 (lines_given o.style first) [] t.told p.0),
        );
        more = p.1.0;
        rest = p.1.1;
        begun = sym p.1.2 ∙ records_are;
        kept = Appends-trans records records1 records2 (records_given first) p.1.0 t.kept p.1.3;
      }
      | inr q ↦ record {
        came = t.came ++ tells.bytes;
        behind = tells.behind;
        read = reads;
        listed = first ++ given;
        later = [];
        given = append-nil (first ++ given) ∙ sym all;
        told = (
          lines_given o.style first ++ q.0.0,
          q.0.1,
          lines-append o.style first given
              ∙ ap (λ x. lines_given o.style first ++ x) (sym lines_are ∙ q.0.2)
              ∙ sym (append_assoc (lines_given o.style first) q.0.0 q.0.1),
          Appends-trans lines lines1 lines2 (lines_given o.style first) q.0.0 t.told q.0.3,
        );
        more = [];
        rest = [];
        begun = refl;
        kept = subst (Appends records records2)
            (sym (append-nil (records_given (first ++ given)) ∙ records-append first given))
            (Appends-trans records records1 records2 (records_given first) (records_given given) t.kept
            (subst (Appends records1 records2) records_are q.1));
      }
    ]

-- all of it was written
pub all-written : (r r1 : ReaderValue) (o o1 o2 : OutputValue)
    (left left1 left2 sent sent1 lines lines1 lines2 records records1 records2 : Option (List ℕ)) (piece : List ℕ) →
    ListedTo r r1 o o1 left left1 sent sent1 lines lines1 records records1 → TellsFirst r1 o1 o2 piece
    → Consumes left1 left2 piece → Appends lines1 lines2 o2.lines → Appends records1 records2 o2.records →
    RecordsFirst r o.style left left2 lines lines2 records records2
all-written r r1 o o1 o2 left left1 left2 sent sent1 lines lines1 lines2 records records1 records2 piece t tells read
    told kept =
    written-first r r1 o o1 o2 left left1 left2 sent sent1 lines lines1 lines2 records records1 records2 piece t tells
    read (inr ((o2.lines, [], sym (append-nil o2.lines), told), kept))

-- the same of another reader and other lines, where they are equal
pub first-as : (r r' : ReaderValue) (style style' : LineStyle)
    (left left' lines lines' records records' : Option (List ℕ)) → r ≡ r' → style ≡ style' →
    RecordsFirst r style left left' lines lines' records records' →
    RecordsFirst r' style' left left' lines lines' records records'
first-as r r' style style' left left' lines lines' records records' same alike h =
    subst (λ x. RecordsFirst x style' left left' lines lines' records records') same
    (subst (λ x. RecordsFirst r x left left' lines lines' records records') alike h)
