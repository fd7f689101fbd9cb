-- Laws over reads, one after the other: what was read, sent and told so far.
use Rattle.std.proofs.Common.{◌≡◌, ◌≢◌, ◌≤◌, ◌+◌, ◌-◌, ℕ, List, [], ◌∷◌, ◌++◌, take, drop, length, Some, None, true}
use Rattle.std.proofs.Common.{false, refl, sym, ap, ap₂, subst, ◌∙◌, append_assoc, append-nil, arith, take-append-drop}
use Rattle.std.proofs.Common.{length-append, length-drop}
use Rattle.std.proofs.lemmas.List.{take_all, drop_all, drop-append-le, take-append-le, length-take-le}
use Rattle.std.proofs.KnownBytes.{Appends-nil, Appends-trans, Consumes-nil, Consumes-trans, Consumes-kept, Keeps-refl}
use Rattle.std.specs.Prelude.{Option}
use Rattle.std.specs.Io.KnownBytes.{Appends, Consumes, Keeps, prepend_known}
use Rattle.slreader.specs.declared.fault.ReaderFault.{ReaderFault}
use Rattle.slreader.specs.declared.fault.ReaderFault.TheVariants.{Limit, OutOfMemory, NotAPacket, AllRefused, BadReply}
use Rattle.slreader.specs.Dialogue.{ReaderValue, Given, given_from, read_on}
use Rattle.slreader.specs.Dialogue.Given.{Hello, Refused, Packet, End}
use Rattle.slreader.specs.Dialogue.Stage.{Failed}
use Rattle.slreader.specs.Tallies.{TallyValue}
use Rattle.slreader.proofs.SentLaws.{with_sent, read_on-sent, given_from-sent, asked-grows}
use Rattle.slreader.proofs.FaultLaws.{read-no-limit}
use Rattle.slreader.proofs.ReadingLaws.{read_on-append, given_from-append}
use Rattle.reader_run.specs.declared.fault.ListingFault.{ListingFault}
use Rattle.reader_run.specs.declared.fault.ListingFault.TheVariants.{Reader}
use Rattle.reader_run.specs.Lines.{LineStyle, OutputValue, refusal_at, with_given, with_all}
use Rattle.reader_run.specs.Pieces.{GoesOver, Takes, FailsIn}
use Rattle.reader_run.specs.Rounds.{ListedTo}
use Rattle.reader_run.specs.Whole.{EndsCounted, IsWhy, StopsCounted, is_told_before, line_given, lines_given}
use Rattle.reader_run.specs.Whole.{record_given, records_given}

-- ---- what is told of things given one after the other

pub lines-append : (style : LineStyle) (gs hs : List Given)
    → lines_given style (gs ++ hs) ≡ lines_given style gs ++ lines_given style hs
lines-append style [] hs = refl
lines-append style (g ∷ gs) hs =
    ap (λ x. line_given style g ++ x) (lines-append style gs hs)
    ∙ sym (append_assoc (line_given style g) (lines_given style gs) (lines_given style hs))

pub records-append : (gs hs : List Given) → records_given (gs ++ hs) ≡ records_given gs ++ records_given hs
records-append [] hs = refl
records-append (g ∷ gs) hs =
    ap (λ x. record_given g ++ x) (records-append gs hs)
    ∙ sym (append_assoc (record_given g) (records_given gs) (records_given hs))

-- what is told after some lines and records
abbrev pub told_after : OutputValue → (lines records : List ℕ) → OutputValue
told_after o lines records = record { style = o.style; lines = o.lines ++ lines; records = o.records ++ records }

nothing-added : (o : OutputValue) → o ≡ told_after o [] []
nothing-added o = ap₂ (λ l k. record { style = o.style; lines = l; records = k }) (sym (append-nil o.lines))
    (sym (append-nil o.records))

-- One thing that is given adds its line and its record.
given-adds : (o : OutputValue) (g : Given) → with_given o g ≡ told_after o (line_given o.style g) (record_given g)
given-adds o Hello = nothing-added o
given-adds o (Refused want) =
    ap (λ k. record { style = o.style; lines = o.lines ++ refusal_at o.style.refusals want; records = k })
    (sym (append-nil o.records))
given-adds o (Packet packet) = refl
given-adds o End = nothing-added o

pub all-adds : (o : OutputValue) (gs : List Given)
    → with_all o gs ≡ told_after o (lines_given o.style gs) (records_given gs)
all-adds o [] = nothing-added o
all-adds o (g ∷ gs) =
    ap (λ x. with_all x gs) (given-adds o g)
    ∙ all-adds (told_after o (line_given o.style g) (record_given g)) gs
    ∙ ap₂ (λ l k. record { style = o.style; lines = l; records = k })
    (append_assoc o.lines (line_given o.style g) (lines_given o.style gs))
    (append_assoc o.records (record_given g) (records_given gs))

-- ---- what is asked and what of it was sent

-- what was sent before, and then the rest of what is asked
join : (from s : ℕ) (asked : List ℕ) → from ≤ s → s ≤ length asked
    → drop from (take s asked) ++ drop s asked ≡ drop from asked
join from s asked h k =
    let size : length (take s asked) ≡ s = length-take-le s asked k in
    sym (drop-append-le from (take s asked) (drop s asked) (omega (arith, size)))
    ∙ ap (drop from) (take-append-drop s asked)

-- at the beginning
pub listed-none : (r : ReaderValue) (o : OutputValue) (left sent lines records : Option (List ℕ))
    → r.sent ≤ length r.asked → o.lines ≡ [] → o.records ≡ [] →
    ListedTo r r o o left left sent sent lines lines records records
listed-none r o left sent lines records within no_lines no_records =
    let size : length (take r.sent r.asked) ≡ r.sent = length-take-le r.sent r.asked within in
    let none : drop r.sent (take r.sent r.asked) ≡ [] = drop_all r.sent (take r.sent r.asked) (omega (arith, size)) in
    record {
      came = [];
      read = Consumes-nil left;
      reader = refl;
      from = omega arith;
      within = within;
      asked = subst (Appends sent sent) (sym none) (Appends-nil sent);
      told = Appends-nil lines;
      kept = Appends-nil records;
      output = ap₂ (λ (l k : List ℕ). record { style = o.style; lines = l; records = k }) no_lines no_records;
    }

-- ---- all that is asked is sent

pub all-sent : (r r1 : ReaderValue) (o o1 : OutputValue)
    (left left1 sent sent1 sent2 lines lines1 records records1 : Option (List ℕ)) →
    (t : ListedTo r r1 o o1 left left1 sent sent1 lines lines1 records records1)
    → Appends sent1 sent2 (drop r1.sent r1.asked) →
    Appends sent sent2 (drop r.sent (read_on r t.came).asked)
all-sent r r1 o o1 left left1 sent sent1 sent2 lines lines1 records records1 t more =
    let asked : r1.asked ≡ (read_on r t.came).asked = ap (λ (x : ReaderValue). x.asked) t.reader in
    subst (Appends sent sent2) (join r.sent r1.sent (read_on r t.came).asked t.from t.within)
    (Appends-trans sent sent1 sent2 _ _ t.asked (subst (λ x. Appends sent1 sent2 (drop r1.sent x)) asked more))

pub listed-sent : (r r1 r2 : ReaderValue) (o o1 : OutputValue)
    (left left1 sent sent1 sent2 lines lines1 records records1 : Option (List ℕ)) →
    ListedTo r r1 o o1 left left1 sent sent1 lines lines1 records records1 → Appends sent1 sent2 (drop r1.sent r1.asked)
    →
    r2 ≡ record r1 { sent = r1.sent + length (drop r1.sent r1.asked) } →
    ListedTo r r2 o o1 left left1 sent sent2 lines lines1 records records1
listed-sent r r1 r2 o o1 left left1 sent sent1 sent2 lines lines1 records records1 t more is =
    let asked : r1.asked ≡ (read_on r t.came).asked = ap (λ (x : ReaderValue). x.asked) t.reader in
    let total : r2.sent ≡ r1.sent + length (drop r1.sent r1.asked) = ap (λ (x : ReaderValue). x.sent) is in
    let rest : length (drop r1.sent r1.asked) ≡ length r1.asked - r1.sent = length-drop r1.sent r1.asked in
    let size : length r1.asked ≡ length (read_on r t.came).asked = ap length asked in
    let whole : take r2.sent (read_on r t.came).asked
    ≡ (read_on r t.came).asked = take_all r2.sent (read_on r t.came).asked
    (let within = t.within in omega (arith, total, rest, size, within)) in
    record {
      came = t.came;
      read = t.read;
      reader = is ∙ ap (λ x. with_sent x (r1.sent + length (drop r1.sent r1.asked))) t.reader
          ∙ ap (with_sent (read_on r t.came)) (sym total);
      from = let from = t.from in omega (arith, total, from);
      within = let within = t.within in omega (arith, total, rest, size, within);
      asked = subst (λ x. Appends sent sent2 (drop r.sent x)) (sym whole)
          (all-sent r r1 o o1 left left1 sent sent1 sent2 lines lines1 records records1 t more);
      told = t.told;
      kept = t.kept;
      output = t.output;
    }

-- ---- a piece more was read

pub listed-on : (r r1 r2 : ReaderValue) (o o1 o2 o3 : OutputValue)
    (left left1 left2 sent sent1 lines lines1 lines2 records records1 records2 : Option (List ℕ)) (bytes : List ℕ) →
    ListedTo r r1 o o1 left left1 sent sent1 lines lines1 records records1 → GoesOver r1 r2 o1 o2 bytes
    → Consumes left1 left2 bytes →
    Appends lines1 lines2 o2.lines → Appends records1 records2 o2.records → o3 ≡ record o2 { lines = []; records = [] }
    →
    ListedTo r r2 o o3 left left2 sent sent1 lines lines2 records records2
listed-on r r1 r2 o o1 o2 o3 left left1 left2 sent sent1 lines lines1 lines2 records records1 records2 bytes t goes read
    told kept output =
    let before = read_on r t.came in
    let given = given_from before bytes in
    let led : r2 ≡ with_sent (read_on r (t.came ++ bytes)) r1.sent =
    goes.reader ∙ ap (λ x. read_on x bytes) t.reader ∙ read_on-sent before r1.sent bytes
    ∙ ap (λ x. with_sent x r1.sent) (sym (read_on-append r t.came bytes)) in
    let same : r2.sent ≡ r1.sent = ap (λ (x : ReaderValue). x.sent) led in
    let gives : given_from r1 bytes ≡ given = ap (λ x. given_from x bytes) t.reader
    ∙ given_from-sent before r1.sent bytes in
    let told_is : o2 ≡ told_after (record { style = o.style; lines = []; records = [] })
    (lines_given o.style given) (records_given given) =
    goes.output ∙ ap₂ with_all t.output gives
    ∙ all-adds (record { style = o.style; lines = []; records = [] }) given in
    let all : given_from r (t.came ++ bytes) ≡ given_from r t.came ++ given = given_from-append r t.came bytes in
    let grown = asked-grows before bytes in
    let asked : (read_on r (t.came ++ bytes)).asked
    ≡ before.asked ++ grown.0 = ap (λ (x : ReaderValue). x.asked) (read_on-append r t.came bytes) ∙ grown.1 in
    let first : take r2.sent (read_on r (t.came ++ bytes)).asked ≡ take r1.sent before.asked =
    ap₂ take same asked ∙ take-append-le r1.sent before.asked grown.0 t.within in
    let longer : length (read_on r (t.came ++ bytes)).asked ≡ length before.asked + length grown.0 = ap length asked
    ∙ length-append before.asked grown.0 in
    record {
      came = t.came ++ bytes;
      read = Consumes-trans left left1 left2 t.came bytes t.read read;
      reader = led ∙ ap (with_sent (read_on r (t.came ++ bytes))) (sym same);
      from = let from = t.from in omega (arith, same, from);
      within = let within = t.within in omega (arith, same, within, longer);
      asked = subst (λ x. Appends sent sent1 (drop r.sent x)) (sym first) t.asked;
      told =
          subst (Appends lines lines2)
          (sym (ap (lines_given o.style) all ∙ lines-append o.style (given_from r t.came) given))
          (Appends-trans lines lines1 lines2 _ _ t.told
          (subst (Appends lines1 lines2) (ap (λ (x : OutputValue). x.lines) told_is) told));
      kept = subst (Appends records records2) (sym (ap records_given all ∙ records-append (given_from r t.came) given))
          (Appends-trans records records1 records2 _ _ t.kept
          (subst (Appends records1 records2) (ap (λ (x : OutputValue). x.records) told_is) kept));
      output = output ∙ ap (λ (x : OutputValue). record x { lines = []; records = [] }) told_is;
    }

-- ---- the end

-- what was read behind the end, as if it were left
pub put-back : (left1 left2 : Option (List ℕ)) (bytes behind : List ℕ) → Consumes left1 left2 (bytes ++ behind)
    → Consumes left1 (prepend_known behind left2) bytes
put-back None left2 bytes behind h = tt
put-back (Some x) None bytes behind h = absurd h
put-back (Some x) (Some y) bytes behind h = h ∙ append_assoc bytes behind y

take-back : (left left2 : Option (List ℕ)) (came behind : List ℕ) → Consumes left (prepend_known behind left2) came
    → Consumes left left2 (came ++ behind)
take-back None left2 came behind h = tt
take-back (Some x) None came behind h = absurd h
take-back (Some x) (Some y) came behind h = h ∙ sym (append_assoc came behind y)

pub ends : (r r1 r2 : ReaderValue) (o o1 o2 o3 : OutputValue)
    (left left1 left2 sent sent1 sent2 lines lines1 lines2 records records1 records2 : Option (List ℕ)) (piece : List ℕ)
    →
    ListedTo r r1 o o1 left left1 sent sent1 lines lines1 records records1 → Takes r1 r2 o1 o2 piece true
    → Consumes left1 left2 piece →
    Appends lines1 lines2 o2.lines → Appends records1 records2 o2.records → o3 ≡ record o2 { lines = []; records = [] }
    →
    Appends sent1 sent2 (drop r2.sent r2.asked) → (tally : TallyValue) → tally ≡ r2.tally →
    EndsCounted r tally o.style left left2 sent sent2 lines lines2 records records2
ends r r1 r2 o o1 o2 o3 left left1 left2 sent sent1 sent2 lines lines1 lines2 records records1 records2 piece t takes
    read told kept output more tally is =
    let back = put-back left1 left2 takes.bytes takes.behind (subst (Consumes left1 left2) (sym takes.parts) read) in
    let on = listed-on r r1 r2 o o1 o2 o3 left left1
    (prepend_known takes.behind left2) sent sent1 lines lines1 lines2 records records1 records2 takes.bytes
    t takes.goes back told kept output in
    record {
      ends = record {
        came = on.came;
        behind = takes.behind;
        read = take-back left left2 on.came takes.behind on.read;
        over = ap (λ (x : ReaderValue). x.stage) (sym on.reader ∙ takes.goes.reader) ∙ takes.over refl;
        asked =
            all-sent r r2 o o3 left (prepend_known takes.behind left2) sent sent1 sent2 lines lines2 records records2 on
            more;
        told = on.told;
        kept = on.kept;
      };
      counted = is ∙ ap (λ (x : ReaderValue). x.tally) on.reader;
    }

-- ---- no end yet

pub goes-on-listed : (r r1 r2 : ReaderValue) (o o1 o2 o3 : OutputValue)
    (left left1 left2 sent sent1 lines lines1 lines2 records records1 records2 : Option (List ℕ)) (piece : List ℕ) →
    ListedTo r r1 o o1 left left1 sent sent1 lines lines1 records records1 → Takes r1 r2 o1 o2 piece false
    → Consumes left1 left2 piece →
    Appends lines1 lines2 o2.lines → Appends records1 records2 o2.records → o3 ≡ record o2 { lines = []; records = [] }
    →
    ListedTo r r2 o o3 left left2 sent sent1 lines lines2 records records2
goes-on-listed r r1 r2 o o1 o2 o3 left left1 left2 sent sent1 lines lines1 lines2 records records1 records2 piece t
    takes read told kept output =
    let whole : takes.bytes ≡ piece = sym (append-nil takes.bytes) ∙ ap (λ x. takes.bytes ++ x) (sym (takes.all refl))
    ∙ takes.parts in
    listed-on r r1 r2 o o1 o2 o3 left left1 left2 sent sent1 lines lines1 lines2 records records1 records2 takes.bytes
    t takes.goes (subst (Consumes left1 left2) (sym whole) read) told kept output

-- ---- a fault

pub stops : (fault : ListingFault) (r r1 : ReaderValue) (o o1 : OutputValue)
    (left left1 left2 sent sent1 lines lines1 records records1 : Option (List ℕ)) →
    ListedTo r r1 o o1 left left1 sent sent1 lines lines1 records records1 → Keeps left1 left2 → IsWhy fault r1.stage →
    StopsCounted fault r r1.tally o.style left left2 sent sent1 lines lines1 records records1
stops fault r r1 o o1 left left1 left2 sent sent1 lines lines1 records records1 t keeps why =
    record {
      stops = record {
        came = t.came;
        read = Consumes-kept left left1 left2 t.came t.read keeps;
        why = subst (IsWhy fault) (ap (λ (x : ReaderValue). x.stage) t.reader) why;
        asked = (
          drop r.sent (take r1.sent (read_on r t.came).asked),
          drop r1.sent (read_on r t.came).asked,
          sym (join r.sent r1.sent (read_on r t.came).asked t.from t.within),
          t.asked,
        );
        told = t.told;
        kept = t.kept;
      };
      counted = ap (λ (x : ReaderValue). x.tally) t.reader;
    }

pub not-memory : (fault : ReaderFault) → is_told_before (Reader fault) ≡ true → fault ≢ OutOfMemory
not-memory Limit is e = absurd cc
not-memory OutOfMemory is e = absurd cc
not-memory NotAPacket is e = absurd cc
not-memory AllRefused is e = absurd cc
not-memory BadReply is e = absurd cc

pub fails : (fault : ReaderFault) (r r1 r2 : ReaderValue) (o o1 o2 o3 : OutputValue)
    (left left1 left2 sent sent1 lines lines1 lines2 records records1 records2 : Option (List ℕ)) (piece : List ℕ) →
    ListedTo r r1 o o1 left left1 sent sent1 lines lines1 records records1 → FailsIn r1 r2 o1 o2 piece fault
    → Consumes left1 left2 piece →
    Appends lines1 lines2 o2.lines → Appends records1 records2 o2.records → o3 ≡ record o2 { lines = []; records = [] }
    →
    StopsCounted (Reader fault) r r2.tally o.style left left2 sent sent1 lines lines2 records records2
fails fault r r1 r2 o o1 o2 o3 left left1 left2 sent sent1 lines lines1 lines2 records records1 records2 piece t failed
    read told kept output =
    let on = listed-on r r1 r2 o o1 o2 o3 left left1 left2 sent sent1 lines lines1 lines2 records records1 records2
    piece t failed.goes read told kept output in
    stops (Reader fault) r r2 o o3 left left2 left2 sent sent1 lines lines2 records records2 on (Keeps-refl left2)
    (ap (λ (x : ReaderValue). x.stage) failed.goes.reader ∙ failed.stage)

-- the same of another reader and other lines, where they are equal
pub stops-as : (fault : ListingFault) (r r' : ReaderValue) (tally : TallyValue) (style style' : LineStyle)
    (left left' sent sent' lines lines' records records' : Option (List ℕ)) →
    r ≡ r' → style ≡ style' → StopsCounted fault r tally style left left' sent sent' lines lines' records records' →
    StopsCounted fault r' tally style' left left' sent sent' lines lines' records records'
stops-as fault r r' tally style style' left left' sent sent' lines lines' records records' same alike h =
    subst (λ x. StopsCounted fault x tally style' left left' sent sent' lines lines' records records') same
    (subst (λ x. StopsCounted fault r tally x left left' sent sent' lines lines' records records') alike h)

pub ends-as : (r r' : ReaderValue) (tally : TallyValue) (style style' : LineStyle)
    (left left' sent sent' lines lines' records records' : Option (List ℕ)) →
    r ≡ r' → style ≡ style' → EndsCounted r tally style left left' sent sent' lines lines' records records' →
    EndsCounted r' tally style' left left' sent sent' lines lines' records records'
ends-as r r' tally style style' left left' sent sent' lines lines' records records' same alike h =
    subst (λ x. EndsCounted x tally style' left left' sent sent' lines lines' records records') same
    (subst (λ x. EndsCounted r tally x left left' sent sent' lines lines' records records') alike h)

-- ---- no fault of the plan comes late

pub led-no-limit : (r r1 : ReaderValue) (o o1 : OutputValue)
    (left left1 sent sent1 lines lines1 records records1 : Option (List ℕ)) →
    ListedTo r r1 o o1 left left1 sent sent1 lines lines1 records records1 → r.stage ≢ Failed Limit
    → r1.stage ≢ Failed Limit
led-no-limit r r1 o o1 left left1 sent sent1 lines lines1 records records1 t h e =
    read-no-limit r t.came h (sym (ap (λ (x : ReaderValue). x.stage) t.reader) ∙ e)
