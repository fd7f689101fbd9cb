-- A check under way: what was read, what was written and what is listed, and what they say of the whole.
use Rattle.std.proofs.Common.{◌≡◌, ℕ, ◌+◌, List, [], ◌∷◌, ◌++◌, length, Some, None, IfSome, Result, Ok, Err, refl, sym}
use Rattle.std.proofs.Common.{ap, ap₂, ◌∙◌, ◌≤◌, append_assoc, append-nil, arith, subst}
use Rattle.std.specs.Prelude.{Option, IfOk, OnOk, OnErr, if◌then◌else◌, is_some, option_map}
use Rattle.std.specs.Io.KnownBytes.{Appends, Consumes, IsAtEnd}
use Rattle.std.proofs.KnownBytes.{Appends-nil, Appends-trans, Consumes-trans}
use Rattle.sl_io.specs.Known.{AppendsBeginning}
use Rattle.record_check.specs.declared.fault.FileFault.{FileFault}
use Rattle.protocol.specs.Streams.{FeedRead, feed_of}
use Rattle.protocol.proofs.Feeds.{feed_from-append}
use Rattle.feeder.specs.Feedings.{feed_read}
use Rattle.record_check.specs.declared.finding.Finding.{Finding}
use Rattle.record_check.specs.Findings.{count_read, finding_after, finding_of}
use Rattle.record_check.specs.Listing.{Listed, Rules, count_after, file_text, first_fault, first_of, lines_from}
use Rattle.record_check.specs.Listing.{listed_after, nothing_listed, number_after, partial_line, record_line}
use Rattle.record_check.specs.Listing.{refusal, said_of, streams_from, streams_text, verdict_by, verdict_of}
use Rattle.record_check.specs.Listing.{BeginsListing, WritesListing}
use Rattle.record_check.specs.Listing.BeginsListing.{InFile, InStreams}
use Rattle.record_check.specs.Checks.{Progress, begun_file, good_with, listed_of, piece_read, with_record}
use Rattle.record_check.specs.Checks.{with_records}
use Rattle.record_check.specs.Streams.{AreInOrder, StreamValue}
use Rattle.record_check.proofs.PieceLemmas.{records_behind, with_records-append}

-- ---- what is listed of records

first_of-assoc : (a b c : Option FileFault) → first_of (first_of a b) c ≡ first_of a (first_of b c)
first_of-assoc None b c = refl
first_of-assoc (Some fault) b c = refl

first_of-none : (a : Option FileFault) → first_of a None ≡ a
first_of-none None = refl
first_of-none (Some fault) = refl

fault-with_records : (r : Rules) (p : Progress) (records : List (List ℕ))
    → (with_records r p records).fault ≡ first_of p.fault (first_fault r records)
fault-with_records r p [] = sym (first_of-none p.fault)
fault-with_records r p (bytes ∷ records) = fault-with_records r (with_record r p bytes) records
    ∙ first_of-assoc p.fault _ (first_fault r records)

-- how many are read before one is refused, behind others
abbrev good_after : ℕ → Option FileFault → ℕ → ℕ
good_after good None more = good + more
good_after good (Some fault) more = good

good-with_record : (good : ℕ) (a b : Option FileFault) (more : ℕ)
    → good_after (good_with good (first_of a b)) (first_of a b) more
    ≡ good_after good a (if is_some b then 0 else more + 1)
good-with_record good None None more = omega arith
good-with_record good None (Some fault) more = omega arith
good-with_record good (Some fault) b more = refl

good-alone : (good : ℕ) (a : Option FileFault) → good ≡ good_after good a 0
good-alone good None = omega arith
good-alone good (Some fault) = refl

good-of-nothing : (more : ℕ) → good_after 0 None more ≡ more
good-of-nothing more = omega arith

good-with_records : (r : Rules) (p : Progress) (records : List (List ℕ))
    → (with_records r p records).good ≡ good_after p.good p.fault (count_read r records)
good-with_records r p [] = good-alone p.good p.fault
good-with_records r p (bytes ∷ records) = good-with_records r (with_record r p bytes) records
    ∙ good-with_record p.good p.fault (refusal (said_of r bytes)) (count_read r records)

-- one more is read at most with each record
pub good_rises : (good : ℕ) (fault : Option FileFault) → good_with good fault ≤ good + 1
good_rises good None = omega arith
good_rises good (Some fault) = omega arith

-- what is listed of one record more
abbrev lines_of : Rules → Progress → List ℕ → List ℕ
lines_of r p bytes = record_line r.options (number_after p.count) (said_of r bytes)

lines-with_records : (r : Rules) (p : Progress) (records : List (List ℕ))
    → (with_records r p records).lines ≡ p.lines ++ lines_from r p.count records
lines-with_records r p [] = sym (append-nil p.lines)
lines-with_records r p (bytes ∷ records) = lines-with_records r (with_record r p bytes) records
    ∙ append_assoc p.lines (lines_of r p bytes)
    (lines_from r (number_after p.count) records)

count-with_records : (r : Rules) (p : Progress) (records : List (List ℕ))
    → (with_records r p records).count ≡ count_after p.count records
count-with_records r p [] = refl
count-with_records r p (bytes ∷ records) = count-with_records r (with_record r p bytes) records

streams-with_records : (r : Rules) (p : Progress) (records : List (List ℕ))
    → (with_records r p records).streams ≡ streams_from r p.streams records
streams-with_records r p [] = refl
streams-with_records r p (bytes ∷ records) = streams-with_records r (with_record r p bytes) records

-- the progress with lines in front
abbrev behind_lines : List ℕ → Progress → Progress
behind_lines done p = record p { lines = done ++ p.lines }

-- Lines in front stay in front.
with_records-behind : (r : Rules) (done : List ℕ) (p : Progress) (records : List (List ℕ))
    → with_records r (behind_lines done p) records ≡ behind_lines done (with_records r p records)
with_records-behind r done p [] = refl
with_records-behind r done p (bytes ∷ records) =
    ap (λ l. with_records r (record (with_record r p bytes) { lines = l }) records)
    (append_assoc done p.lines (lines_of r p bytes))
    ∙ with_records-behind r done (with_record r p bytes) records

-- The lines of more records begin with those of the first.
lines_begin : (r : Rules) (count : ℕ) (records more : List (List ℕ))
    → (tail : List ℕ) × (lines_from r count (records ++ more) ≡ lines_from r count records ++ tail)
lines_begin r count [] more = (lines_from r count more, refl)
lines_begin r count (bytes ∷ records) more =
    let t = lines_begin r (number_after count) records more in
    let line = record_line r.options (number_after count) (said_of r bytes) in
    (t.0, ap (λ l. line ++ l) t.1 ∙ sym (append_assoc line (lines_from r (number_after count) records) t.0))

-- ---- the check under way

-- These bytes were read and these lines written, the cutter holds what is left over of the bytes, and the lines that
-- were written with those that wait are the lines of their records.
pub record Stands (r : Rules) (l : Listed) (left left' written written' : Option (List ℕ)) (held : List ℕ)
    (p : Progress) : Type 0 where
  pub consumed : List ℕ
  pub done : List ℕ
  pub consumes : Consumes left left' consumed
  pub appends : Appends written written' done
  pub is_held : held ≡ (feed_of consumed).rest
  pub is_listed : record p { lines = done ++ p.lines } ≡ with_records r (begun_file l) (feed_of consumed).records

read_on : (consumed piece held : List ℕ) → held ≡ (feed_of consumed).rest
    → feed_of (consumed ++ piece) ≡ feed_read ((feed_of consumed).records ++ (piece_read held piece).records)
    (piece_read held piece).rest
read_on consumed piece held h =
    rw h (feed_from-append (feed_read [] []) consumed piece
    ∙ records_behind (feed_of consumed).records (feed_of consumed).rest piece)

-- a piece was read and its records are listed
pub stands_read : (r : Rules) (l : Listed) (left left' left'' written written' : Option (List ℕ))
    (held held' piece : List ℕ) (p p' : Progress) → Stands r l left left' written written' held p
    → Consumes left' left'' piece
    → p' ≡ with_records r p (piece_read held piece).records → held' ≡ (piece_read held piece).rest
    → Stands r l left left'' written written' held' p'
stands_read r l left left' left'' written written' held held' piece p p' s more listed rest =
    let whole = read_on s.consumed piece held s.is_held in
    record {
      consumed = s.consumed ++ piece;
      done = s.done;
      consumes = Consumes-trans left left' left'' s.consumed piece s.consumes more;
      appends = s.appends;
      is_held = rest ∙ sym (ap (λ (f : FeedRead). f.rest) whole);
      is_listed =
          ap (behind_lines s.done) listed
          ∙ sym (with_records-behind r s.done p (piece_read held piece).records)
          ∙ ap (λ q. with_records r q (piece_read held piece).records) s.is_listed
          ∙ sym (with_records-append r (begun_file l) (feed_of s.consumed).records (piece_read held piece).records)
          ∙ sym (ap (λ (f : FeedRead). with_records r (begun_file l) f.records) whole);
    }

-- lines were written, and no longer wait
pub stands_written : (r : Rules) (l : Listed) (left left' written written' written'' : Option (List ℕ))
    (held out : List ℕ) (p p' : Progress) → Stands r l left left' written written' held p
    → Appends written' written'' out → p.lines ≡ out ++ p'.lines → p' ≡ record p { lines = p'.lines }
    → Stands r l left left' written written'' held p'
stands_written r l left left' written written' written'' held out p p' s more parts kept =
    record {
      consumed = s.consumed;
      done = s.done ++ out;
      consumes = s.consumes;
      appends = Appends-trans written written' written'' s.done out s.appends more;
      is_held = s.is_held;
      is_listed =
          ap (λ (q : Progress). record q { lines = (s.done ++ out) ++ p'.lines }) kept
          ∙ ap (λ x. record p { lines = x }) (append_assoc s.done out p'.lines ∙ ap (λ x. s.done ++ x) (sym parts))
          ∙ s.is_listed;
    }

-- ---- what it says of the whole

abbrev listed_by : ℕ → List StreamValue → Listed
listed_by count streams = record { count = count; streams = streams }

-- the lines of what is left over of a file
abbrev rest_line : Rules → ℕ → List ℕ
rest_line r n = partial_line r.options n

lines_so_far : (r : Rules) (l : Listed) (left left' written written' : Option (List ℕ)) (held : List ℕ) (p : Progress)
    → (s : Stands r l left left' written written' held p)
    → s.done ++ p.lines ≡ lines_from r l.count (feed_of s.consumed).records
lines_so_far r l left left' written written' held p s = ap (λ (q : Progress). q.lines) s.is_listed
    ∙ lines-with_records r (begun_file l) (feed_of s.consumed).records

listed_so_far : (r : Rules) (l : Listed) (left left' written written' : Option (List ℕ)) (held : List ℕ)
    (p : Progress) → (s : Stands r l left left' written written' held p)
    → listed_of p ≡ listed_after r l s.consumed
listed_so_far r l left left' written written' held p s =
    ap listed_of s.is_listed
    ∙ ap₂ listed_by (count-with_records r (begun_file l) (feed_of s.consumed).records)
    (streams-with_records r (begun_file l) (feed_of s.consumed).records)

-- The lines so far begin those of the file.
listing_begins : (r : Rules) (l : Listed) (bytes more : List ℕ) (written written' : Option (List ℕ)) (held : List ℕ)
    (p : Progress) → (s : Stands r l (Some bytes) (Some more) written written' held p)
    → (tail : List ℕ) × (file_text r l bytes ≡ (s.done ++ p.lines) ++ tail)
listing_begins r l bytes more written written' held p s =
    let whole = ap feed_of s.consumes ∙ read_on s.consumed more (feed_of s.consumed).rest refl in
    let after = piece_read (feed_of s.consumed).rest more in
    let t = lines_begin r l.count (feed_of s.consumed).records after.records in
    let end = rest_line r (length after.rest) in (
      t.0 ++ end,
      ap (λ (f : FeedRead). lines_from r l.count f.records ++ rest_line r (length f.rest)) whole
          ∙ ap (λ x. x ++ end) t.1
          ∙ append_assoc (lines_from r l.count (feed_of s.consumed).records) t.0 end
          ∙ ap (λ x. x ++ (t.0 ++ end)) (sym (lines_so_far r l (Some bytes) (Some more) written written' held p s)),
    )

-- What is written is a beginning of the lines of the file.
pub stands_begun : (r : Rules) (l : Listed) (left left' written written' : Option (List ℕ)) (held : List ℕ)
    (p : Progress) → Stands r l left left' written written' held p
    → IfSome left (λ bytes. AppendsBeginning written written' (file_text r l bytes))
stands_begun r l None left' written written' held p s = tt
stands_begun r l (Some bytes) None written written' held p s = absurd s.consumes
stands_begun r l (Some bytes) (Some more) written written' held p s =
    let b = listing_begins r l bytes more written written' held p s in
    (s.done, p.lines ++ b.0, b.1 ∙ append_assoc s.done p.lines b.0, s.appends)

-- And so it is with a beginning of the lines that wait.
pub stands_failed : (r : Rules) (l : Listed) (left left' written written' written'' : Option (List ℕ)) (held : List ℕ)
    (p : Progress) → Stands r l left left' written written' held p → AppendsBeginning written' written'' p.lines
    → IfSome left (λ bytes. AppendsBeginning written written'' (file_text r l bytes))
stands_failed r l None left' written written' written'' held p s f = tt
stands_failed r l (Some bytes) None written written' written'' held p s f = absurd s.consumes
stands_failed r l (Some bytes) (Some more) written written' written'' held p s f =
    let b = listing_begins r l bytes more written written' held p s in (
      s.done ++ f.0,
      f.1 ++ b.0,
      b.1 ∙ ap (λ x. (s.done ++ x) ++ b.0) f.2 ∙ simp append_assoc,
      Appends-trans written written' written'' s.done f.0 s.appends f.3,
    )

-- At the end of the file all of it is consumed.
all_consumed : (r : Rules) (l : Listed) (bytes more : List ℕ) (written written' : Option (List ℕ)) (held : List ℕ)
    (p : Progress) → (s : Stands r l (Some bytes) (Some more) written written' held p) → more ≡ [] → bytes ≡ s.consumed
all_consumed r l bytes more written written' held p s end =
    s.consumes ∙ ap (λ x. s.consumed ++ x) end ∙ append-nil s.consumed

-- At the end the lines so far, with that of what is left over, are those of the file.
listing_ends : (r : Rules) (l : Listed) (bytes more : List ℕ) (written written' : Option (List ℕ)) (held : List ℕ)
    (p : Progress) (n : ℕ) → (s : Stands r l (Some bytes) (Some more) written written' held p) → more ≡ []
    → n ≡ length held → file_text r l bytes ≡ s.done ++ (p.lines ++ partial_line r.options n)
listing_ends r l bytes more written written' held p n s end size =
    ap (file_text r l) (all_consumed r l bytes more written written' held p s end)
    ∙ ap (λ x. x ++ rest_line r (length (feed_of s.consumed).rest))
    (sym (lines_so_far r l (Some bytes) (Some more) written written' held p s))
    ∙ ap (λ m. (s.done ++ p.lines) ++ rest_line r m) (sym (size ∙ ap length s.is_held))
    ∙ append_assoc s.done p.lines (rest_line r n)

pub stands_whole : (r : Rules) (l : Listed) (left left' written written' written'' : Option (List ℕ)) (held : List ℕ)
    (p : Progress) (n : ℕ) → Stands r l left left' written written' held p → IsAtEnd left' → n ≡ length held
    → Appends written' written'' (p.lines ++ partial_line r.options n)
    → IfSome left (λ bytes. Appends written written'' (file_text r l bytes))
stands_whole r l None left' written written' written'' held p n s end size a = tt
stands_whole r l (Some bytes) None written written' written'' held p n s end size a = absurd s.consumes
stands_whole r l (Some bytes) (Some more) written written' written'' held p n s end size a =
    rw (listing_ends r l bytes more written written' held p n s end size)
    (Appends-trans written written' written'' s.done (p.lines ++ partial_line r.options n) s.appends a)

-- and what is listed then is what is listed with the file
pub stands_listed : (r : Rules) (l : Listed) (left left' written written' : Option (List ℕ)) (held : List ℕ)
    (p : Progress) (after : Listed) → Stands r l left left' written written' held p → IsAtEnd left'
    → after ≡ listed_of p → IfSome left (λ bytes. after ≡ listed_after r l bytes)
stands_listed r l None left' written written' held p after s end is = tt
stands_listed r l (Some bytes) None written written' held p after s end is = absurd s.consumes
stands_listed r l (Some bytes) (Some more) written written' held p after s end is =
    is ∙ listed_so_far r l (Some bytes) (Some more) written written' held p s
    ∙ ap (listed_after r l) (sym (all_consumed r l bytes more written written' held p s end))

pub stands_ended : (r : Rules) (l : Listed) (left left' written written' written'' : Option (List ℕ)) (held : List ℕ)
    (p : Progress) (n : ℕ) → Stands r l left left' written written' held p → IsAtEnd left' → n ≡ length held
    → AppendsBeginning written' written'' (p.lines ++ partial_line r.options n)
    → IfSome left (λ bytes. AppendsBeginning written written'' (file_text r l bytes))
stands_ended r l None left' written written' written'' held p n s end size a = tt
stands_ended r l (Some bytes) None written written' written'' held p n s end size a = absurd s.consumes
stands_ended r l (Some bytes) (Some more) written written' written'' held p n s end size a = (
  s.done ++ a.0,
  a.1,
  listing_ends r l bytes more written written' held p n s end size ∙ ap (λ x. s.done ++ x) a.2
      ∙ sym (append_assoc s.done a.0 a.1),
  Appends-trans written written' written'' s.done a.0 s.appends a.3,
)

-- What is wrong with the records so far, or with what is left over, is the verdict.
pub stands_verdict : (r : Rules) (l : Listed) (left left' written written' : Option (List ℕ)) (held : List ℕ)
    (p : Progress) (n : ℕ)
    → Stands r l left left' written written' held p → IsAtEnd left' → n ≡ length held
    → IfSome left (λ bytes. verdict_by p.fault n ≡ verdict_of r bytes)
stands_verdict r l None left' written written' held p n s end size = tt
stands_verdict r l (Some bytes) None written written' held p n s end size = absurd s.consumes
stands_verdict r l (Some bytes) (Some more) written written' held p n s end size =
    let whole = all_consumed r l bytes more written written' held p s end in
    ap (verdict_by p.fault) (size ∙ ap length s.is_held)
    ∙ ap (λ o. verdict_by o (length (feed_of s.consumed).rest)) (ap (λ (q : Progress). q.fault) s.is_listed
    ∙ fault-with_records r (begun_file l) (feed_of s.consumed).records)
    ∙ sym (ap (verdict_of r) whole)

-- What is wrong with the records so far, or with what is left over, is the finding.
pub stands_finding : (r : Rules) (l : Listed) (left left' written written' : Option (List ℕ)) (held : List ℕ)
    (p : Progress) (n : ℕ)
    → Stands r l left left' written written' held p → IsAtEnd left' → n ≡ length held
    → IfSome left (λ bytes. option_map (finding_after p.good) (verdict_by p.fault n) ≡ finding_of r bytes)
stands_finding r l None left' written written' held p n s end size = tt
stands_finding r l (Some bytes) None written written' held p n s end size = absurd s.consumes
stands_finding r l (Some bytes) (Some more) written written' held p n s end size =
    let whole = all_consumed r l bytes more written written' held p s end in
    let good = ap (λ (q : Progress). q.good) s.is_listed
    ∙ good-with_records r (begun_file l) (feed_of s.consumed).records
    ∙ good-of-nothing (count_read r (feed_of s.consumed).records)
    ∙ ap (λ (x : List ℕ). count_read r (feed_of x).records) (sym whole) in
    ap (λ g. option_map (finding_after g) (verdict_by p.fault n)) good
    ∙ ap (option_map (finding_after (count_read r (feed_of bytes).records)))
    (stands_verdict r l (Some bytes) (Some more) written written' held p n s end size)

-- ---- what a call answered

-- the answer is the finding
pub answers_finding : {E : Type 0} (r : Rules) (answer : Result (Option Finding) E) (left : Option (List ℕ))
    (v : Option Finding) → IfOk answer (λ a. a ≡ v) → IfSome left (λ bytes. v ≡ finding_of r bytes)
    → IfOk answer (λ a. IfSome left (λ bytes. a ≡ finding_of r bytes))
answers_finding r (Err e) left v a is = tt
answers_finding r (Ok o) None v a is = tt
answers_finding r (Ok o) (Some bytes) v a is = a ∙ is

pub on_ok : {T E : Type 0} (r : Result T E) (P Q : Type 0) → OnOk r P → (P → Q) → OnOk r Q
on_ok (Ok x) P Q p f = f p
on_ok (Err e) P Q p f = tt

pub on_err : {T E : Type 0} (r : Result T E) (P Q : Type 0) → OnErr r P → (P → Q) → OnErr r Q
on_err (Ok x) P Q p f = tt
on_err (Err e) P Q p f = f p

pub always : {T E : Type 0} (r : Result T E) (Q : Type 0) → Q → OnErr r Q
always (Ok x) Q q = tt
always (Err e) Q q = q

-- ---- one file and its streams

-- nothing is written of an unknown text
pub begun_nothing : (r : Rules) (left written : Option (List ℕ))
    → IfSome left (λ bytes. BeginsListing r bytes written written)
begun_nothing r None written = tt
begun_nothing r (Some bytes) written =
    InFile ([], file_text r nothing_listed bytes, refl, Appends-nil written)

-- a beginning of the file's lines is one of the listing
pub begun_file_alone : (r : Rules) (l : Listed) (left written written' : Option (List ℕ)) → l ≡ nothing_listed
    → IfSome left (λ bytes. AppendsBeginning written written' (file_text r l bytes))
    → IfSome left (λ bytes. BeginsListing r bytes written written')
begun_file_alone r l None written written' is b = tt
begun_file_alone r l (Some bytes) written written' is b =
    InFile (subst (λ k. AppendsBeginning written written' (file_text r k bytes)) is b)

-- with the lines of the streams it is the listing
pub whole_file : (r : Rules) (l after : Listed) (streams : List StreamValue)
    (left written written' written'' : Option (List ℕ))
    → l ≡ nothing_listed → IfSome left (λ bytes. Appends written written' (file_text r l bytes))
    → IfSome left (λ bytes. after ≡ listed_after r l bytes) → AreInOrder after.streams streams
    → Appends written' written'' (streams_text r.options streams)
    → IfSome left (λ bytes. WritesListing r bytes written written'')
whole_file r l after streams None written written' written'' is first listed order end = tt
whole_file r l after streams (Some bytes) written written' written'' is first listed order end =
    record {
      streams = streams;
      in_order = subst (λ (k : Listed). AreInOrder k.streams streams)
          (listed ∙ ap (λ k. listed_after r k bytes) is) order;
      text = Appends-trans written written' written'' (file_text r nothing_listed bytes)
          (streams_text r.options streams)
          (subst (λ k. Appends written written' (file_text r k bytes)) is first) end;
    }

-- and with a beginning of them it is a beginning
pub ended_file : (r : Rules) (l after : Listed) (streams : List StreamValue)
    (left written written' written'' : Option (List ℕ))
    → l ≡ nothing_listed → IfSome left (λ bytes. Appends written written' (file_text r l bytes))
    → IfSome left (λ bytes. after ≡ listed_after r l bytes) → AreInOrder after.streams streams
    → AppendsBeginning written' written'' (streams_text r.options streams)
    → IfSome left (λ bytes. BeginsListing r bytes written written'')
ended_file r l after streams None written written' written'' is first listed order end = tt
ended_file r l after streams (Some bytes) written written' written'' is first listed order end =
    let text = file_text r nothing_listed bytes in
    InStreams streams
    (subst (λ (k : Listed). AreInOrder k.streams streams) (listed ∙ ap (λ k. listed_after r k bytes) is) order) (
      text ++ end.0,
      end.1,
      ap (λ x. text ++ x) end.2 ∙ sym (append_assoc text end.0 end.1),
      Appends-trans written written' written'' text end.0
          (subst (λ k. Appends written written' (file_text r k bytes)) is first) end.3,
    )
