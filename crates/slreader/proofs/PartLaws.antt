-- The law over dialogues in words: reading byte by byte gives what their parts give, and fails where no dialogue
-- begins.
use Rattle.std.proofs.Common.{◌≡◌, ℕ, ◌+◌, ◌<◌, Bool, true, false, List, [], ◌∷◌, ◌++◌, length, map, refl, sym, ap, ◌∙◌}
use Rattle.std.proofs.Common.{subst, arith, append_assoc, append-nil, length-append, inl, inr}
use Rattle.std.specs.Prelude.{◌≢◌, ◌⊎◌, ◌↔◌, codes, nat_le}
use Rattle.std.specs.List.{concat, list_any}
use Rattle.std.proofs.lemmas.Bool.Decides.{nat_tests}
use Rattle.std.proofs.lemmas.List.{map-append, length-map}
use Rattle.std.proofs.lemmas.List.Elements.{All-nil}
use Rattle.protocol.specs.Lines.{line_end}
use Rattle.protocol.specs.Packet.{IsSomePacket}
use Rattle.protocol.specs.Reading.{Not}
use Rattle.protocol.specs.Streams.{end_mark, BeginsStream, StreamRead, stream_of}
use Rattle.protocol.specs.Streams.StreamRead.{Going, Ended, NoStream}
use Rattle.protocol.proofs.FoundLemmas.{both}
use Rattle.protocol.proofs.StreamReading.{no_stream_law}
use Rattle.slreader.specs.declared.fault.ReaderFault.TheVariants.{NotAPacket, BadReply, AllRefused}
use Rattle.slreader.specs.Pieces.{greeting}
use Rattle.slreader.specs.Wants.{PlanValue, WantValue, command_of, last_command, wants_of, commands_of}
use Rattle.slreader.specs.Wants.{commands_of_want, commands_from, station_line, select_line, selects, action_line}
use Rattle.slreader.specs.Wants.{is_plan}
use Rattle.slreader.specs.Wants.PlanValue.{Uni, Multi}
use Rattle.slreader.specs.Dialogue.{asked_of, ReaderValue, Stage, begun, given_from, read_on, reader_of, at_stage}
use Rattle.slreader.specs.Dialogue.{ask_next, asking}
use Rattle.slreader.specs.Dialogue.Stage.{SecondLine, Failed}
use Rattle.slreader.specs.ReaderViews.{is_talk}
use Rattle.slreader.specs.Parts.{lines_of_want, lines_of, last_line, all_asked, asked_by, Part, bytes_of, given_of}
use Rattle.slreader.specs.Parts.{IsLine, first_part, second_part, Verdict, AreVerdicts, is_accepted, answers_from}
use Rattle.slreader.specs.Parts.{answered_commands, IsNegotiation, MayFollow, unread_part, packet_part, end_parts}
use Rattle.slreader.specs.Parts.{IsDialogue, BeginsDialogue, HasNegotiated}
use Rattle.slreader.proofs.ReadingLaws.{read_on-append}
use Rattle.slreader.proofs.PartLemmas.{Reads, ReadsAll, ReadsAll-append, bytes_of-append, all_given, part_given}
use Rattle.slreader.proofs.CourseLemmas.{failed_reads_on, Course, course_then, failed_silent, stays_failed}
use Rattle.slreader.proofs.CourseLemmas.Course.{Fails, Within, Past}
use Rattle.slreader.proofs.HelloLemmas.{first_leads, first_reads, first_course, second_leads, second_reads}
use Rattle.slreader.proofs.HelloLemmas.{second_course, empty_line}
use Rattle.slreader.proofs.VerdictLemmas.{commands_in, stage_by, LeadsTo, at_wants, wants_lead, AreAnswered}
use Rattle.slreader.proofs.VerdictLemmas.{wants_course, some_answered}
use Rattle.slreader.proofs.StreamLemmas.{stream_asks, stage_in, stream_stage, IsTransfer, transfer_leads}
use Rattle.slreader.proofs.StreamLemmas.{transfer_bytes}

-- ---- the commands of a plan, by their lines

selects_are : (want : ℕ) (patterns : List (List ℕ))
    → selects want patterns ≡ map (command_of want) (map select_line patterns)
selects_are want [] = refl
selects_are want (p ∷ patterns) = ap (λ l. command_of want (select_line p) ∷ l) (selects_are want patterns)

want_commands : (want : ℕ) (w : WantValue) → commands_of_want want w ≡ map (command_of want) (lines_of_want w)
unfolding commands_of_want
want_commands want w =
    ap (λ l. command_of want (station_line w) ∷ (l ++ command_of want (action_line w.action) ∷ []))
    (selects_are want w.patterns)
    ∙ ap (λ l. command_of want (station_line w) ∷ l)
    (sym (map-append (command_of want) (map select_line w.patterns) (action_line w.action ∷ [])))

all_commands : (want : ℕ) (wants : List WantValue)
    → commands_from want wants ≡ commands_in want (map lines_of_want wants)
all_commands want [] = refl
all_commands want (w ∷ wants) =
    ap (λ l. l ++ commands_from (want + 1) wants) (want_commands want w)
    ∙ ap (λ l. map (command_of want) (lines_of_want w) ++ l) (all_commands (want + 1) wants)

plan_commands : (p : PlanValue) → commands_of p ≡ commands_in 0 (lines_of p) ++ last_command (last_line p) ∷ []
plan_commands (Uni w) =
    ap (λ l. l ++ last_command (action_line w.action) ∷ [])
    (selects_are 0 w.patterns ∙ sym (append-nil (map (command_of 0) (map select_line w.patterns))))
plan_commands (Multi wants) = ap (λ l. l ++ last_command (codes "END") ∷ []) (all_commands 0 wants)

want_count : (w : WantValue) → length (lines_of_want w) ≡ length w.patterns + 2
want_count w = simp (length-append, length-map) (omega arith)

want_counts : (wants : List WantValue) → map length (map lines_of_want wants) ≡ map (λ w. length w.patterns + 2) wants
want_counts [] = refl
want_counts (w ∷ wants) = rw (want_count w, want_counts wants)

plan_counts : (p : PlanValue) → map length (lines_of p) ≡ answered_commands p
plan_counts (Uni w) = ap (λ n. n ∷ []) (length-map w.patterns select_line)
plan_counts (Multi wants) = want_counts wants

plan_wants : (p : PlanValue) → length (wants_of p) ≡ length (lines_of p)
plan_wants (Uni w) = refl
plan_wants (Multi wants) = sym (length-map wants lines_of_want)

plan_some : (p : PlanValue) → is_plan p ≡ true → 0 < length (lines_of p)
plan_some p is =
    let same = plan_wants p in
    both (nat_le 1 (length (wants_of p))) (λ y. grind (arith, nat_tests)) (λ n. absurd (let e = rw n at is in cc))

-- ---- a negotiation

-- the reader at the answers to the first want
abbrev at_first_want : PlanValue → ReaderValue
at_first_want p = at_wants (begun p) 0 (lines_of p) (last_line p)

asks_first : (p : PlanValue) → ask_next (begun p) ≡ at_first_want p
asks_first p = ap (asking (begun p)) (plan_commands p)

-- The answers to the wants lead to the transfer or to the end, and all is asked meanwhile.
abbrev AnswersLead : PlanValue → List ℕ → List Verdict → ReaderValue → Type 0
AnswersLead p counts verdicts r = LeadsTo r (answers_from 0 counts verdicts) (list_any is_accepted verdicts)
    (begun p).asked (all_asked (lines_of p) verdicts) (last_line p)

answers_lead : (p : PlanValue) (verdicts : List Verdict) → is_plan p ≡ true
    → AreVerdicts (answered_commands p) verdicts → AnswersLead p (answered_commands p) verdicts (ask_next (begun p))
answers_lead p verdicts is each =
    let counts = plan_counts p in
    let kept = plan_wants p in
    let some = plan_some p is in
    subst (AnswersLead p (answered_commands p) verdicts) (sym (asks_first p))
    (subst (λ ns. AnswersLead p ns verdicts (at_first_want p)) counts
    (wants_lead 0 (lines_of p) (last_line p) verdicts (subst (λ ns. AreVerdicts ns verdicts) (sym counts) each)
    (begun p) 0 (omega arith) (omega arith)))

lines_lead : (p : PlanValue) (first second : List ℕ) (answers : List Part) (b : Bool) (before : List ℕ)
    (lines : List (List ℕ)) (last : List ℕ) → IsLine greeting first → IsLine [] second
    → LeadsTo (ask_next (begun p)) answers b before lines last
    → LeadsTo (begun p) (first_part first ∷ second_part second ∷ answers) b before lines last
lines_lead p first second answers b before lines last greeted described more =
    let at_second = first_leads (begun p) first greeted in
    let at_answers = second_leads (begun p) second described in
    let through : read_on (begun p) (first ++ (second ++ bytes_of answers))
    ≡ read_on (ask_next (begun p)) (bytes_of answers) =
    read_on-append (begun p) first (second ++ bytes_of answers)
    ∙ ap (λ r. read_on r (second ++ bytes_of answers)) at_second
    ∙ read_on-append (at_stage (begun p) (SecondLine 0 false)) second (bytes_of answers)
    ∙ ap (λ r. read_on r (bytes_of answers)) at_answers in
    record {
      all = (
        first_reads (begun p) first greeted,
        (
          subst (λ r. Reads r (second_part second)) (sym at_second) (second_reads (begun p) second described),
          subst (λ r. ReadsAll r answers) (sym (ap (λ r. read_on r second) at_second ∙ at_answers)) more.all,
        ),
      );
      stage_is = ap (λ r. r.stage) through ∙ more.stage_is;
      asks = ap (λ r. r.asked) through ∙ more.asks;
    }

-- the parts of a negotiation with these verdicts
abbrev NegotiationLeads : PlanValue → List Verdict → List Part → Type 0
NegotiationLeads p verdicts parts = LeadsTo (begun p) parts (list_any is_accepted verdicts) (begun p).asked
    (all_asked (lines_of p) verdicts) (last_line p)

parts_lead : (p : PlanValue) (is_some_accepted : Bool) (parts : List Part) → is_plan p ≡ true
    → (n : IsNegotiation p is_some_accepted parts) → NegotiationLeads p n.verdicts parts
parts_lead p is_some_accepted parts is n =
    subst (NegotiationLeads p n.verdicts) n.whole
    (lines_lead p n.first n.second (answers_from 0 (answered_commands p) n.verdicts) (list_any is_accepted n.verdicts)
    (begun p).asked (all_asked (lines_of p) n.verdicts) (last_line p) n.greeted n.described
    (answers_lead p n.verdicts is n.each))

-- All parts are read, and the stage is then that of the verdicts.
record IsNegotiationRead (p : PlanValue) (is_some_accepted : Bool) (parts : List Part) : Type 0 where
  pub all : ReadsAll (begun p) parts
  pub stage_is : (read_on (begun p) (bytes_of parts)).stage ≡ stage_by is_some_accepted

negotiation_leads : (p : PlanValue) (is_some_accepted : Bool) (parts : List Part) → is_plan p ≡ true
    → IsNegotiation p is_some_accepted parts → IsNegotiationRead p is_some_accepted parts
negotiation_leads p is_some_accepted parts is n =
    let leads = parts_lead p is_some_accepted parts is n in
    record { all = leads.all; stage_is = leads.stage_is ∙ ap stage_by n.some }

-- ---- a dialogue

transfer_follows : (r : ReaderValue) (is_some_accepted : Bool) (parts : List Part) → r.stage ≡ stage_by is_some_accepted
    → MayFollow is_some_accepted parts → ReadsAll r parts
transfer_follows r true parts is (packets, is_ended, each, whole) =
    subst (ReadsAll r) whole (transfer_leads r packets is_ended is each).all
transfer_follows r false parts is (bytes, whole) =
    subst (ReadsAll r) whole (
      record {
        given = failed_silent r AllRefused bytes is;
        silent = λ front more e some. failed_silent r AllRefused front is;
      },
      tt,
    )

pub dialogue_reads : (p : PlanValue) (parts : List Part) → is_plan p ≡ true → IsDialogue p parts
    → ReadsAll (begun p) parts
dialogue_reads p parts is d =
    let first = negotiation_leads p d.is_some_accepted d.negotiation is d.negotiated in
    subst (ReadsAll (begun p)) d.whole
    (ReadsAll-append (begun p) d.negotiation d.transfer first.all
    (transfer_follows (read_on (begun p) (bytes_of d.negotiation)) d.is_some_accepted d.transfer first.stage_is
    d.followed))

-- ---- what stages are not

-- Nothing failed, or every want was refused.
abbrev IsGood : Stage → Type 0
IsGood stage = (stage ≢ Failed BadReply) × (stage ≢ Failed NotAPacket)

good_transfer : (stage : Stage) → IsTransfer stage → IsGood stage
good_transfer stage (Going packets rest, is, some) = (λ e. absurd cc, λ e. absurd cc)
good_transfer stage (Ended packets, is, some) = (λ e. absurd cc, λ e. absurd cc)
good_transfer stage (NoStream, is, some) = absurd (some refl)

transfer_good : (r : ReaderValue) (is_some_accepted : Bool) (parts : List Part) → r.stage ≡ stage_by is_some_accepted
    → MayFollow is_some_accepted parts → IsGood (read_on r (bytes_of parts)).stage
transfer_good r true parts is (packets, is_ended, each, whole) =
    subst (λ l. IsGood (read_on r (bytes_of l)).stage) whole
    (good_transfer (read_on r (bytes_of (map packet_part packets ++ end_parts is_ended))).stage
    (transfer_leads r packets is_ended is each).ends)
transfer_good r false parts is (bytes, whole) =
    let failed = stays_failed r AllRefused (bytes_of parts) is in
    (λ e. absurd cc, λ e. absurd cc)

dialogue_good : (p : PlanValue) (parts : List Part) → is_plan p ≡ true → IsDialogue p parts
    → IsGood (read_on (begun p) (bytes_of parts)).stage
dialogue_good p parts is d =
    let first = negotiation_leads p d.is_some_accepted d.negotiation is d.negotiated in
    subst (λ l. IsGood (read_on (begun p) (bytes_of l)).stage) d.whole
    (subst (λ r. IsGood r.stage)
    (sym (ap (read_on (begun p)) (bytes_of-append d.negotiation d.transfer)
    ∙ read_on-append (begun p) (bytes_of d.negotiation) (bytes_of d.transfer)))
    (transfer_good (read_on (begun p) (bytes_of d.negotiation)) d.is_some_accepted d.transfer first.stage_is
    d.followed))

good_before : (r : ReaderValue) (bytes more : List ℕ) → IsGood (read_on r (bytes ++ more)).stage
    → IsGood (read_on r bytes).stage
good_before r bytes more good = (
  λ e. good.0 (ap (λ s. s.stage) (read_on-append r bytes more) ∙ stays_failed (read_on r bytes) BadReply more e),
  λ e. good.1 (ap (λ s. s.stage) (read_on-append r bytes more) ∙ stays_failed (read_on r bytes) NotAPacket more e),
)

begun_good : (p : PlanValue) (bytes : List ℕ) → is_plan p ≡ true → BeginsDialogue p bytes
    → IsGood (reader_of p bytes).stage
begun_good p bytes is (more, parts, d, whole) =
    good_before (begun p) bytes more
    (subst (λ l. IsGood (read_on (begun p) l).stage) whole (dialogue_good p parts is d))

-- ---- where a negotiation is whole

negotiated_stage : (p : PlanValue) (is_some_accepted : Bool) (bytes : List ℕ) → is_plan p ≡ true
    → (n : HasNegotiated p is_some_accepted bytes) → (r : ReaderValue) × (r.stage ≡ stage_by is_some_accepted)
    × (reader_of p bytes ≡ read_on r n.1)
negotiated_stage p is_some_accepted bytes is (parts, more, n, whole) = (
  read_on (begun p) (bytes_of parts),
  (negotiation_leads p is_some_accepted parts is n).stage_is,
  ap (read_on (begun p)) (sym whole) ∙ read_on-append (begun p) (bytes_of parts) more,
)

accepted_stage : (p : PlanValue) (bytes : List ℕ) → is_plan p ≡ true → (n : HasNegotiated p true bytes)
    → (reader_of p bytes).stage ≡ stage_in (stream_of n.1)
accepted_stage p bytes is n =
    let (r, at, through) = negotiated_stage p true bytes is n in
    ap (λ s. s.stage) through ∙ stream_stage r (Going [] []) n.1 at

refused_stage : (p : PlanValue) (bytes : List ℕ) → is_plan p ≡ true → HasNegotiated p false bytes
    → (reader_of p bytes).stage ≡ Failed AllRefused
refused_stage p bytes is n =
    let (r, at, through) = negotiated_stage p false bytes is n in
    ap (λ s. s.stage) through ∙ stays_failed r AllRefused n.1 at

refused_begins : (p : PlanValue) (bytes : List ℕ) → HasNegotiated p false bytes → BeginsDialogue p bytes
refused_begins p bytes (parts, more, n, whole) = (
  [],
  parts ++ unread_part more ∷ [],
  record {
    is_some_accepted = false;
    negotiation = parts;
    transfer = unread_part more ∷ [];
    negotiated = n;
    followed = (more, refl);
    whole = refl;
  },
  bytes_of-append parts (unread_part more ∷ []) ∙ ap (λ l. bytes_of parts ++ l) (append-nil more) ∙ whole
      ∙ sym (append-nil bytes),
)

accepted_begins : (p : PlanValue) (bytes : List ℕ) (n : HasNegotiated p true bytes) → BeginsStream n.1
    → BeginsDialogue p bytes
accepted_begins p bytes (parts, rest, n, whole) (more, packets, is_ended, s) = (
  more,
  parts ++ (map packet_part packets ++ end_parts is_ended),
  record {
    is_some_accepted = true;
    negotiation = parts;
    transfer = map packet_part packets ++ end_parts is_ended;
    negotiated = n;
    followed = (packets, is_ended, s.each, refl);
    whole = refl;
  },
  bytes_of-append parts (map packet_part packets ++ end_parts is_ended)
      ∙ ap (λ l. bytes_of parts ++ l) (transfer_bytes packets is_ended
      ∙ ap (λ l. concat packets ++ l) (sym (append-nil (end_mark is_ended))) ∙ s.whole)
      ∙ sym (append_assoc (bytes_of parts) rest more) ∙ ap (λ l. l ++ more) whole,
)

negotiation_begins : (p : PlanValue) (bytes more : List ℕ) (is_some_accepted : Bool) (parts : List Part)
    → IsNegotiation p is_some_accepted parts → bytes ++ more ≡ bytes_of parts → BeginsDialogue p bytes
negotiation_begins p bytes more true parts n e = (
  more,
  parts ++ [],
  record {
    is_some_accepted = true;
    negotiation = parts;
    transfer = [];
    negotiated = n;
    followed = ([], false, All-nil IsSomePacket, refl);
    whole = refl;
  },
  ap bytes_of (append-nil parts) ∙ sym e,
)
negotiation_begins p bytes more false parts n e = (
  more,
  parts ++ unread_part [] ∷ [],
  record {
    is_some_accepted = false;
    negotiation = parts;
    transfer = unread_part [] ∷ [];
    negotiated = n;
    followed = ([], refl);
    whole = refl;
  },
  bytes_of-append parts (unread_part [] ∷ []) ∙ append-nil (bytes_of parts) ∙ sym e,
)

-- ---- and whatever bytes come

answers_course : (p : PlanValue) (bytes : List ℕ) → is_plan p ≡ true
    → Course (ask_next (begun p)) (AreAnswered 0 (answered_commands p)) bytes
answers_course p bytes is =
    let kept = plan_wants p in
    let some = plan_some p is in
    subst (λ r. Course r (AreAnswered 0 (answered_commands p)) bytes) (sym (asks_first p))
    (subst (λ ns. Course (at_first_want p) (AreAnswered 0 ns) bytes) (plan_counts p)
    (wants_course 0 (lines_of p) (last_line p) (begun p) 0 bytes (omega arith) (omega arith)))

-- the second line and the answers
abbrev IsBehindFirst : PlanValue → List ℕ → Type 0
IsBehindFirst p t = (second : List ℕ) × (verdicts : List Verdict) × IsLine [] second
    × AreVerdicts (answered_commands p) verdicts
    × (t ≡ second ++ bytes_of (answers_from 0 (answered_commands p) verdicts))

some_behind_first : (p : PlanValue) → (x : List ℕ) × IsBehindFirst p x
some_behind_first p =
    let (x, (verdicts, fit, is)) = some_answered 0 (answered_commands p) in
    (line_end ++ x, (line_end, verdicts, empty_line, fit, ap (λ l. line_end ++ l) is))

second_on : (p : PlanValue) (bytes : List ℕ) → is_plan p ≡ true
    → Course (at_stage (begun p) (SecondLine 0 false)) (IsBehindFirst p) bytes
second_on p bytes is =
    course_then (at_stage (begun p) (SecondLine 0 false)) (IsLine []) (λ s k. AreAnswered 0 (answered_commands p))
    (IsBehindFirst p) bytes (second_course (begun p) bytes)
    (λ front rest k. subst (λ r. Course r (AreAnswered 0 (answered_commands p)) rest)
    (sym (second_leads (begun p) front k)) (answers_course p rest is))
    (λ s k. some_answered 0 (answered_commands p))
    (λ s t k l. (s, l.0, k, l.1, ap (λ x. s ++ x) l.2))

-- the bytes of a negotiation
abbrev IsNegotiated : PlanValue → List ℕ → Type 0
IsNegotiated p t =
    (is_some_accepted : Bool) × (parts : List Part) × IsNegotiation p is_some_accepted parts × (t ≡ bytes_of parts)

whole_negotiation : (p : PlanValue) (s t : List ℕ) → IsLine greeting s → IsBehindFirst p t → IsNegotiated p (s ++ t)
whole_negotiation p s t greeted (second, verdicts, described, fit, is) = (
  list_any is_accepted verdicts,
  first_part s ∷ second_part second ∷ answers_from 0 (answered_commands p) verdicts,
  record {
    first = s;
    second = second;
    verdicts = verdicts;
    greeted = greeted;
    described = described;
    each = fit;
    some = refl;
    whole = refl;
  },
  ap (λ x. s ++ x) is,
)

negotiation_course : (p : PlanValue) (bytes : List ℕ) → is_plan p ≡ true → Course (begun p) (IsNegotiated p) bytes
negotiation_course p bytes is =
    course_then (begun p) (IsLine greeting) (λ s k. IsBehindFirst p) (IsNegotiated p) bytes
    (first_course (begun p) bytes)
    (λ front rest k. subst (λ r. Course r (IsBehindFirst p) rest) (sym (first_leads (begun p) front k))
    (second_on p rest is))
    (λ s k. some_behind_first p) (whole_negotiation p)

-- what bytes are to a plan
pub data Found (p : PlanValue) (bytes : List ℕ) : Type 0 where
  BadLine : (reader_of p bytes).stage ≡ Failed BadReply → Found p bytes
  Talks : is_talk (reader_of p bytes).stage ≡ true → BeginsDialogue p bytes → Found p bytes
  SomeAccepted : HasNegotiated p true bytes → Found p bytes
  NoneAccepted : HasNegotiated p false bytes → Found p bytes

found_past : (p : PlanValue) (bytes front rest : List ℕ) (is_some_accepted : Bool) (parts : List Part)
    → IsNegotiation p is_some_accepted parts → bytes_of parts ++ rest ≡ bytes → Found p bytes
found_past p bytes front rest true parts n whole = SomeAccepted (parts, rest, n, whole)
found_past p bytes front rest false parts n whole = NoneAccepted (parts, rest, n, whole)

found_by : (p : PlanValue) (bytes : List ℕ) → Course (begun p) (IsNegotiated p) bytes → Found p bytes
found_by p bytes (Fails e) = BadLine e
found_by p bytes (Within talks more (is_some_accepted, parts, n, e)) =
    Talks talks (negotiation_begins p bytes more is_some_accepted parts n e)
found_by p bytes (Past front rest (is_some_accepted, parts, n, e) whole) =
    found_past p bytes front rest is_some_accepted parts n (ap (λ l. l ++ rest) (sym e) ∙ sym whole)

found : (p : PlanValue) (bytes : List ℕ) → is_plan p ≡ true → Found p bytes
found p bytes is = found_by p bytes (negotiation_course p bytes is)

-- ---- the laws

abbrev stage_of : PlanValue → List ℕ → Stage
stage_of p bytes = (reader_of p bytes).stage

stream_no_reply : (s : StreamRead) → stage_in s ≢ Failed BadReply
stream_no_reply (Going packets rest) e = absurd cc
stream_no_reply (Ended packets) e = absurd cc
stream_no_reply NoStream e = absurd cc

stream_no_refusal : (s : StreamRead) → stage_in s ≢ Failed AllRefused
stream_no_refusal (Going packets rest) e = absurd cc
stream_no_refusal (Ended packets) e = absurd cc
stream_no_refusal NoStream e = absurd cc

-- Where no dialogue begins behind a negotiation, no packet came.
no_packet : (p : PlanValue) (bytes : List ℕ) → is_plan p ≡ true → HasNegotiated p true bytes
    → Not (BeginsDialogue p bytes) → stage_of p bytes ≡ Failed NotAPacket
no_packet p bytes is n none =
    accepted_stage p bytes is n
    ∙ ap stage_in ((no_stream_law n.1).1 (λ begins. none (accepted_begins p bytes n begins)))

fails_by : (p : PlanValue) (bytes : List ℕ) → is_plan p ≡ true → Not (BeginsDialogue p bytes) → Found p bytes
    → (stage_of p bytes ≡ Failed BadReply) ⊎ (stage_of p bytes ≡ Failed NotAPacket)
fails_by p bytes is none (BadLine e) = inl e
fails_by p bytes is none (Talks talks begins) = absurd (none begins)
fails_by p bytes is none (SomeAccepted n) = inr (no_packet p bytes is n none)
fails_by p bytes is none (NoneAccepted n) = absurd (none (refused_begins p bytes n))

fault_begins : (p : PlanValue) (bytes : List ℕ) → is_plan p ≡ true
    → (stage_of p bytes ≡ Failed BadReply) ⊎ (stage_of p bytes ≡ Failed NotAPacket) → Not (BeginsDialogue p bytes)
fault_begins p bytes is (inl e) begins = (begun_good p bytes is begins).0 e
fault_begins p bytes is (inr e) begins = (begun_good p bytes is begins).1 e

pub no_dialogue_law : (p : PlanValue) (bytes : List ℕ) → is_plan p ≡ true
    → ((stage_of p bytes ≡ Failed BadReply) ⊎ (stage_of p bytes ≡ Failed NotAPacket)) ↔ Not (BeginsDialogue p bytes)
no_dialogue_law p bytes is =
    (fault_begins p bytes is, λ none. fails_by p bytes is none (found p bytes is))

bad_by : (p : PlanValue) (bytes : List ℕ) → Not (BeginsDialogue p bytes) → Not (HasNegotiated p true bytes)
    → Found p bytes → stage_of p bytes ≡ Failed BadReply
bad_by p bytes none not_accepted (BadLine e) = e
bad_by p bytes none not_accepted (Talks talks begins) = absurd (none begins)
bad_by p bytes none not_accepted (SomeAccepted n) = absurd (not_accepted n)
bad_by p bytes none not_accepted (NoneAccepted n) = absurd (none (refused_begins p bytes n))

pub bad_reply_law : (p : PlanValue) (bytes : List ℕ) → is_plan p ≡ true
    → (stage_of p bytes ≡ Failed BadReply) ↔ (Not (BeginsDialogue p bytes) × Not (HasNegotiated p true bytes))
bad_reply_law p bytes is = (
  λ e. (
    fault_begins p bytes is (inl e),
    λ n. stream_no_reply (stream_of n.1) (sym (accepted_stage p bytes is n) ∙ e),
  ),
  λ h. bad_by p bytes h.0 h.1 (found p bytes is),
)

accepted_by : (p : PlanValue) (bytes : List ℕ) → is_plan p ≡ true → stage_of p bytes ≡ Failed NotAPacket
    → Found p bytes → HasNegotiated p true bytes
accepted_by p bytes is e (BadLine bad) = absurd cc
accepted_by p bytes is e (Talks talks begins) =
    absurd (let no : is_talk (Failed NotAPacket) ≡ true = ap is_talk (sym e) ∙ talks in cc)
accepted_by p bytes is e (SomeAccepted n) = n
accepted_by p bytes is e (NoneAccepted n) = absurd (let no = refused_stage p bytes is n in cc)

pub not_a_packet_law : (p : PlanValue) (bytes : List ℕ) → is_plan p ≡ true
    → (stage_of p bytes ≡ Failed NotAPacket) ↔ (Not (BeginsDialogue p bytes) × HasNegotiated p true bytes)
not_a_packet_law p bytes is = (
  λ e. (fault_begins p bytes is (inr e), accepted_by p bytes is e (found p bytes is)),
  λ h. no_packet p bytes is h.1 h.0,
)

refused_by : (p : PlanValue) (bytes : List ℕ) → is_plan p ≡ true → stage_of p bytes ≡ Failed AllRefused → Found p bytes
    → HasNegotiated p false bytes
refused_by p bytes is e (BadLine bad) = absurd cc
refused_by p bytes is e (Talks talks begins) =
    absurd (let no : is_talk (Failed AllRefused) ≡ true = ap is_talk (sym e) ∙ talks in cc)
refused_by p bytes is e (SomeAccepted n) =
    absurd (stream_no_refusal (stream_of n.1) (sym (accepted_stage p bytes is n) ∙ e))
refused_by p bytes is e (NoneAccepted n) = n

pub all_refused_law : (p : PlanValue) (bytes : List ℕ) → is_plan p ≡ true
    → (stage_of p bytes ≡ Failed AllRefused) ↔ HasNegotiated p false bytes
all_refused_law p bytes is = (λ e. refused_by p bytes is e (found p bytes is), refused_stage p bytes is)

pub given_law : (p : PlanValue) (parts : List Part) → is_plan p ≡ true → IsDialogue p parts
    → given_from (begun p) (bytes_of parts) ≡ given_of parts
given_law p parts is d = all_given (begun p) parts (dialogue_reads p parts is d)

pub so_far_law : (p : PlanValue) (before after : List Part) (part : Part) (front more : List ℕ) → is_plan p ≡ true
    → IsDialogue p (before ++ part ∷ after) → part.bytes ≡ front ++ more → more ≢ []
    → given_from (begun p) (bytes_of before ++ front) ≡ given_of before
so_far_law p before after part front more is d =
    part_given (begun p) before part after front more (dialogue_reads p (before ++ part ∷ after) is d)

-- ---- what is asked

stays_asked : (r : ReaderValue) (is_some_accepted : Bool) (bytes : List ℕ) → r.stage ≡ stage_by is_some_accepted
    → (read_on r bytes).asked ≡ r.asked
stays_asked r true bytes is = stream_asks r (Going [] []) bytes is
stays_asked r false bytes is = ap (λ s. s.asked) (failed_reads_on r AllRefused bytes is)

pub asked_law : (p : PlanValue) (is_some_accepted : Bool) (parts : List Part) (more : List ℕ) → is_plan p ≡ true
    → (n : IsNegotiation p is_some_accepted parts) → asked_of p (bytes_of parts ++ more) ≡ asked_by p n.verdicts
asked_law p is_some_accepted parts more is n =
    let leads = parts_lead p is_some_accepted parts is n in
    ap (λ r. r.asked) (read_on-append (begun p) (bytes_of parts) more)
    ∙ stays_asked (read_on (begun p) (bytes_of parts)) is_some_accepted more (leads.stage_is ∙ ap stage_by n.some)
    ∙ leads.asks
