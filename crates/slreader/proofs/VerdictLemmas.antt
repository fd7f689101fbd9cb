-- The verdicts on the wants of a plan, in words and answer by answer.
use Rattle.std.proofs.Common.{◌≡◌, ℕ, zero, suc, ◌+◌, ◌-◌, ◌<◌, Bool, true, false, ◌==◌, ◌||◌, nat_lt, List, [], ◌∷◌}
use Rattle.std.proofs.Common.{◌++◌, take, length, map, replicate, refl, sym, ap, ◌∙◌, subst, arith, append_assoc}
use Rattle.std.proofs.Common.{append-nil, eqb-true, ne_eqb}
use Rattle.std.specs.List.{list_any}
use Rattle.std.proofs.lemmas.Bool.{eqb-false, lt-ltb}
use Rattle.protocol.proofs.FoundLemmas.{both}
use Rattle.slreader.specs.declared.fault.ReaderFault.TheVariants.{AllRefused}
use Rattle.slreader.specs.Pieces.{reply_text}
use Rattle.slreader.specs.Wants.{Command, command_of, last_command}
use Rattle.slreader.specs.Lines.{ended, begins_with, without}
use Rattle.slreader.specs.Dialogue.{ReaderValue, Stage, read_on, asking, ask_next, refuse}
use Rattle.slreader.specs.Dialogue.Stage.{Transfer, Failed}
use Rattle.slreader.specs.Parts.{Part, bytes_of, Verdict, IsVerdict, AreVerdicts, is_accepted, ok_part, error_part}
use Rattle.slreader.specs.Parts.{answers_of, answers_from, bytes_of_lines, all_asked, last_asked}
use Rattle.slreader.specs.Parts.Verdict.{Accepted, RefusedAfter}
use Rattle.slreader.proofs.ReadingLaws.{read_on-append}
use Rattle.slreader.proofs.PartLemmas.{ReadsAll, ReadsAll-append, bytes_of-append}
use Rattle.slreader.proofs.CourseLemmas.{Course, course_then}
use Rattle.slreader.proofs.CourseLemmas.Course.{Past}
use Rattle.slreader.proofs.AnswerLemmas.{asked, answering, past_ok, IsReply, reply_course, ok_reads, ok_reads_on}
use Rattle.slreader.proofs.AnswerLemmas.{error_reads, error_reads_on}

-- ---- commands that are asked

-- the commands of wants by their lines, of which the first has that number
abbrev pub commands_in : ℕ → List (List (List ℕ)) → List Command
commands_in want [] = []
commands_in want (lines ∷ more) = map (command_of want) lines ++ commands_in (want + 1) more

begins_later : (want later : ℕ) (more : List (List (List ℕ))) (text : List ℕ) → want < later
    → begins_with want (commands_in later more ++ last_command text ∷ []) ≡ false
begins_later want later [] text is = refl
begins_later want later ([] ∷ more) text is = begins_later want (later + 1) more text (omega arith)
begins_later want later ((l ∷ lines) ∷ more) text is = ne_eqb later want (λ e. absurd (omega arith))

without_none : (want : ℕ) (tail : List Command) → begins_with want tail ≡ false → without want tail ≡ tail
without_none want [] is = refl
without_none want (c ∷ tail) is = rw is

eqb-refl : (n : ℕ) → (n == n) ≡ true
eqb-refl n = both (n == n) (λ y. y) (λ no. absurd (eqb-false n n no refl))

without_want : (want : ℕ) (lines : List (List ℕ)) (tail : List Command) → begins_with want tail ≡ false
    → without want (map (command_of want) lines ++ tail) ≡ tail
without_want want [] tail is = without_none want tail is
without_want want (l ∷ lines) tail is = rw (eqb-refl want) (without_want want lines tail is)

-- ---- one want

-- The parts lead to the next want.
pub record Leads (r : ReaderValue) (parts : List Part) (kept : ℕ) (asked : List ℕ) (tail : List Command) : Type 0 where
  pub all : ReadsAll r parts
  pub after : ReaderValue
  pub keeps : after.kept ≡ kept
  pub asks : after.asked ≡ asked
  pub leads : read_on r (bytes_of parts) ≡ asking after tail

-- The want is refused: the parts lead to the next one, if one is left or was accepted.
pub record Refuses (r : ReaderValue) (parts : List Part) (kept : ℕ) (asked : List ℕ) (tail : List Command)
    : Type 0 where
  pub all : ReadsAll r parts
  pub over : (kept - 1 == 0) ≡ true → ((read_on r (bytes_of parts)).stage ≡ Failed AllRefused)
      × ((read_on r (bytes_of parts)).asked ≡ asked)
  pub goes_on : (kept - 1 == 0) ≡ false → (after : ReaderValue) × (after.kept ≡ kept - 1) × (after.asked ≡ asked)
      × (read_on r (bytes_of parts) ≡ asking after tail)

-- behind an OK
ok_leads_on : (q : ReaderValue) (want : ℕ) (text : List ℕ) (ahead : List Command) (parts : List Part)
    → read_on (asked q want text ahead) (bytes_of (ok_part ∷ parts))
    ≡ read_on (asking (past_ok q want text ahead) ahead) (bytes_of parts)
ok_leads_on q want text ahead parts =
    read_on-append (asked q want text ahead) ok_part.bytes (bytes_of parts)
    ∙ ap (λ s. read_on s (bytes_of parts)) (ok_reads_on q want text ahead)

ok_reads_all : (q : ReaderValue) (want : ℕ) (text : List ℕ) (ahead : List Command) (parts : List Part)
    → ReadsAll (asking (past_ok q want text ahead) ahead) parts → ReadsAll (asked q want text ahead) (ok_part ∷ parts)
ok_reads_all q want text ahead parts all =
    (ok_reads q want text ahead, subst (λ s. ReadsAll s parts) (sym (ok_reads_on q want text ahead)) all)

accepted_leads : (want : ℕ) (lines : List (List ℕ)) (tail : List Command) (q : ReaderValue)
    → Leads (asking q (map (command_of want) lines ++ tail)) (replicate (length lines) ok_part) q.kept
    (q.asked ++ bytes_of_lines lines) tail
accepted_leads want [] tail q =
    record { all = tt; after = q; keeps = refl; asks = sym (append-nil q.asked); leads = refl }
accepted_leads want (l ∷ lines) tail q =
    let ahead = map (command_of want) lines ++ tail in
    let inner = accepted_leads want lines tail (past_ok q want l ahead) in
    record {
      all = ok_reads_all q want l ahead (replicate (length lines) ok_part) inner.all;
      after = inner.after;
      keeps = inner.keeps ∙ asking_keeps q (command_of want l) ahead;
      asks = inner.asks ∙ append_assoc q.asked (ended l) (bytes_of_lines lines);
      leads = ok_leads_on q want l ahead (replicate (length lines) ok_part) ∙ inner.leads;
    }
  where
    asking_keeps : (q : ReaderValue) (c : Command) (ahead : List Command) → (asking q (c ∷ ahead)).kept ≡ q.kept
    asking_keeps q c ahead = refl

refused_here : (want : ℕ) (l : List ℕ) (lines : List (List ℕ)) (tail : List Command) (q : ReaderValue)
    → begins_with want tail ≡ false
    → Refuses (asking q (map (command_of want) (l ∷ lines) ++ tail)) (error_part want ∷ []) q.kept
    (q.asked ++ (ended l ++ [])) tail
refused_here want l lines tail q other =
    let ahead = map (command_of want) lines ++ tail in
    let before = answering q want l ahead 6 true in
    let whole : read_on (asked q want l ahead) (bytes_of (error_part want ∷ [])) ≡ refuse before want =
    ap (read_on (asked q want l ahead)) (append-nil (error_part want).bytes) ∙ error_reads_on q want l ahead in
    let asks : q.asked ++ ended l ≡ q.asked ++ (ended l ++ []) = ap (λ x. q.asked ++ x) (sym (append-nil (ended l))) in
    record {
      all = (error_reads q want l ahead, tt);
      over = λ y. (
        ap (λ s. s.stage) (whole ∙ none_left before want y),
        ap (λ s. s.asked) (whole ∙ none_left before want y) ∙ asks,
      );
      goes_on = λ n. (
        record before { ahead = without want ahead; kept = q.kept - 1 },
        refl,
        asks,
        whole ∙ some_left before want n
            ∙ ap (asking (record before { ahead = without want ahead; kept = q.kept - 1 }))
            (without_want want lines tail other),
      );
    }
  where
    none_left : (r : ReaderValue) (want : ℕ) → (r.kept - 1 == 0) ≡ true → refuse r want
        ≡ record r { stage = Failed AllRefused; ahead = without want r.ahead; kept = r.kept - 1 }
    none_left r want y = rw y

    some_left : (r : ReaderValue) (want : ℕ) → (r.kept - 1 == 0) ≡ false → refuse r want
        ≡ ask_next (record r { ahead = without want r.ahead; kept = r.kept - 1 })
    some_left r want n = rw n

refused_leads : (want oks : ℕ) (lines : List (List ℕ)) (tail : List Command) (q : ReaderValue)
    → begins_with want tail ≡ false → oks < length lines
    → Refuses (asking q (map (command_of want) lines ++ tail)) (replicate oks ok_part ++ error_part want ∷ []) q.kept
    (q.asked ++ bytes_of_lines (take (suc oks) lines)) tail
refused_leads want oks [] tail q other fits = absurd (omega arith)
refused_leads want zero (l ∷ lines) tail q other fits = refused_here want l lines tail q other
refused_leads want (suc oks) (l ∷ lines) tail q other fits =
    let ahead = map (command_of want) lines ++ tail in
    let parts = replicate oks ok_part ++ error_part want ∷ [] in
    let inner = refused_leads want oks lines tail (past_ok q want l ahead) other (omega arith) in
    let leads = ok_leads_on q want l ahead parts in
    let asks = append_assoc q.asked (ended l) (bytes_of_lines (take (suc oks) lines)) in
    record {
      all = ok_reads_all q want l ahead parts inner.all;
      over = λ y. let over = inner.over y in
          (ap (λ s. s.stage) leads ∙ over.0, ap (λ s. s.asked) leads ∙ over.1 ∙ asks);
      goes_on = λ n. let on = inner.goes_on n in (on.0, on.1, on.2 ∙ asks, leads ∙ on.3);
    }

-- ---- all wants

-- what a reader is sent next, once all wants are answered
abbrev pub stage_by : (is_some_accepted : Bool) → Stage
stage_by true = Transfer []
stage_by false = Failed AllRefused

-- The parts lead to that stage, and the lines are asked meanwhile and then the last one, if some want is accepted.
pub record LeadsTo (r : ReaderValue) (parts : List Part) (is_some_accepted : Bool) (before : List ℕ)
    (lines : List (List ℕ)) (last : List ℕ) : Type 0 where
  pub all : ReadsAll r parts
  pub stage_is : (read_on r (bytes_of parts)).stage ≡ stage_by is_some_accepted
  pub asks : (read_on r (bytes_of parts)).asked
      ≡ before ++ bytes_of_lines (lines ++ last_asked is_some_accepted last)

-- the reader before the commands of wants
abbrev pub at_wants : ReaderValue → ℕ → List (List (List ℕ)) → List ℕ → ReaderValue
at_wants q want more text = asking q (commands_in want more ++ last_command text ∷ [])

bytes_of_lines-append : (ks ls : List (List ℕ)) → bytes_of_lines (ks ++ ls) ≡ bytes_of_lines ks ++ bytes_of_lines ls
bytes_of_lines-append [] ls = refl
bytes_of_lines-append (k ∷ ks) ls = ap (λ x. ended k ++ x) (bytes_of_lines-append ks ls)
    ∙ sym (append_assoc (ended k) (bytes_of_lines ks) (bytes_of_lines ls))

-- lines behind lines
lines_behind : (asked before middle : List ℕ) (ks ls ms : List (List ℕ)) → asked ≡ middle ++ bytes_of_lines (ls ++ ms)
    → middle ≡ before ++ bytes_of_lines ks → asked ≡ before ++ bytes_of_lines ((ks ++ ls) ++ ms)
lines_behind asked before middle ks ls ms is middle_is =
    is ∙ ap (λ x. x ++ bytes_of_lines (ls ++ ms)) middle_is
    ∙ append_assoc before (bytes_of_lines ks) (bytes_of_lines (ls ++ ms))
    ∙ ap (λ x. before ++ x) (sym (bytes_of_lines-append ks (ls ++ ms)))
    ∙ ap (λ x. before ++ bytes_of_lines x) (sym (append_assoc ks ls ms))

-- parts behind parts
leads_behind : (r s : ReaderValue) (ps qs : List Part) (b : Bool) (before middle : List ℕ) (ks ls : List (List ℕ))
    (last : List ℕ) → ReadsAll r ps → read_on r (bytes_of ps) ≡ s → middle ≡ before ++ bytes_of_lines ks
    → LeadsTo s qs b middle ls last → LeadsTo r (ps ++ qs) b before (ks ++ ls) last
leads_behind r s ps qs b before middle ks ls last all is middle_is more =
    let through : read_on r (bytes_of (ps ++ qs)) ≡ read_on s (bytes_of qs) =
    ap (read_on r) (bytes_of-append ps qs) ∙ read_on-append r (bytes_of ps) (bytes_of qs)
    ∙ ap (λ t. read_on t (bytes_of qs)) is in
    record {
      all = ReadsAll-append r ps qs all (subst (λ t. ReadsAll t qs) (sym is) more.all);
      stage_is = ap (λ t. t.stage) through ∙ more.stage_is;
      asks = lines_behind (read_on r (bytes_of (ps ++ qs))).asked before middle ks ls (last_asked b last)
          (ap (λ t. t.asked) through ∙ more.asks) middle_is;
    }

some_or : (a : ℕ) (b : Bool) → nat_lt 0 (a + 1) || b ≡ nat_lt 0 a || (true || b)
some_or a b = rw (lt-ltb 0 (a + 1) (omega arith)) (both (nat_lt 0 a) (λ y. rw y) (λ n. rw n))

-- the commands of the first want and of the others
first_and_more : (q : ReaderValue) (want : ℕ) (lines : List (List ℕ)) (more : List (List (List ℕ))) (text : List ℕ)
    → at_wants q want (lines ∷ more) text
    ≡ asking q (map (command_of want) lines ++ (commands_in (want + 1) more ++ last_command text ∷ []))
first_and_more q want lines more text = ap (asking q)
    (append_assoc (map (command_of want) lines) (commands_in (want + 1) more) (last_command text ∷ []))

abbrev counts : List (List (List ℕ)) → List ℕ
counts more = map length more

-- All wants from one on lead on, whatever reader asks them.
abbrev pub WantsLead : ℕ → List (List (List ℕ)) → List ℕ → List Verdict → Type 0
WantsLead want more text verdicts = (q : ReaderValue) (accepted : ℕ) → q.kept ≡ accepted + length more
    → 0 < accepted + length more
    → LeadsTo (at_wants q want more text) (answers_from want (counts more) verdicts)
    (nat_lt 0 accepted || list_any is_accepted verdicts) q.asked (all_asked more verdicts) text

none_left : (want : ℕ) (more : List (List (List ℕ))) (text : List ℕ) (verdicts : List Verdict) (accepted : ℕ)
    → accepted + length more ≡ 0 → AreVerdicts (counts more) verdicts → (r : ReaderValue) → r.stage ≡ Failed AllRefused
    → LeadsTo r (answers_from want (counts more) verdicts) (nat_lt 0 accepted || list_any is_accepted verdicts) r.asked
    (all_asked more verdicts) text
none_left want [] text [] accepted none fit r failed =
    let zero_is : accepted ≡ 0 = omega arith in
    subst (λ n. LeadsTo r [] (nat_lt 0 n || false) r.asked [] text) (sym zero_is)
    (record { all = tt; stage_is = failed; asks = sym (append-nil r.asked) })
none_left want [] text (v ∷ verdicts) accepted none fit r failed = absurd fit
none_left want (lines ∷ more) text verdicts accepted none fit r failed = absurd (omega arith)

want_leads : (want : ℕ) (lines : List (List ℕ)) (more : List (List (List ℕ))) (text : List ℕ) (v : Verdict)
    (verdicts : List Verdict) → IsVerdict (length lines) v → AreVerdicts (counts more) verdicts
    → WantsLead (want + 1) more text verdicts → WantsLead want (lines ∷ more) text (v ∷ verdicts)
want_leads want lines more text Accepted verdicts fit fits inner q accepted kept some =
    let tail = commands_in (want + 1) more ++ last_command text ∷ [] in
    let first = accepted_leads want lines tail q in
    let keeps = first.keeps in
    let asked = all_asked (lines ∷ more) (Accepted ∷ verdicts) in
    subst (λ r. LeadsTo r (answers_from want (counts (lines ∷ more)) (Accepted ∷ verdicts))
    (nat_lt 0 accepted || list_any is_accepted (Accepted ∷ verdicts)) q.asked asked text)
    (sym (first_and_more q want lines more text))
    (subst (λ b. LeadsTo (asking q (map (command_of want) lines ++ tail))
    (answers_from want (counts (lines ∷ more)) (Accepted ∷ verdicts)) b q.asked asked text)
    (some_or accepted (list_any is_accepted verdicts))
    (leads_behind (asking q (map (command_of want) lines ++ tail)) (asking first.after tail)
    (replicate (length lines) ok_part) (answers_from (want + 1) (counts more) verdicts)
    (nat_lt 0 (accepted + 1) || list_any is_accepted verdicts) q.asked first.after.asked lines (all_asked more verdicts)
    text first.all first.leads first.asks (inner first.after (accepted + 1) (omega arith) (omega arith))))
want_leads want lines more text (RefusedAfter oks) verdicts fit fits inner q accepted kept some =
    let tail = commands_in (want + 1) more ++ last_command text ∷ [] in
    let first = refused_leads want oks lines tail q (begins_later want (want + 1) more text (omega arith)) fit in
    let parts = replicate oks ok_part ++ error_part want ∷ [] in
    let r = asking q (map (command_of want) lines ++ tail) in
    let b = nat_lt 0 accepted || list_any is_accepted verdicts in
    subst (λ s. LeadsTo s (answers_from want (counts (lines ∷ more)) (RefusedAfter oks ∷ verdicts)) b q.asked
    (all_asked (lines ∷ more) (RefusedAfter oks ∷ verdicts)) text)
    (sym (first_and_more q want lines more text))
    (both (q.kept - 1 == 0)
    (λ y. let none : q.kept - 1 ≡ 0 = eqb-true (q.kept - 1) 0 y in
    let over = first.over y in
    leads_behind r (read_on r (bytes_of parts)) parts (answers_from (want + 1) (counts more) verdicts) b q.asked
    (read_on r (bytes_of parts)).asked (take (suc oks) lines) (all_asked more verdicts) text first.all refl over.1
    (none_left (want + 1) more text verdicts accepted (omega arith) fits (read_on r (bytes_of parts)) over.0))
    (λ n. let on = first.goes_on n in
    let left : q.kept - 1 ≡ 0 → ⊥ = eqb-false (q.kept - 1) 0 n in
    let keeps : on.0.kept ≡ q.kept - 1 = on.1 in
    leads_behind r (asking on.0 tail) parts (answers_from (want + 1) (counts more) verdicts) b q.asked on.0.asked
    (take (suc oks) lines) (all_asked more verdicts) text first.all on.3 on.2
    (inner on.0 accepted (omega arith) (omega arith))))

pub wants_lead : (want : ℕ) (more : List (List (List ℕ))) (text : List ℕ) (verdicts : List Verdict)
    → AreVerdicts (map length more) verdicts → WantsLead want more text verdicts
wants_lead want [] text [] fit q accepted kept some =
    subst (λ b. LeadsTo (at_wants q want [] text) [] (b || false) q.asked [] text)
    (sym (lt-ltb 0 accepted (omega arith)))
    (record { all = tt; stage_is = refl; asks = ap (λ x. q.asked ++ x) (sym (append-nil (ended text))) })
wants_lead want [] text (v ∷ verdicts) fit q accepted kept some = absurd fit
wants_lead want (lines ∷ more) text [] fit q accepted kept some = absurd fit
wants_lead want (lines ∷ more) text (v ∷ verdicts) fit q accepted kept some =
    want_leads want lines more text v verdicts fit.0 fit.1 (wants_lead (want + 1) more text verdicts fit.1) q accepted
    kept some

-- ---- and whatever bytes come

-- the answers to a want of so many commands
abbrev IsAnswered : ℕ → ℕ → List ℕ → Type 0
IsAnswered want commands t = (v : Verdict) × IsVerdict commands v × (t ≡ bytes_of (answers_of want commands v))

-- what comes behind an answer
abbrev IsBehind : ℕ → ℕ → Bool → List ℕ → Type 0
IsBehind want commands true t = t ≡ []
IsBehind want commands false t = IsAnswered want commands t

abbrev behind_ok : Verdict → Verdict
behind_ok Accepted = Accepted
behind_ok (RefusedAfter oks) = RefusedAfter (suc oks)

verdict_behind : (commands : ℕ) (v : Verdict) → IsVerdict commands v → IsVerdict (suc commands) (behind_ok v)
verdict_behind commands Accepted fit = tt
verdict_behind commands (RefusedAfter oks) fit = omega arith

bytes_behind : (want commands : ℕ) (v : Verdict) → ok_part.bytes ++ bytes_of (answers_of want commands v)
    ≡ bytes_of (answers_of want (suc commands) (behind_ok v))
bytes_behind want commands Accepted = refl
bytes_behind want commands (RefusedAfter oks) = refl

reply_joins : (want commands : ℕ) (s t : List ℕ) (k : IsReply s) → IsBehind want commands k.0 t
    → IsAnswered want (suc commands) (s ++ t)
reply_joins want commands s t (true, e) none = (
  RefusedAfter zero,
  omega arith,
  ap (λ x. x ++ t) e ∙ ap (λ x. reply_text true ++ x) none,
)
reply_joins want commands s t (false, e) (v, fit, is) = (
  behind_ok v,
  verdict_behind commands v fit,
  ap (λ x. x ++ t) e ∙ ap (λ x. reply_text false ++ x) is ∙ bytes_behind want commands v,
)

some_behind : (want commands : ℕ) (is_error : Bool) → (x : List ℕ) × IsBehind want commands is_error x
some_behind want commands true = ([], refl)
some_behind want commands false = (bytes_of (answers_of want commands Accepted), (Accepted, tt, refl))

behind_reply : (q : ReaderValue) (want : ℕ) (l : List ℕ) (ahead : List Command) (commands : ℕ)
    → ((r : ReaderValue) (rest : List ℕ) → Course (asking r ahead) (IsAnswered want commands) rest)
    → (front rest : List ℕ) (k : IsReply front)
    → Course (read_on (asked q want l ahead) front) (IsBehind want commands k.0) rest
behind_reply q want l ahead commands inner front rest (true, e) = Past [] rest refl refl
behind_reply q want l ahead commands inner front rest (false, e) =
    subst (λ s. Course s (IsAnswered want commands) rest)
    (sym (ap (read_on (asked q want l ahead)) e ∙ ok_reads_on q want l ahead))
    (inner (past_ok q want l ahead) rest)

want_course : (want : ℕ) (lines : List (List ℕ)) (tail : List Command) (q : ReaderValue) (bytes : List ℕ)
    → Course (asking q (map (command_of want) lines ++ tail)) (IsAnswered want (length lines)) bytes
want_course want [] tail q bytes = Past [] bytes (Accepted, tt, refl) refl
want_course want (l ∷ lines) tail q bytes =
    let ahead = map (command_of want) lines ++ tail in
    course_then (asked q want l ahead) IsReply (λ s k. IsBehind want (length lines) k.0)
    (IsAnswered want (length (l ∷ lines))) bytes (reply_course q want l ahead bytes)
    (behind_reply q want l ahead (length lines) (want_course want lines tail))
    (λ s k. some_behind want (length lines) k.0) (reply_joins want (length lines))

-- the answers to wants
abbrev pub AreAnswered : ℕ → List ℕ → List ℕ → Type 0
AreAnswered want commands t =
    (verdicts : List Verdict) × AreVerdicts commands verdicts × (t ≡ bytes_of (answers_from want commands verdicts))

pub some_answered : (want : ℕ) (commands : List ℕ) → (x : List ℕ) × AreAnswered want commands x
some_answered want [] = ([], ([], tt, refl))
some_answered want (n ∷ commands) =
    let more = some_answered (want + 1) commands in
    let verdicts = Accepted ∷ more.1.0 in
    (bytes_of (answers_from want (n ∷ commands) verdicts), (verdicts, (tt, more.1.1), refl))

wants_join : (want n : ℕ) (commands s t : List ℕ) → IsAnswered want n s → AreAnswered (want + 1) commands t
    → AreAnswered want (n ∷ commands) (s ++ t)
wants_join want n commands s t (v, fit, is) (verdicts, fits, are) = (
  v ∷ verdicts,
  (fit, fits),
  ap (λ x. x ++ t) is ∙ ap (λ x. bytes_of (answers_of want n v) ++ x) are
      ∙ sym (bytes_of-append (answers_of want n v) (answers_from (want + 1) commands verdicts)),
)

abbrev WantsCourse : ℕ → List (List (List ℕ)) → List ℕ → Type 0
WantsCourse want more text = (q : ReaderValue) (accepted : ℕ) (bytes : List ℕ) → q.kept ≡ accepted + length more
    → 0 < accepted + length more → Course (at_wants q want more text) (AreAnswered want (counts more)) bytes

none_course : (want : ℕ) (more : List (List (List ℕ))) (r : ReaderValue) (rest : List ℕ) → length more ≡ 0
    → Course r (AreAnswered want (counts more)) rest
none_course want [] r rest none = Past [] rest ([], tt, refl) refl
none_course want (lines ∷ more) r rest none = absurd (omega arith)

behind_want : (q : ReaderValue) (want : ℕ) (lines : List (List ℕ)) (more : List (List (List ℕ))) (text : List ℕ)
    (accepted : ℕ) → q.kept ≡ accepted + suc (length more) → WantsCourse (want + 1) more text
    → (front rest : List ℕ) → IsAnswered want (length lines) front
    → Course
    (read_on (asking q (map (command_of want) lines ++ (commands_in (want + 1) more ++ last_command text ∷ []))) front)
    (AreAnswered (want + 1) (counts more)) rest
behind_want q want lines more text accepted kept inner front rest (Accepted, fit, is) =
    let tail = commands_in (want + 1) more ++ last_command text ∷ [] in
    let r = asking q (map (command_of want) lines ++ tail) in
    let first = accepted_leads want lines tail q in
    let keeps = first.keeps in
    subst (λ s. Course s (AreAnswered (want + 1) (counts more)) rest) (sym (ap (read_on r) is ∙ first.leads))
    (inner first.after (accepted + 1) rest (omega arith) (omega arith))
behind_want q want lines more text accepted kept inner front rest (RefusedAfter oks, fit, is) =
    let tail = commands_in (want + 1) more ++ last_command text ∷ [] in
    let r = asking q (map (command_of want) lines ++ tail) in
    let first = refused_leads want oks lines tail q (begins_later want (want + 1) more text (omega arith)) fit in
    both (q.kept - 1 == 0)
    (λ y. let none : q.kept - 1 ≡ 0 = eqb-true (q.kept - 1) 0 y in
    none_course (want + 1) more (read_on r front) rest (omega arith))
    (λ n. let on = first.goes_on n in
    let left : q.kept - 1 ≡ 0 → ⊥ = eqb-false (q.kept - 1) 0 n in
    let keeps : on.0.kept ≡ q.kept - 1 = on.1 in
    subst (λ s. Course s (AreAnswered (want + 1) (counts more)) rest) (sym (ap (read_on r) is ∙ on.3))
    (inner on.0 accepted rest (omega arith) (omega arith)))

pub wants_course : (want : ℕ) (more : List (List (List ℕ))) (text : List ℕ) → WantsCourse want more text
wants_course want [] text q accepted bytes kept some = Past [] bytes ([], tt, refl) refl
wants_course want (lines ∷ more) text q accepted bytes kept some =
    let tail = commands_in (want + 1) more ++ last_command text ∷ [] in
    subst (λ s. Course s (AreAnswered want (counts (lines ∷ more))) bytes)
    (sym (first_and_more q want lines more text))
    (course_then (asking q (map (command_of want) lines ++ tail)) (IsAnswered want (length lines))
    (λ s k. AreAnswered (want + 1) (counts more)) (AreAnswered want (counts (lines ∷ more))) bytes
    (want_course want lines tail q bytes)
    (behind_want q want lines more text accepted kept (wants_course (want + 1) more text))
    (λ s k. some_answered (want + 1) (counts more)) (wants_join want (length lines) (counts more)))
