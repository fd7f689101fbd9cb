-- The two lines that answer HELLO: what a reader makes of them, and of whatever bytes come in their place.
use Rattle.std.proofs.Common.{◌≡◌, ℕ, ◌+◌, ◌≤◌, Bool, false, ◌==◌, List, [], ◌∷◌, ◌++◌, length, refl, sym, ap, ◌∙◌}
use Rattle.std.proofs.Common.{subst, arith, append_assoc, append-nil, length-append, inl, inr, true≢false}
use Rattle.std.specs.Prelude.{◌≢◌}
use Rattle.protocol.specs.Lines.{line_end}
use Rattle.slreader.specs.declared.pieces.LinePiece.{LinePiece}
use Rattle.slreader.specs.declared.pieces.LinePiece.TheVariants as line
use Rattle.slreader.specs.Pieces.{greeting}
use Rattle.slreader.specs.Dialogue.{ReaderValue, after_byte, given_by, given_from, read_on, at_stage, ask_next}
use Rattle.slreader.specs.Dialogue.Stage.{FirstLine, SecondLine}
use Rattle.slreader.specs.ReaderViews.{is_talk}
use Rattle.slreader.specs.Parts.{IsLine, first_part, second_part}
use Rattle.slreader.proofs.PartLemmas.{Reads, silent_front}
use Rattle.slreader.proofs.CourseLemmas.{Course, course_map, course_then, Expects, mark_course}
use Rattle.slreader.proofs.CourseLemmas.Course.{Fails, Within, Past}
use Rattle.slreader.proofs.LineLemmas.{tail_piece, LineRun, next_run, line_run, HasNoEnd, Completes, no_end_behind}
use Rattle.slreader.proofs.LineLemmas.{no_end_nil, room_completes, run_ends, run_ended, run_amid, first_after}
use Rattle.slreader.proofs.LineLemmas.{first_read, first_gives, first_given, second_after, second_read, second_gives}
use Rattle.slreader.proofs.LineLemmas.{second_given}
use Rattle.slreader.proofs.LineLemmas.LineRun.{Ended, Amid, NoLine}

-- ---- lines and what completes them

line_completes : (t : List ℕ) → IsLine [] t → Completes 0 false t
line_completes t l = inl (record {
  text = l.text;
  short = let short = l.short in omega arith;
  one_line = l.one_line;
  no_end_first = λ e. absurd (true≢false (sym e));
  whole = l.whole;
})

completes_line : (t : List ℕ) → Completes 0 false t → IsLine [] t
completes_line t (inl h) = record {
  text = h.text;
  marked = (h.text, refl);
  short = let short = h.short in omega arith;
  one_line = h.one_line;
  whole = h.whole;
}
completes_line t (inr (cr, e)) = absurd (true≢false (sym cr))

-- the rest of a line behind the greeting
record IsGreeted (t : List ℕ) : Type 0 where
  pub rest : List ℕ
  pub whole : t ≡ greeting ++ rest
  pub completes : Completes 10 false rest

greeted_parts : (t text rest : List ℕ) → text ≡ greeting ++ rest → length text ≤ 256 → HasNoEnd text
    → text ++ line_end ≡ t → IsGreeted t
greeted_parts t text rest marked short one_line whole =
    let size : length text ≡ 10 + length rest = ap length marked ∙ length-append greeting rest in
    record {
      rest = rest ++ line_end;
      whole = sym whole ∙ ap (λ x. x ++ line_end) marked ∙ append_assoc greeting rest line_end;
      completes = inl (record {
        text = rest;
        short = omega arith;
        one_line = λ before after e. one_line (greeting ++ before) after
            (marked ∙ ap (λ x. greeting ++ x) e ∙ sym (append_assoc greeting before (line_end ++ after)));
        no_end_first = λ e. absurd (true≢false (sym e));
        whole = refl;
      });
    }

line_greeted : (t : List ℕ) → IsLine greeting t → IsGreeted t
line_greeted t l = greeted_parts t l.text l.marked.0 l.marked.1 l.short l.one_line l.whole

completes_greeted : (t : List ℕ) → Completes 10 false t → IsLine greeting (greeting ++ t)
completes_greeted t (inl h) = record {
  text = greeting ++ h.text;
  marked = (h.text, refl);
  short = let short = h.short in let size = length-append greeting h.text in omega arith;
  one_line = no_end_behind greeting h.text refl h.one_line;
  whole = ap (λ x. greeting ++ x) h.whole;
}
completes_greeted t (inr (cr, e)) = absurd (true≢false (sym cr))

-- ---- a whole line

ends_whole : (count : ℕ) (t : List ℕ) → Completes count false t → line_run count false t ≡ Ended []
ends_whole count t completes =
    ap (line_run count false) (sym (append-nil t)) ∙ run_ends count false t [] completes

greeting_read : (r : ReaderValue) (t : List ℕ)
    → read_on (at_stage r (FirstLine 0 false)) (greeting ++ t) ≡ read_on (at_stage r (FirstLine 10 false)) t
unfolding after_byte
greeting_read r t = refl

greeting_given : (r : ReaderValue) (t : List ℕ)
    → given_from (at_stage r (FirstLine 0 false)) (greeting ++ t) ≡ given_from (at_stage r (FirstLine 10 false)) t
unfolding after_byte given_by
greeting_given r t = refl

greeted_leads : (r : ReaderValue) (t : List ℕ) → IsGreeted t
    → read_on (at_stage r (FirstLine 0 false)) t ≡ at_stage r (SecondLine 0 false)
greeted_leads r t g =
    ap (read_on (at_stage r (FirstLine 0 false))) g.whole ∙ greeting_read r g.rest
    ∙ first_read r 10 false g.rest (omega arith) ∙ ap (first_after r) (ends_whole 10 g.rest g.completes)

greeted_gives : (r : ReaderValue) (t : List ℕ) → IsGreeted t → given_from (at_stage r (FirstLine 0 false)) t ≡ []
greeted_gives r t g =
    ap (given_from (at_stage r (FirstLine 0 false))) g.whole ∙ greeting_given r g.rest
    ∙ first_given r 10 false g.rest (omega arith) ∙ ap (first_gives r) (ends_whole 10 g.rest g.completes)

pub first_leads : (r : ReaderValue) (t : List ℕ) → IsLine greeting t
    → read_on (at_stage r (FirstLine 0 false)) t ≡ at_stage r (SecondLine 0 false)
first_leads r t l = greeted_leads r t (line_greeted t l)

pub first_reads : (r : ReaderValue) (t : List ℕ) → IsLine greeting t
    → Reads (at_stage r (FirstLine 0 false)) (first_part t)
first_reads r t l =
    let none = greeted_gives r t (line_greeted t l) in
    record {
      given = none;
      silent = λ front more e some. silent_front (at_stage r (FirstLine 0 false)) front more
          (ap (given_from (at_stage r (FirstLine 0 false))) (sym e) ∙ none);
    }

pub second_leads : (r : ReaderValue) (t : List ℕ) → IsLine [] t
    → read_on (at_stage r (SecondLine 0 false)) t ≡ ask_next r
second_leads r t l =
    second_read r 0 false t ∙ ap (second_after r) (ends_whole 0 t (line_completes t l))

front_step : (r : ReaderValue) (front more : List ℕ) (p : LinePiece) (inner whole : LineRun)
    → next_run p (front ++ more) whole ≡ Ended [] → more ≢ []
    → (whole ≡ Ended [] → second_gives r inner ≡ []) → second_gives r (next_run p front inner) ≡ []
front_step r [] more line.Whole inner whole e some is = absurd (some cc)
front_step r (c ∷ front) more line.Whole inner whole e some is = absurd cc
front_step r front more line.Open inner whole e some is = is e
front_step r front more line.Other inner whole e some is = refl

front_silent : (r : ReaderValue) (count : ℕ) (after_cr : Bool) (front more : List ℕ)
    → line_run count after_cr (front ++ more) ≡ Ended [] → more ≢ []
    → second_gives r (line_run count after_cr front) ≡ []
front_silent r count after_cr [] more e some = refl
front_silent r count after_cr (b ∷ front) more e some =
    front_step r front more (tail_piece count after_cr b) (line_run (count + 1) (b == 13) front)
    (line_run (count + 1) (b == 13) (front ++ more)) e some
    (λ whole. front_silent r (count + 1) (b == 13) front more whole some)

pub second_reads : (r : ReaderValue) (t : List ℕ) → IsLine [] t
    → Reads (at_stage r (SecondLine 0 false)) (second_part t)
second_reads r t l =
    let ends = ends_whole 0 t (line_completes t l) in
    record {
      given = second_given r 0 false t ∙ ap (second_gives r) ends;
      silent = λ front more e some. second_given r 0 false front
          ∙ front_silent r 0 false front more (ap (line_run 0 false) (sym e) ∙ ends) some;
    }

-- ---- and whatever bytes come

greeting_expected : (r : ReaderValue) → Expects (at_stage r (FirstLine 0 false)) greeting
unfolding after_byte
greeting_expected r = (
  λ b n. rw n,
  refl,
  (
    λ b n. rw n,
    refl,
    (
      λ b n. rw n,
      refl,
      (
        λ b n. rw n,
        refl,
        (
          λ b n. rw n,
          refl,
          (λ b n. rw n, refl, (λ b n. rw n, refl, (λ b n. rw n, refl, (λ b n. rw n, refl, (λ b n. rw n, refl, tt))))),
        ),
      ),
    ),
  ),
)

first_tail : (r : ReaderValue) (bytes : List ℕ) (run : LineRun) → line_run 10 false bytes ≡ run
    → Course (at_stage r (FirstLine 10 false)) (Completes 10 false) bytes
first_tail r bytes (Ended rest) e =
    let front = run_ended 10 false bytes rest e in
    Past front.front rest front.completes front.whole
first_tail r bytes (Amid count after_cr) e =
    let more = run_amid 10 false bytes count after_cr (inl (omega arith)) e in
    Within (ap (λ s. is_talk s.stage) (first_read r 10 false bytes (omega arith) ∙ ap (first_after r) e)) more.0 more.1
first_tail r bytes NoLine e =
    Fails (ap (λ s. s.stage) (first_read r 10 false bytes (omega arith) ∙ ap (first_after r) e))

pub first_course : (r : ReaderValue) (bytes : List ℕ) → Course (at_stage r (FirstLine 0 false)) (IsLine greeting) bytes
first_course r bytes =
    course_then (at_stage r (FirstLine 0 false)) (λ t. t ≡ greeting) (λ s k. Completes 10 false) (IsLine greeting) bytes
    (mark_course (at_stage r (FirstLine 0 false)) greeting bytes (greeting_expected r))
    (λ front rest k. subst (λ s. Course s (Completes 10 false) rest)
    (sym (ap (read_on (at_stage r (FirstLine 0 false))) k ∙ greeting_read r []))
    (first_tail r rest (line_run 10 false rest) refl))
    (λ s k. room_completes 10 false (inl (omega arith)))
    (λ s t k completes. subst (λ x. IsLine greeting (x ++ t)) (sym k) (completes_greeted t completes))

second_tail : (r : ReaderValue) (bytes : List ℕ) (run : LineRun) → line_run 0 false bytes ≡ run
    → Course (at_stage r (SecondLine 0 false)) (Completes 0 false) bytes
second_tail r bytes (Ended rest) e =
    let front = run_ended 0 false bytes rest e in
    Past front.front rest front.completes front.whole
second_tail r bytes (Amid count after_cr) e =
    let more = run_amid 0 false bytes count after_cr (inl (omega arith)) e in
    Within (ap (λ s. is_talk s.stage) (second_read r 0 false bytes ∙ ap (second_after r) e)) more.0 more.1
second_tail r bytes NoLine e =
    Fails (ap (λ s. s.stage) (second_read r 0 false bytes ∙ ap (second_after r) e))

pub second_course : (r : ReaderValue) (bytes : List ℕ) → Course (at_stage r (SecondLine 0 false)) (IsLine []) bytes
second_course r bytes =
    course_map (at_stage r (SecondLine 0 false)) (Completes 0 false) (IsLine []) bytes
    (second_tail r bytes (line_run 0 false bytes) refl) completes_line

-- an empty line
pub empty_line : IsLine [] line_end
empty_line = record { text = []; marked = ([], refl); short = omega arith; one_line = no_end_nil; whole = refl }
