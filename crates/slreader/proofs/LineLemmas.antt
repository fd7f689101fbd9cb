-- The lines that answer HELLO, in words and byte by byte.
use Rattle.std.proofs.Common.{◌≡◌, ℕ, ◌+◌, ◌<◌, ◌≤◌, Bool, true, false, ◌==◌, ◌&&◌, ◌||◌, nat_lt, List, [], ◌∷◌, ◌++◌}
use Rattle.std.proofs.Common.{length, refl, sym, ap, ◌∙◌, subst, arith, eqb-true, inl, inr, true≢false}
use Rattle.std.specs.Prelude.{not, ◌≢◌, ◌⊎◌, if◌then◌else◌}
use Rattle.std.specs.List.{list_all}
use Rattle.std.proofs.lemmas.Bool.{and_parts, lt-ltb, le-ltb}
use Rattle.std.proofs.lemmas.Bool.Decides.{nat_tests}
use Rattle.protocol.specs.Lines.{line_end}
use Rattle.protocol.proofs.FoundLemmas.{both}
use Rattle.slreader.specs.declared.fault.ReaderFault.TheVariants.{BadReply}
use Rattle.slreader.specs.declared.pieces.LinePiece.{LinePiece}
use Rattle.slreader.specs.declared.pieces.LinePiece.TheVariants as line
use Rattle.slreader.specs.Pieces.{greeting, line_piece}
use Rattle.slreader.specs.Wants.{Command}
use Rattle.slreader.specs.Dialogue.{ReaderValue, Given, after_byte, given_by, given_from, read_on, at_stage, asking}
use Rattle.slreader.specs.Dialogue.{ask_next, first_line, second_line, hello_given, fails}
use Rattle.slreader.specs.Dialogue.Stage.{FirstLine, SecondLine}
use Rattle.slreader.specs.Dialogue.Given.{Hello}

-- ---- one byte of a line without a mark, or behind it

abbrev pub tail_piece : ℕ → Bool → ℕ → LinePiece
tail_piece count after_cr b =
    if after_cr && b == 10 then line.Whole
    else if nat_lt count 256 || (count == 256 && b == 13) then line.Open
    else line.Other

pub behind_mark : (mark : List ℕ) (count : ℕ) (after_cr : Bool) (b : ℕ) → length mark ≤ count
    → line_piece mark count after_cr b ≡ tail_piece count after_cr b
behind_mark mark count after_cr b behind = rw (le-ltb count (length mark) behind)

-- ---- how far bytes are read as the rest of a line

pub data LineRun : Type 0 where
  -- The line was ended, and this is left.
  Ended : (rest : List ℕ) → LineRun
  Amid : (count : ℕ) (after_cr : Bool) → LineRun
  NoLine : LineRun

abbrev pub next_run : LinePiece → List ℕ → LineRun → LineRun
next_run line.Whole rest run = Ended rest
next_run line.Open rest run = run
next_run line.Other rest run = NoLine

abbrev pub line_run : ℕ → Bool → List ℕ → LineRun
line_run count after_cr [] = Amid count after_cr
line_run count after_cr (b ∷ bytes) =
    next_run (tail_piece count after_cr b) bytes (line_run (count + 1) (b == 13) bytes)

-- ---- what ends a line, in words

abbrev pub HasNoEnd : List ℕ → Type 0
HasNoEnd text = (before after : List ℕ) → text ≢ before ++ (line_end ++ after)

-- a text and CR LF, behind so many bytes
pub record IsRest (count : ℕ) (after_cr : Bool) (bytes : List ℕ) : Type 0 where
  pub text : List ℕ
  pub short : count + length text ≤ 256
  pub one_line : HasNoEnd text
  pub no_end_first : after_cr ≡ true → (after : List ℕ) → text ≢ 10 ∷ after
  pub whole : text ++ line_end ≡ bytes

-- That, or LF behind CR.
abbrev pub Completes : ℕ → Bool → List ℕ → Type 0
Completes count after_cr bytes = IsRest count after_cr bytes ⊎ ((after_cr ≡ true) × (bytes ≡ 10 ∷ []))

pub no_end_nil : HasNoEnd []
no_end_nil [] after e = absurd cc
no_end_nil (c ∷ before) after e = absurd cc

pub no_end_more : (b : ℕ) (text : List ℕ) → HasNoEnd text → (b ≡ 13 → (after : List ℕ) → text ≢ 10 ∷ after)
    → HasNoEnd (b ∷ text)
no_end_more b text none first [] after e = let cr : b ≡ 13 = cc in first cr after cc
no_end_more b text none first (a ∷ before) after e = none before after cc

-- Without CR a text ends no line, and neither does what stands behind it.
pub no_end_behind : (front text : List ℕ) → list_all (λ b. not (b == 13)) front ≡ true → HasNoEnd text
    → HasNoEnd (front ++ text)
no_end_behind [] text no_cr none = none
no_end_behind (b ∷ front) text no_cr none =
    let parts = and_parts (not (b == 13)) (list_all (λ c. not (c == 13)) front) no_cr in
    no_end_more b (front ++ text) (no_end_behind front text parts.1 none)
    (λ cr. absurd (let no : not (13 == 13) ≡ true = subst (λ x. not (x == 13) ≡ true) cr parts.0 in cc))

no_end_less : (b : ℕ) (text : List ℕ) → HasNoEnd (b ∷ text) → HasNoEnd text
no_end_less b text none before after e = none (b ∷ before) after cc

-- ---- one byte of that

is_open : (count : ℕ) (after_cr : Bool) (b : ℕ) → (after_cr && b == 10) ≡ false → count < 256
    → tail_piece count after_cr b ≡ line.Open
is_open count after_cr b not_end low = rw (not_end, lt-ltb count 256 low)

not_whole : (after_cr : Bool) (b : ℕ) → (after_cr ≡ true → b ≢ 10) → (after_cr && b == 10) ≡ false
not_whole true b h = both (b == 10) (λ y. absurd (h refl (eqb-true b 10 y))) (λ n. n)
not_whole false b h = refl

-- the last byte of the line, or another one
abbrev Goes : ℕ → Bool → ℕ → List ℕ → Type 0
Goes count after_cr b bytes = ((tail_piece count after_cr b ≡ line.Whole) × (bytes ≡ []))
    ⊎ ((tail_piece count after_cr b ≡ line.Open) × Completes (count + 1) (b == 13) bytes)

cr_piece : (count : ℕ) (after_cr : Bool) → count ≤ 256 → tail_piece count after_cr 13 ≡ line.Open
cr_piece count true low = grind (arith, nat_tests)
cr_piece count false low = grind (arith, nat_tests)

rest_goes : (count : ℕ) (after_cr : Bool) (b : ℕ) (bytes text : List ℕ) → count + length text ≤ 256 → HasNoEnd text
    → (after_cr ≡ true → (after : List ℕ) → text ≢ 10 ∷ after) → text ++ line_end ≡ b ∷ bytes
    → Goes count after_cr b bytes
rest_goes count after_cr b bytes [] short none first e =
    let is_cr : b ≡ 13 = cc in
    let is_lf : bytes ≡ 10 ∷ [] = cc in
    inr (
      subst (λ x. tail_piece count after_cr x ≡ line.Open) (sym is_cr) (cr_piece count after_cr (omega arith)),
      inr (subst (λ x. (x == 13) ≡ true) (sym is_cr) refl, is_lf),
    )
rest_goes count after_cr b bytes (c ∷ text) short none first e =
    let same : c ≡ b = cc in
    inr (
      is_open count after_cr b (not_whole after_cr b (λ t z. first t text cc)) (omega arith),
      inl (record {
        text = text;
        short = omega arith;
        one_line = no_end_less c text none;
        no_end_first = λ t after z. let is_cr = eqb-true b 13 t in none [] after cc;
        whole = cc;
      }),
    )

goes : (count : ℕ) (after_cr : Bool) (b : ℕ) (bytes : List ℕ) → Completes count after_cr (b ∷ bytes)
    → Goes count after_cr b bytes
goes count after_cr b bytes (inl h) =
    rest_goes count after_cr b bytes h.text h.short h.one_line h.no_end_first h.whole
goes count after_cr b bytes (inr (cr, e)) =
    let is_lf : b ≡ 10 = cc in
    let none : bytes ≡ [] = cc in
    inl (subst (λ x. tail_piece count after_cr x ≡ line.Whole) (sym is_lf) (rw cr), none)

-- what an open piece says
open_room : (count : ℕ) (after_cr : Bool) (b : ℕ) → tail_piece count after_cr b ≡ line.Open
    → (count < 256) ⊎ ((count ≡ 256) × (b ≡ 13))
open_room count after_cr b is =
    both (after_cr && b == 10)
    (λ y. absurd (let e = rw y at is in cc))
    (λ n. both (nat_lt count 256)
    (λ low. inl (grind (arith, nat_tests)))
    (λ high. both (count == 256)
    (λ at. both (b == 13) (λ cr. inr (eqb-true count 256 at, eqb-true b 13 cr))
    (λ no. absurd (let e = rw (n, high, at, no) at is in cc)))
    (λ not_at. absurd (let e = rw (n, high, not_at) at is in cc))))

open_first : (count : ℕ) (after_cr : Bool) (b : ℕ) → tail_piece count after_cr b ≡ line.Open → after_cr ≡ true
    → b ≢ 10
open_first count after_cr b is cr e =
    let is' : tail_piece count true 10 ≡ line.Open = subst (λ x. tail_piece count true x ≡ line.Open) e
    (subst (λ x. tail_piece count x b ≡ line.Open) cr is) in
    absurd cc

whole_is : (count : ℕ) (after_cr : Bool) (b : ℕ) → tail_piece count after_cr b ≡ line.Whole
    → (after_cr ≡ true) × (b ≡ 10)
whole_is count true b is =
    both (b == 10) (λ y. (refl, eqb-true b 10 y))
    (λ n. both (nat_lt count 256 || (count == 256 && b == 13)) (λ y. absurd (let e = rw (n, y) at is in cc))
    (λ m. absurd (let e = rw (n, m) at is in cc)))
whole_is count false b is =
    both (nat_lt count 256 || (count == 256 && b == 13)) (λ y. absurd (let e = rw y at is in cc))
    (λ m. absurd (let e = rw m at is in cc))

open_completes : (count : ℕ) (after_cr : Bool) (b : ℕ) (bytes : List ℕ) → tail_piece count after_cr b ≡ line.Open
    → Completes (count + 1) (b == 13) bytes → Completes count after_cr (b ∷ bytes)
open_completes count after_cr b bytes is (inl h) =
    let first = open_first count after_cr b is in
    let short = h.short in
    inl (record {
      text = b ∷ h.text;
      short = omega arith;
      one_line = no_end_more b h.text h.one_line (λ e. h.no_end_first (subst (λ x. (x == 13) ≡ true) (sym e) refl));
      no_end_first = λ cr after e. first cr cc;
      whole = ap (λ l. b ∷ l) h.whole;
    })
open_completes count after_cr b bytes is (inr (cr, e)) =
    let is_cr = eqb-true b 13 cr in
    inl (record {
      text = [];
      short = room (open_room count after_cr b is);
      one_line = no_end_nil;
      no_end_first = λ t after z. absurd cc;
      whole = cc;
    })
  where
    room : (count < 256) ⊎ ((count ≡ 256) × (b ≡ 13)) → count + 0 ≤ 256
    room (inl low) = omega arith
    room (inr (at, is_cr)) = omega arith

-- ---- all of it

no_nothing : (text : List ℕ) → text ++ line_end ≡ [] → ⊥
no_nothing [] e = cc
no_nothing (c ∷ text) e = cc

ends_step : (count : ℕ) (after_cr : Bool) (b : ℕ) (bytes rest : List ℕ) → Goes count after_cr b bytes →
    (Completes (count + 1) (b == 13) bytes → line_run (count + 1) (b == 13) (bytes ++ rest) ≡ Ended rest) →
    line_run count after_cr ((b ∷ bytes) ++ rest) ≡ Ended rest
ends_step count after_cr b bytes rest (inl (is, none)) inner =
    ap (λ p. next_run p (bytes ++ rest) (line_run (count + 1) (b == 13) (bytes ++ rest))) is
    ∙ ap (λ l. Ended (l ++ rest)) none
ends_step count after_cr b bytes rest (inr (is, more)) inner =
    ap (λ p. next_run p (bytes ++ rest) (line_run (count + 1) (b == 13) (bytes ++ rest))) is ∙ inner more

pub run_ends : (count : ℕ) (after_cr : Bool) (bytes rest : List ℕ) → Completes count after_cr bytes
    → line_run count after_cr (bytes ++ rest) ≡ Ended rest
run_ends count after_cr [] rest (inl h) = absurd (no_nothing h.text h.whole)
run_ends count after_cr [] rest (inr (cr, e)) = absurd cc
run_ends count after_cr (b ∷ bytes) rest h = ends_step count after_cr b bytes rest (goes count after_cr b bytes h)
    (run_ends (count + 1) (b == 13) bytes rest)

-- the line that was ended, and what is left
pub record Front (count : ℕ) (after_cr : Bool) (bytes rest : List ℕ) : Type 0 where
  pub front : List ℕ
  pub completes : Completes count after_cr front
  pub whole : bytes ≡ front ++ rest

ended_step : (count : ℕ) (after_cr : Bool) (b : ℕ) (bytes rest : List ℕ) (p : LinePiece)
    → tail_piece count after_cr b ≡ p
    → next_run p bytes (line_run (count + 1) (b == 13) bytes) ≡ Ended rest
    → (line_run (count + 1) (b == 13) bytes ≡ Ended rest → Front (count + 1) (b == 13) bytes rest)
    → Front count after_cr (b ∷ bytes) rest
ended_step count after_cr b bytes rest line.Whole is e inner =
    let whole = whole_is count after_cr b is in
    record { front = b ∷ []; completes = inr (whole.0, ap (λ x. x ∷ []) whole.1); whole = cc }
ended_step count after_cr b bytes rest line.Open is e inner =
    let more = inner e in
    record {
      front = b ∷ more.front;
      completes = open_completes count after_cr b more.front is more.completes;
      whole = ap (λ l. b ∷ l) more.whole;
    }
ended_step count after_cr b bytes rest line.Other is e inner = absurd cc

pub run_ended : (count : ℕ) (after_cr : Bool) (bytes rest : List ℕ) → line_run count after_cr bytes ≡ Ended rest
    → Front count after_cr bytes rest
run_ended count after_cr [] rest e = absurd cc
run_ended count after_cr (b ∷ bytes) rest e =
    ended_step count after_cr b bytes rest (tail_piece count after_cr b) refl e
    (run_ended (count + 1) (b == 13) bytes rest)

-- There is room for the end.
abbrev pub HasRoom : ℕ → Bool → Type 0
HasRoom count after_cr = (count ≤ 256) ⊎ (after_cr ≡ true)

abbrev pub CanComplete : ℕ → Bool → List ℕ → Type 0
CanComplete count after_cr bytes = (more : List ℕ) × Completes count after_cr (bytes ++ more)

pub room_completes : (count : ℕ) (after_cr : Bool) → HasRoom count after_cr → CanComplete count after_cr []
room_completes count true room = (10 ∷ [], inr (refl, refl))
room_completes count false (inr is) = absurd (true≢false (sym is))
room_completes count false (inl low) = (
  line_end,
  inl (record {
    text = [];
    short = omega arith;
    one_line = no_end_nil;
    no_end_first = λ t after z. absurd cc;
    whole = refl;
  }),
)

next_room : (count : ℕ) (after_cr : Bool) (b : ℕ) → tail_piece count after_cr b ≡ line.Open
    → HasRoom (count + 1) (b == 13)
next_room count after_cr b is = by_room (open_room count after_cr b is)
  where
    by_room : (count < 256) ⊎ ((count ≡ 256) × (b ≡ 13)) → HasRoom (count + 1) (b == 13)
    by_room (inl low) = inl (omega arith)
    by_room (inr (at, is_cr)) = inr (subst (λ x. (x == 13) ≡ true) (sym is_cr) refl)

amid_step : (count : ℕ) (after_cr : Bool) (b : ℕ) (bytes : List ℕ) (count' : ℕ) (after_cr' : Bool) (p : LinePiece)
    → tail_piece count after_cr b ≡ p
    → next_run p bytes (line_run (count + 1) (b == 13) bytes) ≡ Amid count' after_cr'
    → (HasRoom (count + 1) (b == 13) → line_run (count + 1) (b == 13) bytes ≡ Amid count' after_cr'
    → CanComplete (count + 1) (b == 13) bytes)
    → CanComplete count after_cr (b ∷ bytes)
amid_step count after_cr b bytes count' after_cr' line.Whole is e inner = absurd cc
amid_step count after_cr b bytes count' after_cr' line.Open is e inner =
    let more = inner (next_room count after_cr b is) e in
    (more.0, open_completes count after_cr b (bytes ++ more.0) is more.1)
amid_step count after_cr b bytes count' after_cr' line.Other is e inner = absurd cc

pub run_amid : (count : ℕ) (after_cr : Bool) (bytes : List ℕ) (count' : ℕ) (after_cr' : Bool) → HasRoom count after_cr
    → line_run count after_cr bytes ≡ Amid count' after_cr' → CanComplete count after_cr bytes
run_amid count after_cr [] count' after_cr' room e = room_completes count after_cr room
run_amid count after_cr (b ∷ bytes) count' after_cr' room e =
    amid_step count after_cr b bytes count' after_cr' (tail_piece count after_cr b) refl e
    (run_amid (count + 1) (b == 13) bytes count' after_cr')

-- ---- the reader at a line

pub failed_stays : (r : ReaderValue) (bytes : List ℕ) → read_on (fails r BadReply) bytes ≡ fails r BadReply
unfolding after_byte
failed_stays r [] = refl
failed_stays r (b ∷ bytes) = failed_stays r bytes

failed_gives : (r : ReaderValue) (bytes : List ℕ) → given_from (fails r BadReply) bytes ≡ []
unfolding after_byte given_by
failed_gives r [] = refl
failed_gives r (b ∷ bytes) = failed_gives r bytes

-- the reader after bytes of the first line
abbrev pub first_after : ReaderValue → LineRun → ReaderValue
first_after r (Ended rest) = read_on (at_stage r (SecondLine 0 false)) rest
first_after r (Amid count after_cr) = at_stage r (FirstLine count after_cr)
first_after r NoLine = fails r BadReply

abbrev pub first_gives : ReaderValue → LineRun → List Given
first_gives r (Ended rest) = given_from (at_stage r (SecondLine 0 false)) rest
first_gives r (Amid count after_cr) = []
first_gives r NoLine = []

first_step : (r : ReaderValue) (count : ℕ) (after_cr : Bool) (b : ℕ) (bytes : List ℕ) (p : LinePiece) (run : LineRun)
    → read_on (at_stage r (FirstLine (count + 1) (b == 13))) bytes ≡ first_after r run
    → read_on (first_line (at_stage r (FirstLine count after_cr)) count b p) bytes
    ≡ first_after r (next_run p bytes run)
first_step r count after_cr b bytes line.Whole run more = refl
first_step r count after_cr b bytes line.Open run more = more
first_step r count after_cr b bytes line.Other run more = failed_stays r bytes

pub first_read : (r : ReaderValue) (count : ℕ) (after_cr : Bool) (bytes : List ℕ) → 10 ≤ count
    → read_on (at_stage r (FirstLine count after_cr)) bytes ≡ first_after r (line_run count after_cr bytes)
unfolding after_byte
first_read r count after_cr [] late = refl
first_read r count after_cr (b ∷ bytes) late =
    ap (λ p. read_on (first_line (at_stage r (FirstLine count after_cr)) count b p) bytes)
    (behind_mark greeting count after_cr b late)
    ∙ first_step r count after_cr b bytes (tail_piece count after_cr b) (line_run (count + 1) (b == 13) bytes)
    (first_read r (count + 1) (b == 13) bytes (omega arith))

given_step : (r : ReaderValue) (count : ℕ) (after_cr : Bool) (b : ℕ) (bytes : List ℕ) (p : LinePiece) (run : LineRun)
    → given_from (at_stage r (FirstLine (count + 1) (b == 13))) bytes ≡ first_gives r run
    → given_from (first_line (at_stage r (FirstLine count after_cr)) count b p) bytes
    ≡ first_gives r (next_run p bytes run)
given_step r count after_cr b bytes line.Whole run more = refl
given_step r count after_cr b bytes line.Open run more = more
given_step r count after_cr b bytes line.Other run more = failed_gives r bytes

pub first_given : (r : ReaderValue) (count : ℕ) (after_cr : Bool) (bytes : List ℕ) → 10 ≤ count
    → given_from (at_stage r (FirstLine count after_cr)) bytes ≡ first_gives r (line_run count after_cr bytes)
unfolding after_byte given_by
first_given r count after_cr [] late = refl
first_given r count after_cr (b ∷ bytes) late =
    ap (λ p. given_from (first_line (at_stage r (FirstLine count after_cr)) count b p) bytes)
    (behind_mark greeting count after_cr b late)
    ∙ given_step r count after_cr b bytes (tail_piece count after_cr b) (line_run (count + 1) (b == 13) bytes)
    (first_given r (count + 1) (b == 13) bytes (omega arith))

-- the same of the second line
asking_at : (r : ReaderValue) (count : ℕ) (after_cr : Bool) (ahead : List Command)
    → asking (at_stage r (SecondLine count after_cr)) ahead ≡ asking r ahead
asking_at r count after_cr [] = refl
asking_at r count after_cr (c ∷ ahead) = refl

abbrev pub second_after : ReaderValue → LineRun → ReaderValue
second_after r (Ended rest) = read_on (ask_next r) rest
second_after r (Amid count after_cr) = at_stage r (SecondLine count after_cr)
second_after r NoLine = fails r BadReply

abbrev pub second_gives : ReaderValue → LineRun → List Given
second_gives r (Ended rest) = Hello ∷ given_from (ask_next r) rest
second_gives r (Amid count after_cr) = []
second_gives r NoLine = []

second_step : (r : ReaderValue) (count : ℕ) (after_cr : Bool) (b : ℕ) (bytes : List ℕ) (p : LinePiece) (run : LineRun)
    → read_on (at_stage r (SecondLine (count + 1) (b == 13))) bytes ≡ second_after r run
    → read_on (second_line (at_stage r (SecondLine count after_cr)) count b p) bytes
    ≡ second_after r (next_run p bytes run)
second_step r count after_cr b bytes line.Whole run more =
    ap (λ s. read_on s bytes) (asking_at r count after_cr r.ahead)
second_step r count after_cr b bytes line.Open run more = more
second_step r count after_cr b bytes line.Other run more = failed_stays r bytes

pub second_read : (r : ReaderValue) (count : ℕ) (after_cr : Bool) (bytes : List ℕ)
    → read_on (at_stage r (SecondLine count after_cr)) bytes ≡ second_after r (line_run count after_cr bytes)
unfolding after_byte
second_read r count after_cr [] = refl
second_read r count after_cr (b ∷ bytes) =
    ap (λ p. read_on (second_line (at_stage r (SecondLine count after_cr)) count b p) bytes)
    (behind_mark [] count after_cr b (omega arith))
    ∙ second_step r count after_cr b bytes (tail_piece count after_cr b) (line_run (count + 1) (b == 13) bytes)
    (second_read r (count + 1) (b == 13) bytes)

hello_step : (r : ReaderValue) (count : ℕ) (after_cr : Bool) (b : ℕ) (bytes : List ℕ) (p : LinePiece) (run : LineRun)
    → given_from (at_stage r (SecondLine (count + 1) (b == 13))) bytes ≡ second_gives r run
    → hello_given p ++ given_from (second_line (at_stage r (SecondLine count after_cr)) count b p) bytes
    ≡ second_gives r (next_run p bytes run)
hello_step r count after_cr b bytes line.Whole run more =
    ap (λ s. Hello ∷ given_from s bytes) (asking_at r count after_cr r.ahead)
hello_step r count after_cr b bytes line.Open run more = more
hello_step r count after_cr b bytes line.Other run more = failed_gives r bytes

pub second_given : (r : ReaderValue) (count : ℕ) (after_cr : Bool) (bytes : List ℕ)
    → given_from (at_stage r (SecondLine count after_cr)) bytes ≡ second_gives r (line_run count after_cr bytes)
unfolding after_byte given_by
second_given r count after_cr [] = refl
second_given r count after_cr (b ∷ bytes) =
    ap (λ p. hello_given p ++ given_from (second_line (at_stage r (SecondLine count after_cr)) count b p) bytes)
    (behind_mark [] count after_cr b (omega arith))
    ∙ hello_step r count after_cr b bytes (tail_piece count after_cr b) (line_run (count + 1) (b == 13) bytes)
    (second_given r (count + 1) (b == 13) bytes)
