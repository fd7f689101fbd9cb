-- The answers to the commands of a plan, in words and byte by byte.
use Rattle.std.proofs.Common.{◌≡◌, ℕ, Bool, true, false, ◌==◌, List, [], ◌∷◌, ◌++◌, refl, sym, ap, subst, eqb-true}
use Rattle.std.specs.Prelude.{codes}
use Rattle.protocol.specs.Lines.{line_end}
use Rattle.protocol.proofs.FoundLemmas.{both}
use Rattle.slreader.specs.declared.fault.ReaderFault.TheVariants.{BadReply}
use Rattle.slreader.specs.Pieces.{reply_text}
use Rattle.slreader.specs.Wants.{Command, command_of}
use Rattle.slreader.specs.Dialogue.{ReaderValue, after_byte, given_by, given_from, read_on, asking, refuse}
use Rattle.slreader.specs.Dialogue.Stage.{Answer, Failed}
use Rattle.slreader.specs.Parts.{ok_part, error_part}
use Rattle.slreader.proofs.PartLemmas.{Reads, silent_body, silent_front}
use Rattle.slreader.proofs.CourseLemmas.{Course, course_byte, Expects, mark_course, stays_failed}
use Rattle.slreader.proofs.CourseLemmas.Course.{Fails, Within}

-- ---- one answer

-- the reader that asked a command of the want
abbrev pub asked : ReaderValue → ℕ → List ℕ → List Command → ReaderValue
asked q want text ahead = asking q (command_of want text ∷ ahead)

-- the reader before an answer is whole
abbrev pub answering : ReaderValue → ℕ → List ℕ → List Command → ℕ → Bool → ReaderValue
answering q want text ahead count is_error =
    record (asked q want text ahead) { stage = Answer want count is_error }

abbrev pub IsReply : List ℕ → Type 0
IsReply t = (is_error : Bool) × (t ≡ reply_text is_error)

error_expected : (q : ReaderValue) (want : ℕ) (text : List ℕ) (ahead : List Command)
    → Expects (answering q want text ahead 1 true) (codes "RROR" ++ line_end)
unfolding after_byte
error_expected q want text ahead = (
  λ b n. rw n,
  refl,
  (λ b n. rw n, refl, (λ b n. rw n, refl, (λ b n. rw n, refl, (λ b n. rw n, refl, (λ b n. rw n, refl, tt))))),
)

ok_expected : (q : ReaderValue) (want : ℕ) (text : List ℕ) (ahead : List Command)
    → Expects (answering q want text ahead 1 false) (codes "K" ++ line_end)
unfolding after_byte
ok_expected q want text ahead = (λ b n. rw n, refl, (λ b n. rw n, refl, (λ b n. rw n, refl, tt)))

error_begun : (q : ReaderValue) (want : ℕ) (text : List ℕ) (ahead : List Command)
    → after_byte (asked q want text ahead) 69 ≡ answering q want text ahead 1 true
unfolding after_byte
error_begun q want text ahead = refl

ok_begun : (q : ReaderValue) (want : ℕ) (text : List ℕ) (ahead : List Command)
    → after_byte (asked q want text ahead) 79 ≡ answering q want text ahead 1 false
unfolding after_byte
ok_begun q want text ahead = refl

neither_begun : (q : ReaderValue) (want : ℕ) (text : List ℕ) (ahead : List Command) (b : ℕ) → (b == 69) ≡ false
    → (79 == b) ≡ false → (after_byte (asked q want text ahead) b).stage ≡ Failed BadReply
unfolding after_byte
neither_begun q want text ahead b n m = rw (n, m)

pub reply_course : (q : ReaderValue) (want : ℕ) (text : List ℕ) (ahead : List Command) (bytes : List ℕ)
    → Course (asked q want text ahead) IsReply bytes
reply_course q want text ahead [] = Within refl (codes "OK" ++ line_end) (false, refl)
reply_course q want text ahead (b ∷ bytes) =
    both (b == 69)
    (λ y. subst (λ x. Course (asked q want text ahead) IsReply (x ∷ bytes)) (sym (eqb-true b 69 y))
    (course_byte (asked q want text ahead) (λ t. t ≡ codes "RROR" ++ line_end) IsReply 69 bytes
    (subst (λ s. Course s (λ t. t ≡ codes "RROR" ++ line_end) bytes) (sym (error_begun q want text ahead))
    (mark_course (answering q want text ahead 1 true) (codes "RROR" ++ line_end) bytes
    (error_expected q want text ahead)))
    (λ t e. (true, ap (λ l. 69 ∷ l) e))))
    (λ n. both (79 == b)
    (λ y. subst (λ x. Course (asked q want text ahead) IsReply (x ∷ bytes)) (eqb-true 79 b y)
    (course_byte (asked q want text ahead) (λ t. t ≡ codes "K" ++ line_end) IsReply 79 bytes
    (subst (λ s. Course s (λ t. t ≡ codes "K" ++ line_end) bytes) (sym (ok_begun q want text ahead))
    (mark_course (answering q want text ahead 1 false) (codes "K" ++ line_end) bytes (ok_expected q want text ahead)))
    (λ t e. (false, ap (λ l. 79 ∷ l) e))))
    (λ m. Fails (stays_failed (after_byte (asked q want text ahead) b) BadReply bytes
    (neither_begun q want text ahead b n m))))

-- the reader that was answered OK, and asked the next command
abbrev pub past_ok : ReaderValue → ℕ → List ℕ → List Command → ReaderValue
past_ok q want text ahead = answering q want text ahead 3 false

pub ok_reads_on : (q : ReaderValue) (want : ℕ) (text : List ℕ) (ahead : List Command)
    → read_on (asked q want text ahead) ok_part.bytes ≡ asking (past_ok q want text ahead) ahead
unfolding after_byte
ok_reads_on q want text ahead = refl

pub ok_reads : (q : ReaderValue) (want : ℕ) (text : List ℕ) (ahead : List Command)
    → Reads (asked q want text ahead) ok_part
unfolding after_byte given_by
ok_reads q want text ahead = record {
  given = refl;
  silent = λ front more e some. silent_front (asked q want text ahead) front more
      (ap (given_from (asked q want text ahead)) (sym e));
}

pub error_reads_on : (q : ReaderValue) (want : ℕ) (text : List ℕ) (ahead : List Command)
    → read_on (asked q want text ahead) (error_part want).bytes ≡ refuse (answering q want text ahead 6 true) want
unfolding after_byte
error_reads_on q want text ahead = refl

pub error_reads : (q : ReaderValue) (want : ℕ) (text : List ℕ) (ahead : List Command)
    → Reads (asked q want text ahead) (error_part want)
unfolding after_byte given_by
error_reads q want text ahead = record {
  given = refl;
  silent = silent_body (asked q want text ahead) (codes "ERROR" ++ 13 ∷ []) 10 refl;
}
