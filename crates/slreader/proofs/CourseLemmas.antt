-- How bytes go on from a reader: they fail, are the beginning of what may come, or begin with all of it.
use Rattle.std.proofs.Common.{◌≡◌, ℕ, true, false, ◌==◌, List, [], ◌∷◌, ◌++◌, refl, sym, ap, ◌∙◌, subst, append_assoc}
use Rattle.std.proofs.Common.{eqb-true}
use Rattle.protocol.proofs.FoundLemmas.{both}
use Rattle.slreader.specs.declared.fault.ReaderFault.{ReaderFault}
use Rattle.slreader.specs.declared.fault.ReaderFault.TheVariants.{BadReply}
use Rattle.slreader.specs.Dialogue.{ReaderValue, Stage, after_byte, byte_at, given_by, given_at, given_from, read_on}
use Rattle.slreader.specs.Dialogue.Stage.{Failed}
use Rattle.slreader.specs.ReaderViews.{is_talk}
use Rattle.slreader.proofs.ReadingLaws.{read_on-append}

-- Of the bytes that may come, these fail, are a beginning, or have one of them in front.
pub data Course (r : ReaderValue) (K : List ℕ → Type 0) (bytes : List ℕ) : Type 0 where
  Fails : (read_on r bytes).stage ≡ Failed BadReply → Course r K bytes
  Within : is_talk (read_on r bytes).stage ≡ true → (more : List ℕ) → K (bytes ++ more) → Course r K bytes
  Past : (front rest : List ℕ) → K front → bytes ≡ front ++ rest → Course r K bytes

-- ---- a reader that failed

byte_failed : (r : ReaderValue) (fault : ReaderFault) (stage : Stage) (b : ℕ) → stage ≡ Failed fault
    → byte_at r stage b ≡ r
byte_failed r fault stage b e = ap (λ s. byte_at r s b) e

after_failed : (r : ReaderValue) (fault : ReaderFault) (b : ℕ) → r.stage ≡ Failed fault → after_byte r b ≡ r
unfolding after_byte
after_failed r fault b e = byte_failed r fault r.stage b e

pub failed_reads_on : (r : ReaderValue) (fault : ReaderFault) (bytes : List ℕ) → r.stage ≡ Failed fault
    → read_on r bytes ≡ r
failed_reads_on r fault [] e = refl
failed_reads_on r fault (b ∷ bytes) e =
    ap (λ s. read_on s bytes) (after_failed r fault b e) ∙ failed_reads_on r fault bytes e

byte_silent : (r : ReaderValue) (fault : ReaderFault) (b : ℕ) → r.stage ≡ Failed fault → given_by r b ≡ []
unfolding given_by
byte_silent r fault b e = ap (λ s. given_at s b) e

pub failed_silent : (r : ReaderValue) (fault : ReaderFault) (bytes : List ℕ) → r.stage ≡ Failed fault
    → given_from r bytes ≡ []
failed_silent r fault [] e = refl
failed_silent r fault (b ∷ bytes) e =
    ap (λ l. l ++ given_from (after_byte r b) bytes) (byte_silent r fault b e)
    ∙ ap (λ s. given_from s bytes) (after_failed r fault b e) ∙ failed_silent r fault bytes e

pub stays_failed : (r : ReaderValue) (fault : ReaderFault) (bytes : List ℕ) → r.stage ≡ Failed fault
    → (read_on r bytes).stage ≡ Failed fault
stays_failed r fault bytes e = ap (λ s. s.stage) (failed_reads_on r fault bytes e) ∙ e

-- ---- courses one behind the other

pub course_map : (r : ReaderValue) (K L : List ℕ → Type 0) (bytes : List ℕ) → Course r K bytes
    → ((t : List ℕ) → K t → L t) → Course r L bytes
course_map r K L bytes (Fails e) f = Fails e
course_map r K L bytes (Within talks more k) f = Within talks more (f (bytes ++ more) k)
course_map r K L bytes (Past front rest k e) f = Past front rest (f front k) e

-- one byte before
pub course_byte : (r : ReaderValue) (K L : List ℕ → Type 0) (b : ℕ) (bytes : List ℕ) → Course (after_byte r b) K bytes
    → ((t : List ℕ) → K t → L (b ∷ t)) → Course r L (b ∷ bytes)
course_byte r K L b bytes (Fails e) f = Fails e
course_byte r K L b bytes (Within talks more k) f = Within talks more (f (bytes ++ more) k)
course_byte r K L b bytes (Past front rest k e) f = Past (b ∷ front) rest (f front k) (ap (λ l. b ∷ l) e)

read_parted : (r : ReaderValue) (bytes front rest : List ℕ) → bytes ≡ front ++ rest
    → read_on r bytes ≡ read_on (read_on r front) rest
read_parted r bytes front rest e = ap (read_on r) e ∙ read_on-append r front rest

behind_front : (r : ReaderValue) (K L M : List ℕ → Type 0) (bytes front rest : List ℕ) → K front → bytes ≡ front ++ rest
    → Course (read_on r front) L rest → ((t : List ℕ) → L t → M (front ++ t)) → Course r M bytes
behind_front r K L M bytes front rest k e (Fails bad) join =
    Fails (ap (λ s. s.stage) (read_parted r bytes front rest e) ∙ bad)
behind_front r K L M bytes front rest k e (Within talks more l) join =
    Within (ap (λ s. is_talk s.stage) (read_parted r bytes front rest e) ∙ talks) more
    (subst M (sym (append_assoc front rest more) ∙ ap (λ x. x ++ more) (sym e)) (join (rest ++ more) l))
behind_front r K L M bytes front rest k e (Past front' rest' l e') join =
    Past (front ++ front') rest' (join front' l)
    (e ∙ ap (λ x. front ++ x) e' ∙ sym (append_assoc front front' rest'))

-- What comes behind may depend on what came.
pub course_then : (r : ReaderValue) (K : List ℕ → Type 0) (L : (s : List ℕ) → K s → List ℕ → Type 0)
    (M : List ℕ → Type 0) (bytes : List ℕ) → Course r K bytes
    → ((front rest : List ℕ) (k : K front) → Course (read_on r front) (L front k) rest)
    → ((s : List ℕ) (k : K s) → (x : List ℕ) × L s k x)
    → ((s t : List ℕ) (k : K s) → L s k t → M (s ++ t)) → Course r M bytes
course_then r K L M bytes (Fails e) next some join = Fails e
course_then r K L M bytes (Within talks more k) next some join =
    let x = some (bytes ++ more) k in
    Within talks (more ++ x.0) (subst M (append_assoc bytes more x.0) (join (bytes ++ more) x.0 k x.1))
course_then r K L M bytes (Past front rest k e) next some join =
    behind_front r K (L front k) M bytes front rest k e (next front rest k) (λ t l. join front t k l)

-- ---- bytes that are expected one by one

-- Each byte but the expected one fails.
abbrev pub Expects : ReaderValue → List ℕ → Type 0
Expects r [] = Unit {0}
Expects r (c ∷ mark) = ((b : ℕ) → (c == b) ≡ false → (after_byte r b).stage ≡ Failed BadReply)
    × (is_talk r.stage ≡ true) × Expects (after_byte r c) mark

pub mark_course : (r : ReaderValue) (mark bytes : List ℕ) → Expects r mark → Course r (λ t. t ≡ mark) bytes
mark_course r [] bytes expects = Past [] bytes refl refl
mark_course r (c ∷ mark) [] expects = Within expects.1 (c ∷ mark) refl
mark_course r (c ∷ mark) (b ∷ bytes) expects =
    both (c == b)
    (λ y. subst (λ x. Course r (λ t. t ≡ c ∷ mark) (x ∷ bytes)) (eqb-true c b y)
    (course_byte r (λ t. t ≡ mark) (λ t. t ≡ c ∷ mark) c bytes (mark_course (after_byte r c) mark bytes expects.2)
    (λ t e. ap (λ l. c ∷ l) e)))
    (λ n. Fails (stays_failed (after_byte r b) BadReply bytes (expects.0 b n)))
