-- What a reader makes of parts of a dialogue, one by one.
use Rattle.std.proofs.Common.{◌≡◌, ℕ, List, [], ◌∷◌, ◌++◌, refl, sym, ap, ◌∙◌, subst, append_assoc}
use Rattle.std.specs.Prelude.{◌≢◌}
use Rattle.slreader.specs.Dialogue.{ReaderValue, Given, given_from, read_on}
use Rattle.slreader.specs.Parts.{Part, bytes_of, given_of}
use Rattle.slreader.proofs.ReadingLaws.{read_on-append, given_from-append}

-- A part gives what it gives by its last byte, and nothing before.
pub record Reads (r : ReaderValue) (p : Part) : Type 0 where
  pub given : given_from r p.bytes ≡ p.given
  pub silent : (front more : List ℕ) → p.bytes ≡ front ++ more → more ≢ [] → given_from r front ≡ []

abbrev pub ReadsAll : ReaderValue → List Part → Type 0
ReadsAll r [] = Unit {0}
ReadsAll r (p ∷ parts) = Reads r p × ReadsAll (read_on r p.bytes) parts

-- ---- lists of parts

pub bytes_of-append : (ps qs : List Part) → bytes_of (ps ++ qs) ≡ bytes_of ps ++ bytes_of qs
bytes_of-append [] qs = refl
bytes_of-append (p ∷ ps) qs = ap (λ l. p.bytes ++ l) (bytes_of-append ps qs)
    ∙ sym (append_assoc p.bytes (bytes_of ps) (bytes_of qs))

pub given_of-append : (ps qs : List Part) → given_of (ps ++ qs) ≡ given_of ps ++ given_of qs
given_of-append [] qs = refl
given_of-append (p ∷ ps) qs = ap (λ l. p.given ++ l) (given_of-append ps qs)
    ∙ sym (append_assoc p.given (given_of ps) (given_of qs))

pub ReadsAll-append : (r : ReaderValue) (ps qs : List Part) → ReadsAll r ps → ReadsAll (read_on r (bytes_of ps)) qs
    → ReadsAll r (ps ++ qs)
ReadsAll-append r [] qs first second = second
ReadsAll-append r (p ∷ ps) qs first second = (
  first.0,
  ReadsAll-append (read_on r p.bytes) ps qs first.1
      (subst (λ s. ReadsAll s qs) (read_on-append r p.bytes (bytes_of ps)) second),
)

-- ---- what they give

pub all_given : (r : ReaderValue) (ps : List Part) → ReadsAll r ps → given_from r (bytes_of ps) ≡ given_of ps
all_given r [] all = refl
all_given r (p ∷ ps) all =
    given_from-append r p.bytes (bytes_of ps)
    ∙ ap (λ l. l ++ given_from (read_on r p.bytes) (bytes_of ps)) all.0.given
    ∙ ap (λ l. p.given ++ l) (all_given (read_on r p.bytes) ps all.1)

-- All parts before give what they give, and the beginning of the next one nothing.
pub part_given : (r : ReaderValue) (before : List Part) (p : Part) (after : List Part) (front more : List ℕ)
    → ReadsAll r (before ++ p ∷ after) → p.bytes ≡ front ++ more → more ≢ []
    → given_from r (bytes_of before ++ front) ≡ given_of before
part_given r [] p after front more all parted some = all.0.silent front more parted some
part_given r (q ∷ before) p after front more all parted some =
    ap (given_from r) (append_assoc q.bytes (bytes_of before) front)
    ∙ given_from-append r q.bytes (bytes_of before ++ front)
    ∙ ap (λ l. l ++ given_from (read_on r q.bytes) (bytes_of before ++ front)) all.0.given
    ∙ ap (λ l. q.given ++ l) (part_given (read_on r q.bytes) before p after front more all.1 parted some)

-- ---- nothing before the last byte

pub nil_front : (xs ys : List Given) → xs ++ ys ≡ [] → xs ≡ []
nil_front [] ys e = refl
nil_front (x ∷ xs) ys e = absurd cc

pub nil_back : (xs ys : List Given) → xs ++ ys ≡ [] → ys ≡ []
nil_back [] ys e = e
nil_back (x ∷ xs) ys e = absurd cc

-- what gives nothing gives nothing before its end
pub silent_front : (r : ReaderValue) (front more : List ℕ) → given_from r (front ++ more) ≡ [] → given_from r front ≡ []
silent_front r front more none =
    nil_front (given_from r front) (given_from (read_on r front) more) (sym (given_from-append r front more) ∙ none)

-- bytes but for the last one are the front and more
front_of_front : (body : List ℕ) (last : ℕ) (front more : List ℕ) → body ++ last ∷ [] ≡ front ++ more → more ≢ []
    → (rest : List ℕ) × (body ≡ front ++ rest)
front_of_front body last [] more e some = (body, refl)
front_of_front [] last (b ∷ []) more e some = absurd (some cc)
front_of_front [] last (b ∷ c ∷ front) more e some = absurd cc
front_of_front (a ∷ body) last (b ∷ front) more e some =
    let inner : (rest : List ℕ) × (body ≡ front ++ rest) = front_of_front body last front more (cc) some in
    let first : a ≡ b = cc in
    (inner.0, let behind = inner.1 in cc)

pub silent_body : (r : ReaderValue) (body : List ℕ) (last : ℕ) → given_from r body ≡ [] → (front more : List ℕ)
    → body ++ last ∷ [] ≡ front ++ more → more ≢ [] → given_from r front ≡ []
silent_body r body last none front more parted some =
    let rest = front_of_front body last front more parted some in
    silent_front r front rest.0 (ap (given_from r) (sym rest.1) ∙ none)
