-- The lines of last packets.
use Rattle.std.proofs.Common.{◌≡◌, ◌≢◌, ℕ, ◌<◌, List, [], ◌∷◌, ◌++◌, refl, sym, ap, ◌∙◌, arith, append_assoc}
use Rattle.std.proofs.Common.{length}
use Rattle.slreader.specs.Lasts.{LastValue}
use Rattle.slreader.specs.Wants.{is_code}
use Rattle.protocol.specs.Packet.{digits}
use Rattle.reader_state.specs.States.{AreLast, IsLast, Lacks, end_text, line_of, one_each, others_of, text_of}
use Rattle.reader_state.specs.States.{words_of}
use Rattle.reader_state.proofs.ByteLemmas.{both, code-lacks, digits-lack, end-lacks, lacks-append}

-- no such byte stands in the words of a last packet
words-lack-by : (b : ℕ) (l : LastValue) → b < 45 → b ≢ 32 → IsLast l → Lacks b (words_of l)
words-lack-by b l small other h =
    let named = both (is_code 2 l.network) (is_code 5 l.station) h.named in
    let below : b < 48 = omega (arith, small) in
    let differs : 32 ≢ b = λ is. other (sym is) in
    let ends : List ℕ = end_text l.reached.end in
    let numbers : List ℕ = digits l.reached.number ++ 32 ∷ ends in
    let stations : List ℕ = l.station ++ 32 ∷ numbers in
    let last : Lacks b ends = end-lacks b l.reached.end small h.ends in
    let third : Lacks b numbers =
    lacks-append b (digits l.reached.number) (32 ∷ ends) (digits-lack b l.reached.number below) (differs, last) in
    let second : Lacks b stations =
    lacks-append b l.station (32 ∷ numbers) (code-lacks b 5 l.station below named.1) (differs, third) in
    lacks-append b l.network (32 ∷ stations) (code-lacks b 2 l.network below named.0) (differs, second)

pub words-lack : (l : LastValue) → IsLast l → Lacks 10 (words_of l)
words-lack l h = words-lack-by 10 l (omega arith) (λ is. omega (arith, is)) h

-- no `#` stands in the lines of stations
pub text-lacks : (ls : List LastValue) → AreLast ls → Lacks 35 (text_of ls)
text-lacks [] h = tt
text-lacks (l ∷ ls) h =
    lacks-append 35 (line_of l) (text_of ls)
    (lacks-append 35 (words_of l) (10 ∷ []) (words-lack-by 35 l (omega arith) (λ is. omega (arith, is)) h.0)
    (λ is. omega (arith, is), tt)) (text-lacks ls h.1)

-- the first line and the others
pub text-first : (l : LastValue) (ls : List LastValue) → text_of (l ∷ ls) ≡ words_of l ++ 10 ∷ text_of ls
text-first l ls = append_assoc (words_of l) (10 ∷ []) (text_of ls)

pub text-append : (ls ms : List LastValue) → text_of (ls ++ ms) ≡ text_of ls ++ text_of ms
text-append [] ms = refl
text-append (l ∷ ls) ms =
    ap (λ t. line_of l ++ t) (text-append ls ms) ∙ sym (append_assoc (line_of l) (text_of ls) (text_of ms))

-- two texts of last packets, one behind the other
pub two-texts : (cleared lines whole : List ℕ) (one two three before : List LastValue) → cleared ≡ []
    → lines ≡ cleared ++ text_of (one_each one) → one ≡ three → two ≡ three
    → whole ≡ lines ++ text_of (others_of two before) → whole ≡ text_of (one_each three ++ others_of three before)
two-texts cleared lines whole one two three before none first a b second =
    second ∙ ap (λ l. l ++ text_of (others_of two before))
    (first ∙ ap (λ l. l ++ text_of (one_each one)) none ∙ ap (λ l. text_of (one_each l)) a)
    ∙ ap (λ l. text_of (one_each three) ++ text_of (others_of l before)) b
    ∙ sym (text-append (one_each three) (others_of three before))

-- ---- a line that is cut off

-- It is that of the first last packet.
pub record IsFirst (ls : List LastValue) (front rest : List ℕ) : Type 0 where
  pub first : LastValue
  pub others : List LastValue
  pub whole : ls ≡ first ∷ others
  pub is_last : IsLast first
  pub are_last : AreLast others
  pub line : front ≡ words_of first
  pub left : rest ≡ text_of others

pub line-first : (ls : List LastValue) (text front rest : List ℕ) → AreLast ls → text ≡ text_of ls
    → length rest < length text
    → ((xs ys : List ℕ) → Lacks 10 xs → text ≡ xs ++ 10 ∷ ys → (front ≡ xs) × (rest ≡ ys)) → IsFirst ls front rest
line-first [] text front rest h is smaller cut =
    let none : length text ≡ 0 = ap length is in absurd (omega (arith, none, smaller))
line-first (l ∷ ls) text front rest h is smaller cut =
    let both-are : (front ≡ words_of l) × (rest ≡ text_of ls) =
    cut (words_of l) (text_of ls) (words-lack l h.0) (is ∙ text-first l ls) in
    record {
      first = l;
      others = ls;
      whole = refl;
      is_last = h.0;
      are_last = h.1;
      line = both-are.0;
      left = both-are.1;
    }

-- Without a line no last packet is left.
pub no-line : (ls : List LastValue) (text : List ℕ) → AreLast ls → text ≡ text_of ls
    → ((xs ys : List ℕ) → Lacks 10 xs → text ≡ xs ++ 10 ∷ ys → ⊥) → ls ≡ []
no-line [] text h is cut = refl
no-line (l ∷ ls) text h is cut = absurd (cut (words_of l) (text_of ls) (words-lack l h.0) (is ∙ text-first l ls))
