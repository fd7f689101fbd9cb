-- The first word of a text, byte by byte.
use Rattle.std.proofs.Common.{◌≡◌, ℕ, ◌+◌, ◌<◌, false, suc, List, [], ◌∷◌, ◌++◌, length, take, drop, get_or, refl, sym}
use Rattle.std.proofs.Common.{ap, ◌∙◌, append_assoc, append-nil, arith, drop-cons, add-one}
use Rattle.std.specs.Prelude.{◌==◌}
use Rattle.std.proofs.lemmas.List.{take_more}
use Rattle.protocol.specs.Command.{words}
use Rattle.protocol.specs.Pieces.{split, without_empty, cons_first}
use Rattle.protocol.proofs.FoundLemmas.{both}

-- the pieces with bytes in front of the first
abbrev behind : List ℕ → List (List ℕ) → List (List ℕ)
behind bs [] = bs ∷ []
behind bs (p ∷ ps) = (bs ++ p) ∷ ps

-- the words of a text of which a first word has begun
abbrev pub begun : List ℕ → List ℕ → List (List ℕ)
begun bs rest = without_empty (behind bs (split (λ b. b == 32) rest))

behind-cons_first : (bs : List ℕ) (b : ℕ) (ps : List (List ℕ)) → behind bs (cons_first b ps) ≡ behind (bs ++ b ∷ []) ps
behind-cons_first bs b [] = refl
behind-cons_first bs b (p ∷ ps) = ap (λ l. l ∷ ps) (sym (append_assoc bs (b ∷ []) p))

begun-more : (bs : List ℕ) (b : ℕ) (rest : List ℕ) → (b == 32) ≡ false → begun bs (b ∷ rest) ≡ begun (bs ++ b ∷ []) rest
begun-more bs b rest e = rw e (ap without_empty (behind-cons_first bs b (split (λ b. b == 32) rest)))

at_front : (b : ℕ) (ps : List (List ℕ)) → behind [] (cons_first b ps) ≡ cons_first b ps
at_front b [] = refl
at_front b (p ∷ ps) = refl

pub begun-nothing : (rest : List ℕ) → begun [] rest ≡ words rest
begun-nothing [] = refl
begun-nothing (b ∷ rest) =
    both (b == 32) (λ y. rw y) (λ n. rw n (ap without_empty (at_front b (split (λ b. b == 32) rest))))

-- one more byte of the word
pub begun-step : (zs : List ℕ) (k : ℕ) → k < length zs → (get_or zs k 0 == 32) ≡ false
    → begun (take k zs) (drop k zs) ≡ begun (take (k + 1) zs) (drop (k + 1) zs)
begun-step zs k h e =
    rw (take_more zs k 0 h, add-one k) (ap (begun (take k zs)) (drop-cons zs k 0 h)
    ∙ begun-more (take k zs) (get_or zs k 0) (drop (suc k) zs) e)

-- a word that has a byte
pub word_of : (bs : List ℕ) (ps : List (List ℕ)) → 0 < length bs → without_empty (bs ∷ ps) ≡ bs ∷ without_empty ps
word_of [] ps some = absurd (grind arith)
word_of (b ∷ bs) ps some = refl

-- the word ends at the end of the text
pub begun-end : (bs : List ℕ) → 0 < length bs → begun bs [] ≡ bs ∷ words []
begun-end bs some = rw (append-nil bs) (word_of bs [] some)

-- the word ends at a space
pub begun-space : (bs rest : List ℕ) → 0 < length bs → begun bs (32 ∷ rest) ≡ bs ∷ words (32 ∷ rest)
begun-space bs rest some = rw (append-nil bs) (word_of bs (split (λ b. b == 32) rest) some)

pub begun-ended : (zs : List ℕ) (k : ℕ) → 0 < k → k < length zs → get_or zs k 0 ≡ 32
    → begun (take k zs) (drop k zs) ≡ take k zs ∷ words (drop k zs)
begun-ended zs k some h e =
    let d : drop k zs ≡ 32 ∷ drop (suc k) zs = drop-cons zs k 0 h ∙ ap (λ b. b ∷ drop (suc k) zs) e in
    rw d (begun-space (take k zs) (drop (suc k) zs) (grind arith))

pub ruleset word_lemmas = (begun-nothing, begun-step, begun-end, begun-ended)
