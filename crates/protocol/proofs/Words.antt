-- The words of a line are what stands between its spaces.
use Rattle.std.proofs.Common.{◌≡◌, ◌≢◌, ℕ, false, ◌==◌, List, [], ◌∷◌, ◌++◌, refl, sym, ap, ◌∙◌, append_assoc}
use Rattle.std.proofs.Common.{append-nil, subst, eqb-true, ne_eqb}
use Rattle.std.specs.Prelude.{All, ◌↔◌}
use Rattle.std.proofs.lemmas.Bool.{eqb-false}
use Rattle.std.proofs.lemmas.List.Elements.{All-nil, All-cons, All-push, All-weaker}
use Rattle.protocol.specs.Pieces.{cons_first, split, without_empty}
use Rattle.protocol.specs.Command.{words, IsWord, HasWords}
use Rattle.protocol.specs.Command.HasWords.{nothing, space, last_word, word_and_space}
use Rattle.protocol.proofs.FoundLemmas.{both}
use Rattle.protocol.proofs.SplitLemmas.{behind, behind-cons_first, split-append}

no_separator : (word : List ℕ) → All (λ b. b ≢ 32) word → All (λ b. (b == 32) ≡ false) word
no_separator word none = All-weaker (λ b. b ≢ 32) (λ b. (b == 32) ≡ false) (λ b ne. ne_eqb b 32 ne) word none

-- ---- the words that stand in a line are the words of it
words_of_word : (word : List ℕ) → IsWord word → words word ≡ word ∷ []
words_of_word [] is = absurd (is.some refl)
words_of_word (b ∷ bs) is =
    let whole = split-append (λ b. b == 32) (b ∷ bs) [] (no_separator (b ∷ bs) is.no_space) in
    ap words (sym (append-nil (b ∷ bs))) ∙ ap without_empty whole ∙ ap (λ l. l ∷ []) (append-nil (b ∷ bs))

words_behind_word : (word line : List ℕ) → IsWord word → words (word ++ 32 ∷ line) ≡ word ∷ words line
words_behind_word [] line is = absurd (is.some refl)
words_behind_word (b ∷ bs) line is =
    let whole = split-append (λ b. b == 32) (b ∷ bs) (32 ∷ line) (no_separator (b ∷ bs) is.no_space) in
    ap without_empty whole ∙ ap (λ l. l ∷ words line) (append-nil (b ∷ bs))

has_words : (line : List ℕ) (ws : List (List ℕ)) → HasWords line ws → words line ≡ ws
has_words _ _ nothing = refl
has_words _ _ (space line ws rest) = has_words line ws rest
has_words _ _ (last_word word is) = words_of_word word is
has_words _ _ (word_and_space word line ws is rest) = words_behind_word word line is
    ∙ ap (λ l. word ∷ l) (has_words line ws rest)

-- ---- and the words of a line stand in it
-- what is said of a line by itself, and of one behind the beginning of a word
record Stands (line : List ℕ) : Type 0 where
  alone : HasWords line (words line)
  begun : (word : List ℕ) → IsWord word
      → HasWords (word ++ line) (without_empty (behind word (split (λ b. b == 32) line)))

one_word : (word : List ℕ) → IsWord word → HasWords (word ++ []) (without_empty (behind word ([] ∷ [])))
one_word [] is = absurd (is.some refl)
one_word (b ∷ bs) is = rw append-nil (last_word (b ∷ bs) is)

word_ends : (word line : List ℕ) → IsWord word → HasWords line (words line)
    → HasWords (word ++ 32 ∷ line) (without_empty (behind word ([] ∷ split (λ b. b == 32) line)))
word_ends [] line is rest = absurd (is.some refl)
word_ends (b ∷ bs) line is rest =
    subst (λ w. HasWords (b ∷ bs ++ 32 ∷ line) (w ∷ words line)) (sym (append-nil (b ∷ bs)))
    (word_and_space (b ∷ bs) line (words line) is rest)

not_empty : (word : List ℕ) (b : ℕ) → word ++ b ∷ [] ≢ []
not_empty [] b e = absurd cc
not_empty (c ∷ word) b e = absurd cc

longer : (word : List ℕ) (b : ℕ) → IsWord word → b ≢ 32 → IsWord (word ++ b ∷ [])
longer word b is ne = record { some = not_empty word b; no_space = All-push (λ b. b ≢ 32) word b is.no_space ne }

one_byte : (b : ℕ) → b ≢ 32 → IsWord (b ∷ [])
one_byte b ne = record { some = not_empty [] b; no_space = All-cons (λ b. b ≢ 32) b [] ne (All-nil (λ b. b ≢ 32)) }

at_front : (b : ℕ) (ps : List (List ℕ)) → cons_first b ps ≡ behind (b ∷ []) ps
at_front b [] = refl
at_front b (p ∷ ps) = refl

stands : (line : List ℕ) → Stands line
stands [] = record { alone = nothing; begun = λ word is. one_word word is }
stands (b ∷ line) =
    let rest = stands line in
    both (b == 32)
    (λ y. let e : b ≡ 32 = eqb-true b 32 y in
    subst (λ c. Stands (c ∷ line)) (sym e)
    (record { alone = space line (words line) rest.alone; begun = λ word is. word_ends word line is rest.alone }))
    (λ n. let ne : b ≢ 32 = eqb-false b 32 n in
    record {
      alone = rw (n, at_front b (split (λ b. b == 32) line)) (rest.begun (b ∷ []) (one_byte b ne));
      begun = λ word is.
          rw (n, behind-cons_first word b (split (λ b. b == 32) line))
          (subst (λ l. HasWords l (without_empty (behind (word ++ b ∷ []) (split (λ b. b == 32) line))))
          (append_assoc word (b ∷ []) line) (rest.begun (word ++ b ∷ []) (longer word b is ne)));
    })

pub words_law : (line : List ℕ) (ws : List (List ℕ)) → (words line ≡ ws) ↔ HasWords line ws
words_law line ws = (λ e. let alone = (stands line).alone in subst (λ l. HasWords line l) e alone, has_words line ws)
