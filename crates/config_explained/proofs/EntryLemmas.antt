-- The entries of a list, one piece after the other.
use Rattle.std.proofs.Common.{◌≡◌, ℕ, ◌+◌, ◌<◌, Bool, List, [], ◌∷◌, ◌++◌, length, drop, get_or, refl, sym, ap, ◌∙◌}
use Rattle.std.proofs.Common.{append_assoc, append-nil, arith, drop-cons, add-one}
use Rattle.std.specs.List.{slice_split, onto_first}
use Rattle.protocol.specs.Pieces.{split, cons_first, without_empty}
use Rattle.protocol.proofs.FoundLemmas.{both}
use Rattle.config_explained.specs.Holders.{words_of}

-- the words of what is left of the pieces
abbrev pub words_left : List (List ℕ) → ℕ → List ℕ
words_left ps k = words_of (without_empty (drop k ps))

at_hand : (ps : List (List ℕ)) (k : ℕ) (w : List ℕ) → k < length ps → w ≡ get_or ps k w
    → drop k ps ≡ w ∷ drop (k + 1) ps
at_hand ps k w h e = rw (drop-cons ps k w h, ← e, add-one k)

empty_passed : (w : List ℕ) (ps : List (List ℕ)) → length w ≡ 0 → without_empty (w ∷ ps) ≡ without_empty ps
empty_passed [] ps e = refl
empty_passed (b ∷ bs) ps e = absurd (grind arith)

word_kept : (w : List ℕ) (ps : List (List ℕ)) → 0 < length w → without_empty (w ∷ ps) ≡ w ∷ without_empty ps
word_kept [] ps h = absurd (grind arith)
word_kept (b ∷ bs) ps h = refl

-- an empty piece is passed
pub words_left-empty : (ps : List (List ℕ)) (k : ℕ) (w : List ℕ) → k < length ps → w ≡ get_or ps k w → length w ≡ 0
    → words_left ps k ≡ words_left ps (k + 1)
words_left-empty ps k w h e none = ap (λ qs. words_of (without_empty qs)) (at_hand ps k w h e)
    ∙ ap words_of (empty_passed w (drop (k + 1) ps) none)

-- another one is a word
pub words_left-word : (ps : List (List ℕ)) (k : ℕ) (w text : List ℕ) → k < length ps → w ≡ get_or ps k w
    → 0 < length w → text ++ words_left ps k ≡ (text ++ words_of (w ∷ [])) ++ words_left ps (k + 1)
words_left-word ps k w text h e some =
    ap (λ qs. text ++ words_of (without_empty qs)) (at_hand ps k w h e)
    ∙ ap (λ qs. text ++ words_of qs) (word_kept w (drop (k + 1) ps) some)
    ∙ ap (λ xs. text ++ (32 ∷ xs ++ words_left ps (k + 1))) (sym (append-nil w))
    ∙ sym (append_assoc text (words_of (w ∷ [])) (words_left ps (k + 1)))

-- no piece is left
pub words_left-end : (ps : List (List ℕ)) (k : ℕ) → drop k ps ≡ [] → words_left ps k ≡ []
words_left-end ps k e = ap (λ qs. words_of (without_empty qs)) e

-- std's pieces are the definitions'
onto_is : (b : ℕ) (ps : List (List ℕ)) → onto_first b ps ≡ cons_first b ps
onto_is b [] = refl
onto_is b (p ∷ ps) = refl

pub pieces_are : (p : ℕ → Bool) (bs : List ℕ) → slice_split p bs ≡ split p bs
pieces_are p [] = refl
pieces_are p (b ∷ bs) = both (p b) (λ y. rw (y, pieces_are p bs))
    (λ n. rw (n, onto_is b (slice_split p bs), pieces_are p bs))
