-- The pieces of a text, one after the other, and the tokens so far.
use Rattle.std.proofs.Common.{◌≡◌, ℕ, ◌+◌, ◌<◌, Bool, List, [], ◌∷◌, ◌++◌, length, drop, get_or, refl, sym, ap, ◌∙◌}
use Rattle.std.proofs.Common.{append_assoc, append-nil, arith, drop-cons, add-one, Option, Some, None, true, false}
use Rattle.std.specs.Prelude.{Result, Ok, Err, find, cond}
use Rattle.std.specs.List.{slice_split, onto_first}
use Rattle.protocol.specs.Access.{Token}
use Rattle.protocol.specs.Pieces.{split, cons_first, without_empty}
use Rattle.protocol.proofs.FoundLemmas.{both}
use Rattle.access_list.specs.Tokens.{cons_token, tokens_of, token_of, is_refused}
use Rattle.access_list.specs.declared.fault.AccessFault.{AccessFault}

-- tokens before others
abbrev pub with_tokens : List Token → Result (List Token) AccessFault → Result (List Token) AccessFault
with_tokens ts (Ok us) = Ok (ts ++ us)
with_tokens ts (Err e) = Err e

pub with_one_more : (ts : List Token) (t : Token) (r : Result (List Token) AccessFault)
    → with_tokens ts (cons_token (Ok t) r) ≡ with_tokens (ts ++ t ∷ []) r
with_one_more ts t (Ok us) = ap Ok (sym (append_assoc ts (t ∷ []) us))
with_one_more ts t (Err e) = refl

-- what is left of the pieces
abbrev pub left : List Token → List (List ℕ) → ℕ → Result (List Token) AccessFault
left ts ps k = with_tokens ts (tokens_of (without_empty (drop k ps)))

-- the piece at hand
at_hand : (ps : List (List ℕ)) (k : ℕ) (w : List ℕ) → k < length ps → w ≡ get_or ps k w
    → drop k ps ≡ w ∷ drop (k + 1) ps
at_hand ps k w h e = rw (drop-cons ps k w h, ← e, add-one k)

empty_passed : (w : List ℕ) (ps : List (List ℕ)) → length w ≡ 0 → without_empty (w ∷ ps) ≡ without_empty ps
empty_passed [] ps e = refl
empty_passed (b ∷ bs) ps e = absurd (grind arith)

word_kept : (w : List ℕ) (ps : List (List ℕ)) → 0 < length w → without_empty (w ∷ ps) ≡ w ∷ without_empty ps
word_kept [] ps h = absurd (grind arith)
word_kept (b ∷ bs) ps h = refl

-- an empty piece is passed
pub left-empty : (ts : List Token) (ps : List (List ℕ)) (k : ℕ) (w : List ℕ) → k < length ps → w ≡ get_or ps k w
    → length w ≡ 0 → left ts ps k ≡ left ts ps (k + 1)
left-empty ts ps k w h e z = ap (λ qs. with_tokens ts (tokens_of (without_empty qs))) (at_hand ps k w h e)
    ∙ ap (λ qs. with_tokens ts (tokens_of qs)) (empty_passed w (drop (k + 1) ps) z)

-- a piece that has bytes
left-word : (ts : List Token) (ps : List (List ℕ)) (k : ℕ) (w : List ℕ) → k < length ps → w ≡ get_or ps k w
    → 0 < length w
    → left ts ps k ≡ with_tokens ts (cons_token (token_of w) (tokens_of (without_empty (drop (k + 1) ps))))
left-word ts ps k w h e some = ap (λ qs. with_tokens ts (tokens_of (without_empty qs))) (at_hand ps k w h e)
    ∙ ap (λ qs. with_tokens ts (tokens_of qs)) (word_kept w (drop (k + 1) ps) some)

-- it is a token
pub left-token : (ts : List Token) (ps : List (List ℕ)) (k : ℕ) (w : List ℕ) (t : Token) → k < length ps
    → w ≡ get_or ps k w → 0 < length w → token_of w ≡ Ok t → left ts ps k ≡ left (ts ++ t ∷ []) ps (k + 1)
left-token ts ps k w t h e some is =
    left-word ts ps k w h e some
    ∙ ap (λ r. with_tokens ts (cons_token r (tokens_of (without_empty (drop (k + 1) ps))))) is
    ∙ with_one_more ts t _

-- or none
pub left-fault : (ts : List Token) (ps : List (List ℕ)) (k : ℕ) (w : List ℕ) (f : AccessFault) → k < length ps
    → w ≡ get_or ps k w → 0 < length w → token_of w ≡ Err f → left ts ps k ≡ Err f
left-fault ts ps k w f h e some is =
    left-word ts ps k w h e some
    ∙ ap (λ r. with_tokens ts (cons_token r (tokens_of (without_empty (drop (k + 1) ps))))) is

-- no piece is left
pub left-end : (ts : List Token) (ps : List (List ℕ)) (k : ℕ) → drop k ps ≡ [] → left ts ps k ≡ Ok ts
left-end ts ps k e = ap (λ qs. with_tokens ts (tokens_of (without_empty qs))) e ∙ ap Ok (append-nil ts)

-- std's pieces are the definitions'
onto_is : (b : ℕ) (ps : List (List ℕ)) → onto_first b ps ≡ cons_first b ps
onto_is b [] = refl
onto_is b (p ∷ ps) = refl

pub pieces_are : (p : ℕ → Bool) (bs : List ℕ) → slice_split p bs ≡ split p bs
pieces_are p [] = refl
pieces_are p (b ∷ bs) = both (p b) (λ y. rw (y, pieces_are p bs))
    (λ n. rw (n, onto_is b (slice_split p bs), pieces_are p bs))

-- the first entry that is refused, among what is left of the pieces
abbrev pub refused_left : List (List ℕ) → ℕ → Option (List ℕ)
refused_left ps k = find is_refused (drop k ps)

-- the piece at hand is not refused
pub refused_left-passed : (ps : List (List ℕ)) (k : ℕ) (w : List ℕ) → k < length ps → w ≡ get_or ps k w
    → is_refused w ≡ false → refused_left ps k ≡ refused_left ps (k + 1)
refused_left-passed ps k w h e passed = ap (find is_refused) (at_hand ps k w h e)
    ∙ ap (λ b. cond b (Some w) (find is_refused (drop (k + 1) ps))) passed

-- or it is
pub refused_left-found : (ps : List (List ℕ)) (k : ℕ) (w : List ℕ) → k < length ps → w ≡ get_or ps k w
    → is_refused w ≡ true → refused_left ps k ≡ Some w
refused_left-found ps k w h e found = ap (find is_refused) (at_hand ps k w h e)
    ∙ ap (λ b. cond b (Some w) (find is_refused (drop (k + 1) ps))) found

-- no piece is left
pub refused_left-end : (ps : List (List ℕ)) (k : ℕ) → drop k ps ≡ [] → refused_left ps k ≡ None
refused_left-end ps k e = ap (find is_refused) e
