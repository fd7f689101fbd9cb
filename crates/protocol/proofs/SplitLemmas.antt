-- Bytes that are split at separators: with bytes in front, and at the first of them.
use Rattle.std.proofs.Common.{◌≡◌, ℕ, suc, ◌+◌, ◌-◌, ◌<◌, ◌≤◌, Bool, false, List, [], ◌∷◌, ◌++◌, length, take, drop}
use Rattle.std.proofs.Common.{nat_lt, Option, refl, sym, ap, ◌∙◌, append_assoc, arith, add-one, length-drop}
use Rattle.std.proofs.lemmas.Bool.{ltb-true, ltb-false}
use Rattle.std.proofs.lemmas.List.{take_all}
use Rattle.std.specs.List.{position, position_or_len}
use Rattle.std.specs.Option.{MatchOption}
use Rattle.std.specs.Prelude.{All}
use Rattle.std.proofs.lemmas.List.Elements.{All-head, All-tail}
use Rattle.protocol.specs.Pieces.{cons_first, split}
use Rattle.protocol.proofs.FoundLemmas.{both}

-- the pieces with bytes in front of the first
abbrev pub behind : List ℕ → List (List ℕ) → List (List ℕ)
behind bs [] = bs ∷ []
behind bs (p ∷ ps) = (bs ++ p) ∷ ps

pub behind-cons_first : (bs : List ℕ) (b : ℕ) (ps : List (List ℕ))
    → behind bs (cons_first b ps) ≡ behind (bs ++ b ∷ []) ps
behind-cons_first bs b [] = refl
behind-cons_first bs b (p ∷ ps) = ap (λ l. l ∷ ps) (sym (append_assoc bs (b ∷ []) p))

cons_first-behind : (b : ℕ) (bs : List ℕ) (ps : List (List ℕ)) → cons_first b (behind bs ps) ≡ behind (b ∷ bs) ps
cons_first-behind b bs [] = refl
cons_first-behind b bs (p ∷ ps) = refl

-- There is always a piece.
abbrev pub HasPiece : List (List ℕ) → Type 0
HasPiece [] = ⊥
HasPiece (p ∷ ps) = Unit {0}

first_has_piece : (b : ℕ) (ps : List (List ℕ)) → HasPiece (cons_first b ps)
first_has_piece b [] = tt
first_has_piece b (p ∷ ps) = tt

pub behind_nothing : (ps : List (List ℕ)) → HasPiece ps → behind [] ps ≡ ps
behind_nothing [] some = absurd some
behind_nothing (p ∷ ps) some = refl

-- the form of a sum that `take` and `drop` go by
one_more : (k : ℕ) → 1 + k ≡ suc k
one_more k = omega arith

module _ (is_separator : ℕ → Bool) where
  pub some_piece : (bytes : List ℕ) → HasPiece (split is_separator bytes)
  some_piece [] = tt
  some_piece (b ∷ bytes) = both (is_separator b) (λ y. rw y tt)
      (λ n. rw n (first_has_piece b (split is_separator bytes)))

  -- Bytes without a separator are the beginning of the first piece.
  pub split-append : (bs rest : List ℕ) → All (λ b. is_separator b ≡ false) bs
      → split is_separator (bs ++ rest) ≡ behind bs (split is_separator rest)
  split-append [] rest none = sym (behind_nothing (split is_separator rest) (some_piece rest))
  split-append (b ∷ bs) rest none =
      rw (All-head (λ b. is_separator b ≡ false) b bs none)
      (ap (cons_first b) (split-append bs rest (All-tail (λ b. is_separator b ≡ false) b bs none))
      ∙ cons_first-behind b bs (split is_separator rest))

  -- where a separator stands
  pieces_at : (xs : List ℕ) → position_or_len is_separator xs < length xs
      → split is_separator xs ≡ take (position_or_len is_separator xs) xs
      ∷ split is_separator (drop (suc (position_or_len is_separator xs)) xs)
  pieces_at [] h = absurd (omega arith)
  pieces_at (x ∷ xs) h =
      both (is_separator x)
      (λ y. rw y refl)
      (λ n. let h' : position_or_len is_separator xs < length xs = omega (arith, rw n at h) in
      rw (n, one_more (position_or_len is_separator xs), pieces_at xs h') refl)

  -- where none stands
  pieces_whole : (xs : List ℕ) → length xs ≤ position_or_len is_separator xs → split is_separator xs ≡ xs ∷ []
  pieces_whole [] h = refl
  pieces_whole (x ∷ xs) h =
      both (is_separator x)
      (λ y. absurd (omega (arith, rw y at h)))
      (λ n. let h' : length xs ≤ position_or_len is_separator xs = omega (arith, rw n at h) in
      rw (n, pieces_whole xs h') refl)

  -- both, by what a search for a separator found
  pub first_cut : (xs : List ℕ) (r : Option ℕ) → r ≡ position is_separator xs
      → MatchOption r (split is_separator xs ≡ xs ∷ [])
      (λ at. split is_separator xs ≡ take at xs ∷ split is_separator (drop (at + 1) xs))
  first_cut xs r e =
      both (nat_lt (position_or_len is_separator xs) (length xs))
      (λ y. rw (e, y, add-one) (pieces_at xs (ltb-true _ _ y)))
      (λ n. rw (e, n) (pieces_whole xs (ltb-false _ _ n)))

-- a slice to the end
pub rest_whole : (xs : List ℕ) (n : ℕ) → take (length xs - n) (drop n xs) ≡ drop n xs
rest_whole xs n = take_all (length xs - n) (drop n xs) (rw (length-drop n xs) (omega arith))
