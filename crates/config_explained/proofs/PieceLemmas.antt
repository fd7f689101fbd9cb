-- The pieces of a list, one after the other, with a text for each.
use Rattle.std.proofs.Common.{◌≡◌, ℕ, ◌+◌, ◌<◌, Bool, true, false, ◌||◌, List, ◌∷◌, [], ◌++◌, length, drop, get_or}
use Rattle.std.proofs.Common.{flat_map, sym, ap, ◌∙◌}
use Rattle.std.proofs.Common.{append_assoc, append-nil, add-one, drop-cons}
use Rattle.std.proofs.Common.{Option, Some, None, map}
use Rattle.std.specs.Iterator.{Yields}
use Rattle.std.specs.List.{list_any}
use Rattle.std.proofs.lemmas.Iterator.{YieldsList}
use Rattle.std.proofs.lemmas.Iterator.Consumers.{YieldsList-turn, YieldsList-end}

-- ---- where a walk is

-- where the piece at hand stands, by the steps first
pub turn_of : {S A B : Type 0} {steps : S → Option A → S → Type 0} {v : A → B} {s : S} {all : List B}
    (xs : List A) (t : S) (y : Yields steps s xs t) → (r : Option A) (u : S) (x : A) → r ≡ Some x → steps t r u
    → (e : YieldsList steps v s all) → (length xs < length all) × (v x ≡ get_or all (length xs) (v x))
turn_of xs t y r u x is step e = YieldsList-turn e xs t y r u x is step

-- at the end, how many there were
pub end_of : {S A B : Type 0} {steps : S → Option A → S → Type 0} {v : A → B} {s : S} {all : List B}
    (xs : List A) (t : S) (y : Yields steps s xs t) → (r : Option A) (u : S) → r ≡ None → steps t r u
    → (e : YieldsList steps v s all) → (map v xs ≡ all) × (length xs ≡ length all)
end_of xs t y r u is step e = YieldsList-end e xs t y r u is step

-- ---- a text for each

-- the texts of the pieces that are left
abbrev pub pieces_left : (List ℕ → List ℕ) → List (List ℕ) → ℕ → List ℕ
pieces_left f ps k = flat_map f (drop k ps)

at_hand : (ps : List (List ℕ)) (k : ℕ) (w : List ℕ) → k < length ps → w ≡ get_or ps k w
    → drop k ps ≡ w ∷ drop (k + 1) ps
at_hand ps k w h e = rw (drop-cons ps k w h, ← e, add-one k)

-- one piece more
pub piece_more : (f : List ℕ → List ℕ) (ps : List (List ℕ)) (k : ℕ) (w all text : List ℕ) → k < length ps
    → w ≡ get_or ps k w → all ≡ text ++ pieces_left f ps k → all ≡ (text ++ f w) ++ pieces_left f ps (k + 1)
piece_more f ps k w all text h e so_far =
    so_far ∙ ap (λ qs. text ++ flat_map f qs) (at_hand ps k w h e)
    ∙ sym (append_assoc text (f w) (pieces_left f ps (k + 1)))

-- no piece is left
pub pieces_end : (f : List ℕ → List ℕ) (ps : List (List ℕ)) (k : ℕ) (all text : List ℕ) → drop k ps ≡ []
    → all ≡ text ++ pieces_left f ps k → text ≡ all
pieces_end f ps k all text none so_far = sym (so_far ∙ ap (λ qs. text ++ flat_map f qs) none ∙ append-nil text)

-- ---- whether one is there

-- among the pieces that are left
abbrev pub has_left : (List ℕ → Bool) → List (List ℕ) → ℕ → Bool
has_left p ps k = list_any p (drop k ps)

-- the piece at hand is it
pub has_found : (p : List ℕ → Bool) (ps : List (List ℕ)) (k : ℕ) (w : List ℕ) → k < length ps → w ≡ get_or ps k w
    → p w ≡ true → has_left p ps k ≡ true
has_found p ps k w h e found = ap (list_any p) (at_hand ps k w h e) ∙ ap (λ b. b || has_left p ps (k + 1)) found

-- or it is not
pub has_passed : (p : List ℕ → Bool) (ps : List (List ℕ)) (k : ℕ) (w : List ℕ) → k < length ps → w ≡ get_or ps k w
    → p w ≡ false → has_left p ps k ≡ has_left p ps (k + 1)
has_passed p ps k w h e passed = ap (list_any p) (at_hand ps k w h e) ∙ ap (λ b. b || has_left p ps (k + 1)) passed

-- no piece is left
pub has_end : (p : List ℕ → Bool) (ps : List (List ℕ)) (k : ℕ) → drop k ps ≡ [] → has_left p ps k ≡ false
has_end p ps k none = ap (list_any p) none
