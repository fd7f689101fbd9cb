-- What the entries of a list mean, one after the other.
use Rattle.std.proofs.Common.{◌≡◌, ℕ, ◌+◌, ◌<◌, Bool, List, [], ◌∷◌, ◌++◌, length}
use Rattle.std.proofs.Common.{drop, get_or, flat_map, refl, sym, ap, ◌∙◌}
use Rattle.std.proofs.Common.{append_assoc, append-nil, add-one, drop-cons}
use Rattle.std.specs.List.{slice_split, onto_first}
use Rattle.toml.specs.Data.{Members}
use Rattle.protocol.specs.Pieces.{split, cons_first}
use Rattle.protocol.proofs.FoundLemmas.{both}
use Rattle.catalog.specs.Groups.{entry_apart}

-- std's pieces are the definitions'
onto_is : (b : ℕ) (ps : List (List ℕ)) → onto_first b ps ≡ cons_first b ps
onto_is b [] = refl
onto_is b (p ∷ ps) = refl

pub pieces_are : (p : ℕ → Bool) (bs : List ℕ) → slice_split p bs ≡ split p bs
pieces_are p [] = refl
pieces_are p (b ∷ bs) = both (p b) (λ y. rw (y, pieces_are p bs))
    (λ n. rw (n, onto_is b (slice_split p bs), pieces_are p bs))

-- what the pieces that are left mean
abbrev pub meant_left : Members → List (List ℕ) → ℕ → List ℕ
meant_left groups ps k = flat_map (entry_apart groups) (drop k ps)

at_hand : (ps : List (List ℕ)) (k : ℕ) (w : List ℕ) → k < length ps → w ≡ get_or ps k w
    → drop k ps ≡ w ∷ drop (k + 1) ps
at_hand ps k w h e = rw (drop-cons ps k w h, ← e, add-one k)

-- one entry more
pub meant_more : (groups : Members) (ps : List (List ℕ)) (k : ℕ) (w all text : List ℕ) → k < length ps
    → w ≡ get_or ps k w → all ≡ text ++ meant_left groups ps k
    → all ≡ (text ++ entry_apart groups w) ++ meant_left groups ps (k + 1)
meant_more groups ps k w all text h e so_far =
    so_far ∙ ap (λ qs. text ++ flat_map (entry_apart groups) qs) (at_hand ps k w h e)
    ∙ sym (append_assoc text (entry_apart groups w) (meant_left groups ps (k + 1)))

-- no entry is left
pub meant_end : (groups : Members) (ps : List (List ℕ)) (k : ℕ) (all text : List ℕ) → drop k ps ≡ []
    → all ≡ text ++ meant_left groups ps k → text ≡ all
meant_end groups ps k all text none so_far =
    sym (so_far ∙ ap (λ qs. text ++ flat_map (entry_apart groups) qs) none ∙ append-nil text)
