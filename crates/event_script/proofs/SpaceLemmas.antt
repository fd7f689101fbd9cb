-- A text and its first space.
use Rattle.std.proofs.Common.{◌≡◌, ℕ, suc, ◌+◌, ◌<◌, Bool, true, false, true≢false, List, [], ◌∷◌, ◌++◌, length, take}
use Rattle.std.proofs.Common.{drop, nat_lt, Some, None, refl, ap, arith, add-one, length-append, eqb-true, ◌==◌}
use Rattle.std.specs.List.{list_any, position_or_len}
use Rattle.std.proofs.lemmas.Bool.{ltb-true}
use Rattle.std.proofs.lemmas.Bool.Decides.{nat_tests}
use Rattle.std.proofs.lemmas.List.Folds.{list_any_none}
use Rattle.protocol.proofs.FoundLemmas.{both}
use Rattle.event_script.specs.Script.{ScriptCut, cut_of, decimal_of}
use Rattle.event_script.proofs.Separators.{number-lacks}

-- what parts two words
abbrev pub is_space : ℕ → Bool
is_space b = b == 32

-- where the first space stands
seam : (text : List ℕ) → position_or_len is_space text < length text
    → text ≡ take (position_or_len is_space text) text ++ 32 ∷ drop (suc (position_or_len is_space text)) text
seam [] h = absurd (omega arith)
seam (b ∷ bs) h =
    both (is_space b)
    (λ y. rw y (ap (λ x. x ∷ bs) (eqb-true b 32 y)))
    (λ n. let h' : position_or_len is_space bs < length bs = omega (arith, rw n at h) in
    let one : 1 + position_or_len is_space bs ≡ suc (position_or_len is_space bs) = omega arith in
    rw (n, one) (ap (λ l. b ∷ l) (seam bs h')))

-- a cut text is its front, a space and its rest
pub cut-whole : (text : List ℕ) (cut : ScriptCut) → cut_of text ≡ Some cut → text ≡ cut.front ++ 32 ∷ cut.rest
cut-whole text cut e =
    both (nat_lt (position_or_len is_space text) (length text))
    (λ y. let is : Some
    (record {
      front = take (position_or_len is_space text) text;
      rest = drop (position_or_len is_space text + 1) text;
    }) ≡ Some cut = rw y at e in
    let same : record {
      front = take (position_or_len is_space text) text;
      rest = drop (position_or_len is_space text + 1) text;
    } ≡ cut = cc in
    rw (← same, add-one) (seam text (ltb-true _ _ y)))
    (λ n. let none : None ≡ Some cut = rw n at e in absurd cc)

-- the first space behind a front that has none
space_behind : (front rest : List ℕ) → list_any is_space front ≡ false
    → position_or_len is_space (front ++ 32 ∷ rest) ≡ length front
space_behind [] rest e = refl
space_behind (b ∷ bs) rest e =
    both (is_space b)
    (λ y. absurd (true≢false (rw y at e)))
    (λ n. rw n (omega (arith, space_behind bs rest (rw n at e))))

take_front : (front rest : List ℕ) → take (length front) (front ++ 32 ∷ rest) ≡ front
take_front [] rest = refl
take_front (b ∷ bs) rest = ap (λ l. b ∷ l) (take_front bs rest)

drop_front : (front rest : List ℕ) → drop (suc (length front)) (front ++ 32 ∷ rest) ≡ rest
drop_front [] rest = refl
drop_front (b ∷ bs) rest = drop_front bs rest

-- a front without a space, a space and a rest are cut there
pub cut-made : (front rest : List ℕ) → list_any is_space front ≡ false
    → cut_of (front ++ 32 ∷ rest) ≡ Some (record { front = front; rest = rest })
cut-made front rest e =
    let within : nat_lt (length front) (length (front ++ 32 ∷ rest))
    ≡ true = grind (arith, nat_tests, length-append front (32 ∷ rest)) in
    rw (space_behind front rest e, within, add-one, take_front front rest, drop_front front rest) refl

-- a number has no space
pub number-has_no_space : (d : List ℕ) (n : ℕ) → decimal_of d ≡ Some n → list_any is_space d ≡ false
number-has_no_space d n e = list_any_none is_space d (number-lacks 32 refl d n e)
