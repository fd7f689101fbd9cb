-- Where the records of a station lie, and what one more leaves there.
use Rattle.std.proofs.Common.{◌≡◌, ℕ, ◌+◌, ◌-◌, ◌<◌, ◌≤◌, List, [], ◌∷◌, ◌++◌, length, take, drop, set}
use Rattle.std.proofs.Common.{Bool, true, false, refl, sym, ap, ◌∙◌, arith, if◌then◌else◌, nat_lt}
use Rattle.std.proofs.Common.{append_assoc, length-append, length-drop}
use Rattle.std.proofs.lemmas.List.{append-nil, drop-append-le, drop-drop, drop-set-lt, drop_all, length-set}
use Rattle.std.proofs.lemmas.List.{length-take, take_all}
use Rattle.std.proofs.lemmas.Bool.Decides.{nat_tests}
use Rattle.std.proofs.lemmas.Grind.{take-set_at}
use Rattle.station_ring.specs.Blocks.{from_oldest, keep_last, place_after, IsFilled}

module _ {X : Type 0} where
  pub length-from_oldest : (oldest : ℕ) (xs : List X) → length (from_oldest oldest xs) ≡ length xs
  length-from_oldest oldest xs =
      let parts = length-append (drop oldest xs) (take oldest xs) in
      let older = length-drop oldest xs in
      let newer = length-take oldest xs in
      omega (arith, parts, older, newer)

  -- Of few enough items none is let go.
  keep_last-few : (n : ℕ) (xs : List X) → length xs ≤ n → keep_last n xs ≡ xs
  keep_last-few n xs few =
      let none : length xs - n ≡ 0 = omega arith in
      ap (λ k. drop k xs) none

  -- one more after the others
  pub from_oldest-more : (oldest n : ℕ) (xs : List X) (x : X) → oldest ≡ 0 → length xs < n
      → from_oldest oldest (xs ++ x ∷ []) ≡ keep_last n (from_oldest oldest xs ++ x ∷ [])
  from_oldest-more oldest n xs x first few =
      let here : from_oldest oldest xs ≡ xs = ap (λ k. from_oldest k xs) first ∙ append-nil xs in
      let count : length (xs ++ x ∷ []) ≤ n = let e = length-append xs (x ∷ []) in omega (arith, e) in
      ap (λ k. from_oldest k (xs ++ x ∷ [])) first
      ∙ append-nil (xs ++ x ∷ [])
      ∙ sym (keep_last-few n (xs ++ x ∷ []) count)
      ∙ ap (λ ys. keep_last n (ys ++ x ∷ [])) (sym here)

  -- The place after the last one is the first one.
  from_oldest-after : (place n : ℕ) (xs : List X) → place < n → length xs ≡ n
      → from_oldest (place_after place n) xs ≡ from_oldest (place + 1) xs
  from_oldest-after place n xs within count =
      by (nat_lt (place + 1) n) refl
    where
      by : (b : Bool) → nat_lt (place + 1) n ≡ b
          → from_oldest (if b then place + 1 else 0) xs ≡ from_oldest (place + 1) xs
      by true e = refl
      by false e =
          let last : length xs ≤ place + 1 = grind (arith, nat_tests) in
          append-nil xs
          ∙ sym (ap (λ ys. ys ++ take (place + 1) xs) (drop_all (place + 1) xs last) ∙ take_all (place + 1) xs last)

  -- one more over the oldest
  pub from_oldest-over : (oldest n : ℕ) (xs : List X) (x : X) → oldest < n → length xs ≡ n
      → from_oldest (place_after oldest n) (set xs oldest x) ≡ keep_last n (from_oldest oldest xs ++ x ∷ [])
  from_oldest-over oldest n xs x within count =
      let older : List X = drop oldest xs in
      let newer : List X = take oldest xs in
      let same : length (set xs oldest x) ≡ n = length-set xs oldest x ∙ count in
      let whole : length (older ++ newer) ≡ n = length-from_oldest oldest xs ∙ count in
      let some : 1 ≤ length older = let e = length-drop oldest xs in omega (arith, e, count, within) in
      let one : length ((older ++ newer) ++ x ∷ []) - n ≡ 1 =
      let e = length-append (older ++ newer) (x ∷ []) in omega (arith, e, whole) in
      let written : drop (oldest + 1) (set xs oldest x) ++ take (oldest + 1) (set xs oldest x)
      ≡ drop (oldest + 1) xs ++ (newer ++ x ∷ []) =
      ap (λ ys. ys ++ take (oldest + 1) (set xs oldest x)) (drop-set-lt (oldest + 1) xs oldest x (omega arith))
      ∙ ap (λ ys. drop (oldest + 1) xs ++ ys)
      (take-set_at xs oldest (oldest + 1) x refl (omega (arith, count, within))) in
      let kept : drop 1 ((older ++ newer) ++ x ∷ []) ≡ (drop (oldest + 1) xs ++ newer) ++ x ∷ [] =
      drop-append-le 1 (older ++ newer) (x ∷ []) (omega (arith, whole, within))
      ∙ ap (λ ys. ys ++ x ∷ []) (drop-append-le 1 older newer some
      ∙ ap (λ ys. ys ++ newer) (drop-drop 1 oldest xs)) in
      from_oldest-after oldest n (set xs oldest x) within same
      ∙ written
      ∙ sym (append_assoc (drop (oldest + 1) xs) newer (x ∷ []))
      ∙ sym kept
      ∙ ap (λ k. drop k ((older ++ newer) ++ x ∷ [])) (sym one)

  -- the two pieces of a block, as they are lent
  pub pieces-from_oldest : (oldest : ℕ) (items all older newer : List X) → all ≡ items → older ≡ drop oldest all
      → newer ≡ take oldest all → from_oldest oldest items ≡ older ++ newer
  pieces-from_oldest oldest items all older newer same back front =
      ap (from_oldest oldest) (sym same)
      ∙ ap (λ ys. ys ++ take oldest all) (sym back)
      ∙ ap (λ ys. older ++ ys) (sym front)

-- ---- where the oldest lies

pub filled-more : (oldest count n : ℕ) → IsFilled oldest count n → count < n → IsFilled oldest (count + 1) n
filled-more oldest count n is room = record {
  oldest_place = is.oldest_place;
  few = omega (arith, room);
  first = λ more. is.first room;
}

pub filled-over : (oldest count n : ℕ) → IsFilled oldest count n → n ≤ count → IsFilled (place_after oldest n) count n
filled-over oldest count n is full = record {
  oldest_place = grind (arith, nat_tests, is.oldest_place);
  few = is.few;
  first = λ room. absurd (omega (arith, room, full));
}
