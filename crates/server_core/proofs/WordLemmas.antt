-- Words by their bits: what a write to one word does to each bit.
use Rattle.std.proofs.Common.{◌≡◌, ℕ, zero, suc, ◌+◌, ◌*◌, ◌/◌, ◌%◌, ◌^◌, ◌<◌, ◌≤◌, Bool, true, false, ◌||◌, ◌&&◌, eqb}
use Rattle.std.proofs.Common.{max, min, List, length, get_or, set, refl, sym, ap, ◌∙◌, inl, inr, arith, get_or-set_same}
use Rattle.std.proofs.Common.{get_or-set_other, length-set, eq-eqb, w64, ◌-◌}
use Rattle.std.proofs.Math.Nat.{div-div-eq-div-mul, div-le_self}
use Rattle.std.specs.Prelude.{◌≢◌, bit_and, bit_or}
use Rattle.std.specs.Int.{bit_at, bit_not, trailing_zeros}
use Rattle.std.proofs.lemmas.Nat.{pow-add}
use Rattle.std.proofs.lemmas.Bool.{cases_eq, cases_lt}
use Rattle.std.proofs.lemmas.List.{get_or_past}
use Rattle.std.proofs.lemmas.Nat.Bits.{bit_at-trailing_zeros, bit_at_above}
use Rattle.std.proofs.lemmas.Nat.Bits.{bit_at-lt, bit_at-zero, bit_at_and, bit_at_clear_other, bit_at_clear_same}
use Rattle.std.proofs.lemmas.Nat.Bits.{bit_at_or, bit_at_set_other, bit_at_set_same}
use Rattle.server_core.specs.Rows.{bit_in}

-- A word that is written leaves the bits of the other words.
other-word : (words : List ℕ) (n k v : ℕ) → (k / 64 ≡ n / 64 → ⊥) → bit_in (set words (n / 64) v) k ≡ bit_in words k
other-word words n k v apart = ap (λ x. eqb (bit_at x (k % 64)) 1) (get_or-set_other words (n / 64) (k / 64) v 0 apart)

-- the bits of the word that is written
its-word : (words : List ℕ) (n k v : ℕ) → n / 64 < length words → k / 64 ≡ n / 64
    → bit_in (set words (n / 64) v) k ≡ eqb (bit_at v (k % 64)) 1
its-word words n k v within same =
    ap (λ i. eqb (bit_at (get_or (set words (n / 64) v) i 0) (k % 64)) 1) same
    ∙ ap (λ x. eqb (bit_at x (k % 64)) 1) (get_or-set_same words (n / 64) v 0 within)

pub set-here : (words : List ℕ) (n : ℕ) → n / 64 < length words
    → bit_in (set words (n / 64) (bit_or (get_or words (n / 64) 0) (1 * 2 ^ (n % 64) % 2 ^ 64))) n ≡ true
set-here words n within =
    its-word words n n _ within refl ∙ eq-eqb _ 1 (bit_at_set_same w64 (get_or words (n / 64) 0) (n % 64) (omega arith))

pub set-others : (words : List ℕ) (n k : ℕ) → n / 64 < length words → k ≢ n
    → bit_in (set words (n / 64) (bit_or (get_or words (n / 64) 0) (1 * 2 ^ (n % 64) % 2 ^ 64))) k ≡ bit_in words k
set-others words n k within other =
    elim (cases_eq (k / 64) (n / 64)) [
      | inl same ↦
          its-word words n k _ within same
          ∙ ap (λ x. eqb x 1)
          (bit_at_set_other w64 (get_or words (n / 64) 0) (n % 64) (omega arith) (k % 64)
          (λ e. other (omega (arith, same, e))))
          ∙ ap (λ i. eqb (bit_at (get_or words i 0) (k % 64)) 1) (sym same)
      | inr apart ↦ other-word words n k _ apart
    ]

pub clear-here : (words : List ℕ) (n : ℕ) → n / 64 < length words
    → bit_in (set words (n / 64) (bit_and (get_or words (n / 64) 0) (bit_not w64 (1 * 2 ^ (n % 64) % 2 ^ 64)))) n
    ≡ false
clear-here words n within =
    its-word words n n _ within refl
    ∙ ap (λ x. eqb x 1) (bit_at_clear_same w64 (get_or words (n / 64) 0) (n % 64) (omega arith))

pub clear-others : (words : List ℕ) (n k : ℕ) → n / 64 < length words → k ≢ n
    → bit_in (set words (n / 64) (bit_and (get_or words (n / 64) 0) (bit_not w64 (1 * 2 ^ (n % 64) % 2 ^ 64)))) k
    ≡ bit_in words k
clear-others words n k within other =
    elim (cases_eq (k / 64) (n / 64)) [
      | inl same ↦
          its-word words n k _ within same
          ∙ ap (λ x. eqb x 1)
          (bit_at_clear_other w64 (get_or words (n / 64) 0) (n % 64) (omega arith) (k % 64) (omega arith)
          (λ e. other (omega (arith, same, e))))
          ∙ ap (λ i. eqb (bit_at (get_or words i 0) (k % 64)) 1) (sym same)
      | inr apart ↦ other-word words n k _ apart
    ]

-- A bit beyond all words is not set.
pub bit-past : (words : List ℕ) (n : ℕ) → length words ≤ n / 64 → bit_in words n ≡ false
bit-past words n past = ap (λ x. eqb (bit_at x (n % 64)) 1) (get_or_past words (n / 64) 0 past)
    ∙ ap (λ x. eqb x 1) (bit_at-zero (n % 64))

either : (a b : ℕ) → a < 2 → b < 2 → eqb (max a b) 1 ≡ (eqb a 1 || eqb b 1)
either zero zero low low' = refl
either zero (suc zero) low low' = refl
either (suc zero) zero low low' = refl
either (suc zero) (suc zero) low low' = refl
either zero (suc (suc b)) low low' = absurd (omega (arith, low'))
either (suc zero) (suc (suc b)) low low' = absurd (omega (arith, low'))
either (suc (suc a)) b low low' = absurd (omega (arith, low))

or-bit : (a b i : ℕ) → eqb (bit_at (bit_or a b) i) 1 ≡ (eqb (bit_at a i) 1 || eqb (bit_at b i) 1)
or-bit a b i = ap (λ x. eqb x 1) (bit_at_or a b i) ∙ either (bit_at a i) (bit_at b i) (bit_at-lt a i) (bit_at-lt b i)

both-bits : (a b : ℕ) → a < 2 → b < 2 → eqb (min a b) 1 ≡ (eqb a 1 && eqb b 1)
both-bits zero zero low low' = refl
both-bits zero (suc zero) low low' = refl
both-bits (suc zero) zero low low' = refl
both-bits (suc zero) (suc zero) low low' = refl
both-bits zero (suc (suc b)) low low' = absurd (omega (arith, low'))
both-bits (suc zero) (suc (suc b)) low low' = absurd (omega (arith, low'))
both-bits (suc (suc a)) b low low' = absurd (omega (arith, low))

and-bit : (a b i : ℕ) → eqb (bit_at (bit_and a b) i) 1 ≡ (eqb (bit_at a i) 1 && eqb (bit_at b i) 1)
and-bit a b i = ap (λ x. eqb x 1) (bit_at_and a b i)
    ∙ both-bits (bit_at a i) (bit_at b i) (bit_at-lt a i) (bit_at-lt b i)

-- ---- so many words of rows added

-- The first so many words have the bits that they had and those of both other rows, and the others those that they had.
pub record AddedTo (count : ℕ) (before one other now : List ℕ) : Type 0 where
  pub same_length : length now ≡ length before
  pub added : (i : ℕ) → i < count
      → get_or now i 0 ≡ bit_or (get_or before i 0) (bit_and (get_or one i 0) (get_or other i 0))
  pub left : (i : ℕ) → count ≤ i → get_or now i 0 ≡ get_or before i 0

pub added-none : (before one other : List ℕ) → AddedTo 0 before one other before
added-none before one other = record {
  same_length = refl;
  added = λ i lt. absurd (omega (arith, lt));
  left = λ i le. refl;
}

pub added-more : (count : ℕ) (before one other now : List ℕ) (v : ℕ) → count < length before
    → v ≡ bit_or (get_or now count 0) (bit_and (get_or one count 0) (get_or other count 0))
    → AddedTo count before one other now → AddedTo (count + 1) before one other (set now count v)
added-more count before one other now v within is so_far = record {
  same_length = length-set now count v ∙ so_far.same_length;
  added = λ i lt. elim (cases_eq i count) [
    | inl same ↦
        ap (λ j. get_or (set now count v) j 0) same
        ∙ get_or-set_same now count v 0 (omega (arith, within, so_far.same_length))
        ∙ is ∙ ap (λ x. bit_or x (bit_and (get_or one count 0) (get_or other count 0)))
        (so_far.left count (omega arith))
        ∙ ap (λ j. bit_or (get_or before j 0) (bit_and (get_or one j 0) (get_or other j 0))) (sym same)
    | inr apart ↦ get_or-set_other now count i v 0 apart ∙ so_far.added i (omega (arith, lt, apart))
  ];
  left = λ i le. get_or-set_other now count i v 0 (λ e. omega (arith, le, e)) ∙ so_far.left i (omega (arith, le));
}

pub added-all : (count : ℕ) (before one other now : List ℕ)
    → count ≡ min (length before) (min (length one) (length other)) → AddedTo count before one other now → (n : ℕ)
    → n < 64 * length before → bit_in now n ≡ (bit_in before n || (bit_in one n && bit_in other n))
added-all count before one other now is all n within =
    elim (cases_lt (n / 64) count) [
      | inl low ↦
          ap (λ x. eqb (bit_at x (n % 64)) 1) (all.added (n / 64) low)
          ∙ or-bit (get_or before (n / 64) 0) (bit_and (get_or one (n / 64) 0) (get_or other (n / 64) 0)) (n % 64)
          ∙ ap (λ b. bit_in before n || b) (and-bit (get_or one (n / 64) 0) (get_or other (n / 64) 0) (n % 64))
      | inr past ↦
          ap (λ x. eqb (bit_at x (n % 64)) 1) (all.left (n / 64) past)
          ∙ sym (ap (λ b. bit_in before n || b) (none past) ∙ or-false (bit_in before n))
    ]
  where
    or-false : (b : Bool) → (b || false) ≡ b
    or-false true = refl
    or-false false = refl

    and-false : (b : Bool) → (b && false) ≡ false
    and-false true = refl
    and-false false = refl

    none : count ≤ n / 64 → (bit_in one n && bit_in other n) ≡ false
    none past =
        elim (cases_lt (n / 64) (length one)) [
          | inl in_one ↦ ap (λ b. bit_in one n && b) (bit-past other n (omega (arith, is, past, within, in_one)))
              ∙ and-false (bit_in one n)
          | inr past_one ↦ ap (λ b. b && bit_in other n) (bit-past one n past_one)
        ]

-- ---- the first bit of a word from a slot on

-- A word that is shifted has its bits further down.
shifted : (w a t : ℕ) → bit_at (w / 2 ^ a) t ≡ bit_at w (a + t)
shifted w a t =
    ap (λ q. q % 2) (div-div-eq-div-mul w (2 ^ a) (2 ^ t) ∙ ap (λ d. w / d) (sym (pow-add 2 a t)))

module _ (words : List ℕ) (at word : ℕ) (is : word ≡ get_or words (at / 64) 0) where
  bit-here : (t : ℕ) → at % 64 + t < 64 → bit_in words (at + t) ≡ eqb (bit_at (word / 2 ^ (at % 64)) t) 1
  bit-here t within =
      let group : (at + t) / 64 ≡ at / 64 = omega (arith, within) in
      let place : (at + t) % 64 ≡ at % 64 + t = omega (arith, within) in
      ap (λ i. eqb (bit_at (get_or words i 0) ((at + t) % 64)) 1) group
      ∙ ap (λ i. eqb (bit_at (get_or words (at / 64) 0) i) 1) place
      ∙ ap (λ w. eqb (bit_at w (at % 64 + t)) 1) (sym is)
      ∙ ap (λ x. eqb x 1) (sym (shifted word (at % 64) t))

  -- Where nothing is left of the word, none of its slots is set.
  pub nothing-left : word / 2 ^ (at % 64) ≡ 0 → (slot : ℕ) → at ≤ slot → slot < at - at % 64 + 64
      → bit_in words slot ≡ false
  nothing-left none slot from below =
      let t : ℕ = slot - at in
      let there : slot ≡ at + t = omega (arith, from) in
      ap (bit_in words) there
      ∙ bit-here t (omega (arith, from, below))
      ∙ ap (λ x. eqb (bit_at x t) 1) none
      ∙ ap (λ x. eqb x 1) (bit_at-zero t)

  module _ (fits : word < 2 ^ 64) (some : 0 < word / 2 ^ (at % 64)) where
    abbrev pub lowest : ℕ
    lowest = trailing_zeros w64 (word / 2 ^ (at % 64))

    low : word / 2 ^ (at % 64) < 2 ^ 64
    low = let less = div-le_self word (2 ^ (at % 64)) in omega (arith, fits, less)

    -- it is one of the word's
    within-word : at % 64 + lowest < 64
    within-word =
        let is-set = (bit_at-trailing_zeros w64 (word / 2 ^ (at % 64)) some low).1 in
        elim (cases_lt (at % 64 + lowest) 64) [
          | inl lt ↦ lt
          | inr ge ↦
              let one : 1 ≡ 0 = sym is-set ∙ shifted word (at % 64) lowest
              ∙ bit_at_above word 64 (at % 64 + lowest) fits (omega (arith, ge)) in
              absurd (omega (arith, one))
        ]

    pub lowest-set : bit_in words (at + lowest) ≡ true
    lowest-set = bit-here lowest within-word
        ∙ eq-eqb _ 1 (bit_at-trailing_zeros w64 (word / 2 ^ (at % 64)) some low).1

    pub none-below : (slot : ℕ) → at ≤ slot → slot < at + lowest → bit_in words slot ≡ false
    none-below slot from below =
        let t : ℕ = slot - at in
        let there : slot ≡ at + t = omega (arith, from) in
        let less : t < lowest = omega (arith, from, below) in
        let inside = within-word in
        ap (bit_in words) there
        ∙ bit-here t (omega (arith, less, inside))
        ∙ ap (λ x. eqb x 1) ((bit_at-trailing_zeros w64 (word / 2 ^ (at % 64)) some low).2 t less)
