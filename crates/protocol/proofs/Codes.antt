-- A field without the spaces at its end is the code in it, and ticks are rounded down.
use Rattle.std.proofs.Common.{le_antisymm, ◌≡◌, ℕ, zero, suc, ◌<◌, ◌≤◌, ◌==◌, nat_lt, List, [], ◌∷◌, ◌++◌, replicate, ℤ}
use Rattle.std.proofs.Common.{pos, negsuc, eqb-true, ne_eqb, refl, ap, subst, arith}
use Rattle.std.proofs.lemmas.Bool.{eqb-false}
use Rattle.std.proofs.Math.Nat.{div-mul-le_self, le-div_iff_mul-le}
use Rattle.protocol.specs.Record.{cons_trimmed, trimmed, signed, multiplier, Ratio, ticks_for, ticks_of, quotient, word}
use Rattle.protocol.specs.declared.record.ByteOrder.{ByteOrder}
use Rattle.protocol.specs.Reading.{Not, IsCodeIn, IsRoundedDown}
use Rattle.protocol.proofs.FoundLemmas.{both}

-- ---- codes
no_last : (b : ℕ) (front : List ℕ) → Not (b ≡ 32) → Not (b ∷ [] ≡ front ++ 32 ∷ [])
no_last b [] other e = other cc
no_last b (c ∷ []) other e = absurd cc
no_last b (c ∷ d ∷ front) other e = absurd cc

no_last_behind : (b c : ℕ) (code front : List ℕ) → ((front' : List ℕ) → Not (c ∷ code ≡ front' ++ 32 ∷ []))
    → Not (b ∷ c ∷ code ≡ front ++ 32 ∷ [])
no_last_behind b c code [] none e = absurd cc
no_last_behind b c code (d ∷ front) none e = none front (let same : c ∷ code ≡ front ++ 32 ∷ [] = cc in same)

cons_code : (b : ℕ) (field code : List ℕ) → IsCodeIn field code → IsCodeIn (b ∷ field) (cons_trimmed b code)
cons_code b field [] c =
    both (b == 32)
    (λ y. rw y (record {
      spaces = suc c.spaces;
      padded = rw (eqb-true b 32 y) (ap (λ l. 32 ∷ l) c.padded);
      no_space_last = λ front e. c.no_space_last front e;
    }))
    (λ n. rw n (record {
      spaces = c.spaces;
      padded = ap (λ l. b ∷ l) c.padded;
      no_space_last = λ front. no_last b front (eqb-false b 32 n);
    }))
cons_code b field (d ∷ code) c = record {
  spaces = c.spaces;
  padded = ap (λ l. b ∷ l) c.padded;
  no_space_last = λ front. no_last_behind b d code front c.no_space_last;
}

nothing_last : (front : List ℕ) → Not ([] ≡ front ++ 32 ∷ [])
nothing_last [] e = absurd cc
nothing_last (b ∷ front) e = absurd cc

pub trimmed-code : (field : List ℕ) → IsCodeIn field (trimmed field)
trimmed-code [] = record { spaces = 0; padded = refl; no_space_last = nothing_last }
trimmed-code (b ∷ field) = cons_code b field (trimmed field) (trimmed-code field)

trimmed-spaces : (n : ℕ) → trimmed (replicate n 32) ≡ []
trimmed-spaces zero = refl
trimmed-spaces (suc n) = rw (trimmed-spaces n)

trimmed-padded : (code : List ℕ) (n : ℕ) → ((front : List ℕ) → Not (code ≡ front ++ 32 ∷ []))
    → trimmed (code ++ replicate n 32) ≡ code
trimmed-padded [] n none = trimmed-spaces n
trimmed-padded (b ∷ []) n none = rw (trimmed-spaces n, ne_eqb b 32 (λ e. none [] (ap (λ x. x ∷ []) e)))
trimmed-padded (b ∷ c ∷ code) n none =
    rw (trimmed-padded (c ∷ code) n (λ front e. none (b ∷ front) (ap (λ l. b ∷ l) e)))

pub code-trimmed : (field code : List ℕ) → IsCodeIn field code → trimmed field ≡ code
code-trimmed field code c = subst (λ l. trimmed l ≡ code) c.padded (trimmed-padded code c.spaces c.no_space_last)

-- ---- ticks
-- a number with a sign other than 0
abbrev IsNonZero : ℤ → Type 0
IsNonZero (pos n) = 0 < n
IsNonZero (negsuc n) = Unit {0}

signed_nonzero : (n : ℕ) → Not (n ≡ 0) → IsNonZero (signed n)
signed_nonzero n other = both (nat_lt n 32768) (λ y. rw y (omega arith)) (λ f. rw f tt)

multiplier_nonzero : (n : ℕ) → IsNonZero (multiplier n)
multiplier_nonzero n = both (n == 0) (λ y. rw y (omega arith)) (λ f. rw f (signed_nonzero n (eqb-false n 0 f)))

under_positive : (n : ℕ) (f m : ℤ) → IsNonZero m → 0 < (ticks_for n f m).under
under_positive n (pos zero) m some = omega arith
under_positive n (pos (suc f)) (pos (suc m)) some = omega arith
under_positive n (pos (suc f)) (pos zero) some = absurd (omega arith)
under_positive n (pos (suc f)) (negsuc m) some = omega arith
under_positive n (negsuc f) (pos m) some = some
under_positive n (negsuc f) (negsuc m) some = omega arith

pub ticks_under : (o : ByteOrder) (r : List ℕ) → 0 < (ticks_of o r).under
ticks_under o r = under_positive (word o r 30) (signed (word o r 32)) (multiplier (word o r 34))
    (multiplier_nonzero (word o r 34))

pub rounded_down : (x : Ratio) → 0 < x.under → IsRoundedDown x (quotient x)
rounded_down x positive = record {
  within = div-mul-le_self x.over x.under;
  greatest = λ i within. (le-div_iff_mul-le positive).1 within;
}

pub rounded-same : (x : Ratio) (j : ℕ) → 0 < x.under → IsRoundedDown x j → quotient x ≡ j
rounded-same x j positive rounded =
    let up = rounded.greatest (quotient x) (div-mul-le_self x.over x.under) in
    let down : j ≤ quotient x = (le-div_iff_mul-le positive).1 rounded.within in
    le_antisymm up down
