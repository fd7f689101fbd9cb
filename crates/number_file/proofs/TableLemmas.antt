-- Numbers that are changed, one after the other.
use Rattle.std.proofs.Common.{◌≡◌, ℕ, zero, suc, List, [], ◌∷◌, ◌<◌, length, take, get_or, set, ◌≤◌, refl, sym, ap}
use Rattle.std.proofs.Common.{arith}
use Rattle.catalog.specs.Numbers.{Numbered}
use Rattle.number_file.specs.Tables.{with_next, with_nexts}

-- none is changed
pub with_nexts-none : (ns : List Numbered) → with_nexts ns [] ≡ ns
with_nexts-none [] = refl
with_nexts-none (n ∷ ns) = refl

-- one number more
pub with_nexts-more : (ns : List Numbered) (nexts : List ℕ) (i : ℕ) → i < length nexts
    → with_next (with_nexts ns (take i nexts)) i (get_or nexts i 0) ≡ with_nexts ns (take (suc i) nexts)
with_nexts-more [] nexts i inside = nothing i (get_or nexts i 0)
  where
    nothing : (i next : ℕ) → with_next [] i next ≡ []
    nothing i next = refl
with_nexts-more (n ∷ ns) [] i inside = absurd (omega (arith, inside))
with_nexts-more (n ∷ ns) (next ∷ nexts) zero inside = ap (λ l. record n { next = next } ∷ l) (sym (with_nexts-none ns))
with_nexts-more (n ∷ ns) (next ∷ nexts) (suc i) inside =
    ap (λ l. record n { next = next } ∷ l) (with_nexts-more ns nexts i (omega (arith, inside)))

-- the number at a place, by what stands there
pub with_next-set : (ns : List Numbered) (i next : ℕ) (d n : Numbered) → i < length ns
    → n ≡ record (get_or ns i d) { next = next }
    → set ns i n ≡ with_next ns i next
with_next-set [] i next d n inside is = absurd (omega (arith, inside))
with_next-set (x ∷ ns) zero next d n inside is = ap (λ m. m ∷ ns) is
with_next-set (x ∷ ns) (suc i) next d n inside is =
    ap (λ l. x ∷ l) (with_next-set ns i next d n (omega (arith, inside)) is)

-- no number is at the place
pub with_next-past : (ns : List Numbered) (i next : ℕ) → length ns ≤ i → with_next ns i next ≡ ns
with_next-past [] i next past = refl
with_next-past (n ∷ ns) zero next past = absurd (omega (arith, past))
with_next-past (n ∷ ns) (suc i) next past = ap (λ l. n ∷ l) (with_next-past ns i next (omega (arith, past)))
