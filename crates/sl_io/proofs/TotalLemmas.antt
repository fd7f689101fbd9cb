-- Calls one after the other, taken together.
use Rattle.std.proofs.Common.{◌≡◌, ℕ, ◌+◌, ◌-◌, ◌%◌, ◌^◌, ◌≤◌, List, ◌++◌, take, drop, length, ◌⊎◌, inl, inr, ◌∙◌, ap}
use Rattle.std.proofs.Common.{add_assoc, arith}
use Rattle.std.proofs.Math.Nat.{mod-add-mod}
use Rattle.std.proofs.lemmas.Grind.{common_steps}
use Rattle.std.proofs.KnownBytes.{Consumes-trans}
use Rattle.std.specs.Io.KnownBytes.{Consumes}
use Rattle.std.specs.declared.option.Option.{Option}
use Rattle.sl_io.specs.Counts.{IsMore}
use Rattle.sl_io.specs.Known.{ConsumesSome}

-- what a reading takes after another
pub ConsumesSome-after : (a b c : Option (List ℕ)) (xs : List ℕ) → Consumes a b xs → ConsumesSome b c → ConsumesSome a c
ConsumesSome-after a b c xs h k = (xs ++ k.0, Consumes-trans a b c xs k.0 h k.1)

-- two counts on
pub IsMore-both : (a b c j k : ℕ) → IsMore a b j → IsMore b c k → IsMore a c (j + k)
IsMore-both a b c j k h i =
    i ∙ ap (λ n. (n + k) % 2 ^ 64) h ∙ mod-add-mod (a + j) (2 ^ 64) k ∙ ap (λ n. n % 2 ^ 64) (add_assoc a j k)

-- so many calls were made: none yet, or some
abbrev pub Made : ℕ → ℕ → ℕ → Type 0
Made old new turns = ((turns ≡ 0) × (new ≡ old)) ⊎ IsMore old new turns

-- one call more
pub Made-more : (a b c j : ℕ) → Made a b j → IsMore b c 1 → Made a c (j + 1)
Made-more a b c j h i =
    elim h [
      | inl e ↦ let s : b + 1 ≡ a + (j + 1) = omega (arith, e.0, e.1) in inr (i ∙ ap (λ n. n % 2 ^ 64) s)
      | inr m ↦ inr (IsMore-both a b c j 1 m i)
    ]

-- what is written of the rest comes after what was written
pub split-again : (bytes done rest : List ℕ) (n : ℕ) → bytes ≡ done ++ rest → n ≤ length rest
    → bytes ≡ (done ++ take n rest) ++ take (length rest - n) (drop n rest)
split-again bytes done rest n e h = grind (arith, common_steps)
