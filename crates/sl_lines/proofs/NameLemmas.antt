-- Names in letters of either case.
use Rattle.std.proofs.Common.{◌≡◌, ℕ, true, false, List, [], ◌∷◌, map, refl, arith, eqb-true}
use Rattle.std.specs.Prelude.{◌==◌}
use Rattle.std.specs.List.{list_all}
use Rattle.std.specs.Char.{is_ascii_uppercase, to_ascii_lowercase}
use Rattle.std.specs.Str.{bytes_eq}
use Rattle.std.proofs.lemmas.Bool.{and_parts}
use Rattle.std.proofs.lemmas.Bool.Decides.{nat_tests}
use Rattle.protocol.specs.Command.{uppercase, uppercased}
use Rattle.protocol.proofs.FoundLemmas.{both}

-- one letter
letters : (b c : ℕ) → is_ascii_uppercase c ≡ true → to_ascii_lowercase b ≡ to_ascii_lowercase c → uppercase b ≡ c
letters b c upper same = grind (arith, nat_tests)

lowered : (b c : ℕ) → is_ascii_uppercase c ≡ true → uppercase b ≡ c → to_ascii_lowercase b ≡ to_ascii_lowercase c
lowered b c upper same = grind (arith, nat_tests)

-- A word that is the name but for the case of its letters has that name.
pub named : (word name : List ℕ) → list_all is_ascii_uppercase name ≡ true
    → map to_ascii_lowercase word ≡ map to_ascii_lowercase name → bytes_eq (uppercased word) name ≡ true
named [] [] upper same = refl
named [] (c ∷ name) upper same = absurd cc
named (b ∷ word) [] upper same = absurd cc
named (b ∷ word) (c ∷ name) upper same =
    let parts = and_parts (is_ascii_uppercase c) (list_all is_ascii_uppercase name) upper in
    let first : to_ascii_lowercase b ≡ to_ascii_lowercase c = cc in
    let rest : map to_ascii_lowercase word ≡ map to_ascii_lowercase name = cc in
    grind (arith, letters b c parts.0 first, named word name parts.1 rest)

lower_same : (word name : List ℕ) → list_all is_ascii_uppercase name ≡ true → bytes_eq (uppercased word) name ≡ true
    → map to_ascii_lowercase word ≡ map to_ascii_lowercase name
lower_same [] [] upper same = refl
lower_same [] (c ∷ name) upper same = absurd cc
lower_same (b ∷ word) [] upper same = absurd cc
lower_same (b ∷ word) (c ∷ name) upper same =
    let parts = and_parts (is_ascii_uppercase c) (list_all is_ascii_uppercase name) upper in
    let sames = and_parts (uppercase b == c) (bytes_eq (uppercased word) name) same in
    rw (lowered b c parts.0 (eqb-true (uppercase b) c sames.0), lower_same word name parts.1 sames.1)

-- Another word hasn't.
pub different : (word name : List ℕ) → list_all is_ascii_uppercase name ≡ true
    → (map to_ascii_lowercase word ≡ map to_ascii_lowercase name → ⊥) → bytes_eq (uppercased word) name ≡ false
different word name upper other =
    both (bytes_eq (uppercased word) name) (λ y. absurd (other (lower_same word name upper y))) (λ n. n)

pub ruleset name_lemmas = (named, different)
