-- A field is trimmed from its end.
use Rattle.std.proofs.Common.{◌≡◌, ◌≢◌, ℕ, ◌+◌, ◌-◌, ◌<◌, ◌≤◌, List, [], ◌∷◌, ◌++◌, length, take, get_or, refl, sym, ap}
use Rattle.std.proofs.Common.{subst, ◌∙◌, arith, ne_eqb}
use Rattle.std.proofs.lemmas.List.{take_more}
use Rattle.protocol.specs.Record.{trimmed}

-- a space at the end goes
trimmed-space : (bs : List ℕ) → trimmed (bs ++ 32 ∷ []) ≡ trimmed bs
trimmed-space [] = refl
trimmed-space (b ∷ bs) = rw (trimmed-space bs)

-- another byte at the end stays, and all before it
abbrev IsSome : List ℕ → Type 0
IsSome [] = ⊥
IsSome (b ∷ bs) = Unit {0}

trimmed_behind : (b : ℕ) (bs : List ℕ) → IsSome bs → trimmed bs ≡ bs → trimmed (b ∷ bs) ≡ b ∷ bs
trimmed_behind b [] some e = absurd some
trimmed_behind b (c ∷ bs) some e = rw e

has_last : (bs : List ℕ) (b : ℕ) → IsSome (bs ++ b ∷ [])
has_last [] b = tt
has_last (c ∷ bs) b = tt

trimmed-other : (bs : List ℕ) (b : ℕ) → b ≢ 32 → trimmed (bs ++ b ∷ []) ≡ bs ++ b ∷ []
trimmed-other [] b other = rw (ne_eqb b 32 other)
trimmed-other (c ∷ bs) b other = trimmed_behind c (bs ++ b ∷ []) (has_last bs b) (trimmed-other bs b other)

-- one byte less of a field
last_of : (bs : List ℕ) (n : ℕ) → 0 < n → n ≤ length bs → take n bs ≡ take (n - 1) bs ++ get_or bs (n - 1) 0 ∷ []
last_of bs n some within = let more = take_more bs (n - 1) 0 (omega arith) in let same : n - 1 + 1 ≡ n =
    omega arith in subst (λ k. take k bs ≡ take (n - 1) bs ++ get_or bs (n - 1) 0 ∷ []) same more

pub space_less : (bs : List ℕ) (n : ℕ) → 0 < n → n ≤ length bs → get_or bs (n - 1) 0 ≡ 32
    → trimmed (take (n - 1) bs) ≡ trimmed (take n bs)
space_less bs n some within space =
    sym (trimmed-space (take (n - 1) bs)) ∙ ap (λ b. trimmed (take (n - 1) bs ++ b ∷ [])) (sym space)
    ∙ ap trimmed (sym (last_of bs n some within))

pub nothing_less : (bs : List ℕ) (n : ℕ) → 0 < n → n ≤ length bs → get_or bs (n - 1) 0 ≢ 32
    → trimmed (take n bs) ≡ take n bs
nothing_less bs n some within other =
    rw (last_of bs n some within) (trimmed-other (take (n - 1) bs) (get_or bs (n - 1) 0) other)

pub nothing_left : (bs : List ℕ) (n : ℕ) → n ≡ 0 → take n bs ≡ trimmed (take n bs)
nothing_left bs n none = rw none
