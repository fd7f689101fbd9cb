-- Tokens of two lists, one after the other.
use Rattle.std.proofs.Common.{◌≡◌, ℕ, ◌+◌, ◌<◌, ◌≤◌, List, [], ◌∷◌, ◌++◌, length, take, get_or, sym, ap, ap₂, ◌∙◌}
use Rattle.std.proofs.Common.{arith}
use Rattle.std.proofs.lemmas.List.{get_or_default, take_all, take_more}
use Rattle.protocol.specs.Access.{Token}

-- one token more is the same
pub same_step : (ts us : List Token) (i : ℕ) (t u : Token) → take i ts ≡ take i us → i < length ts → i < length us
    → t ≡ get_or ts i t → u ≡ get_or us i u → t ≡ u → take (i + 1) ts ≡ take (i + 1) us
same_step ts us i t u so_far here there is is' same =
    take_more ts i t here ∙ ap₂ (λ xs x. xs ++ x ∷ []) so_far (sym is ∙ same ∙ is') ∙ sym (take_more us i u there)

-- all are
pub same_end : (ts us : List Token) (i : ℕ) → take i ts ≡ take i us → length ts ≤ i → length ts ≡ length us → ts ≡ us
same_end ts us i so_far past count = sym (take_all i ts past) ∙ so_far ∙ take_all i us (omega (arith, past, count))

-- one is not
pub differs_at : (ts us : List Token) (i : ℕ) (t u : Token) → t ≡ get_or ts i t → u ≡ get_or us i u → i < length ts
    → i < length us → (t ≡ u → ⊥) → ts ≡ us → ⊥
differs_at ts us i t u is is' here there apart same =
    apart (is ∙ ap (λ xs. get_or xs i t) same ∙ default us i there ∙ sym is')
  where
    default : (us : List Token) (i : ℕ) → i < length us → get_or us i t ≡ get_or us i u
    default us i there = get_or_default us i t u there

pub ruleset same_lemmas = (same_step, same_end, differs_at)
