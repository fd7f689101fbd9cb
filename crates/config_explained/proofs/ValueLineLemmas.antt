-- What a text that is cut off reads as, and the lines at which it doesn't read.
use Rattle.std.proofs.Common.{◌≡◌, ◌∙◌, ℕ, zero, suc, ◌+◌, ◌-◌, ◌<◌, ◌≤◌, List, [], ◌∷◌, ◌++◌, Option, Some, None, take}
use Rattle.std.proofs.Common.{get_or, sym, subst, arith, lit<, inl, inr}
use Rattle.std.specs.Prelude.{codes}
use Rattle.std.specs.Str.{IsAscii, IsUtf8}
use Rattle.std.proofs.lemmas.Bool.{cases_lt}
use Rattle.std.proofs.lemmas.Str.{IsUtf8-append, IsUtf8-from_ascii}
use Rattle.toml.specs.Data.{Members}
use Rattle.catalog.specs.declared.error.Step.{Step}
use Rattle.config_explained.specs.ValueLines.{NoneReads, Reads, or_else}

-- ---- ends that are put after a text

none_ascii : IsAscii []
none_ascii i = lit< tt

more_ascii : (b : ℕ) (bs : List ℕ) → b < 128 → IsAscii bs → IsAscii (b ∷ bs)
more_ascii b bs below rest zero = below
more_ascii b bs below rest (suc i) = rest i

pub array_closed : (t : List ℕ) → IsUtf8 t → IsUtf8 (t ++ codes "]")
array_closed t u =
    IsUtf8-append t (93 ∷ []) u (IsUtf8-from_ascii (93 ∷ []) (more_ascii 93 [] (lit< tt) none_ascii))

pub table_closed : (t : List ℕ) → IsUtf8 t → IsUtf8 (t ++ codes "}]")
table_closed t u =
    IsUtf8-append t (125 ∷ 93 ∷ []) u
    (IsUtf8-from_ascii (125 ∷ 93 ∷ []) (more_ascii 125 (93 ∷ []) (lit< tt) (more_ascii 93 [] (lit< tt) none_ascii)))

-- ---- the first reading that is there

pub or_first : (a b : Option Members) (m : Members) → a ≡ Some m → or_else a b ≡ Some m
or_first (Some n) b m e = e
or_first None b m e = cc

pub or_second : (a b r : Option Members) → a ≡ None → b ≡ r → or_else a b ≡ r
or_second None b r e f = f
or_second (Some n) b r e f = cc

pub ruleset reading_lemmas = (array_closed, table_closed, or_first, or_second)

-- ---- lines at which a text doesn't read

-- up to an offset, and at it
abbrev pub NoneReadsUpTo : List ℕ → Step → ℕ → ℕ → Type 0
NoneReadsUpTo text s from end =
    (n : ℕ) → from < n → n ≤ end → get_or text (n - 1) 0 ≡ 10 → Reads (take n text) s None

-- none in a line
pub none_before : (text : List ℕ) (s : Step) (from end next : ℕ) → NoneReadsUpTo text s from end
    → ((k : ℕ) → end ≤ k → k + 1 < next → get_or text k 0 ≡ 10 → ⊥) → NoneReads text s from next
none_before text s from end next upto line n above below ends =
    elim (cases_lt end n) [
      | inl past ↦ absurd (line (n - 1) (omega (arith, past)) (omega (arith, past, below)) ends)
      | inr within ↦ upto n above within ends
    ]

-- nor at its end
pub none_up_to : (text : List ℕ) (s : Step) (from next : ℕ) → NoneReads text s from next
    → Reads (take next text) s None → NoneReadsUpTo text s from next
none_up_to text s from next before at n above within ends =
    elim (cases_lt n next) [
      | inl below ↦ before n above below ends
      | inr past ↦ let same : next ≡ n = omega (arith, past, within) in subst (λ k. Reads (take k text) s None) same at
    ]
