-- The first lines of a text, one byte after the other.
use Rattle.std.proofs.Common.{◌≡◌, ◌∙◌, ℕ, zero, suc, ◌+◌, ◌<◌, ◌≤◌, ◌==◌, Bool, true, false, List, [], ◌∷◌, ◌++◌, refl}
use Rattle.std.proofs.Common.{ap, arith, length, take, get_or, if◌then◌else◌, sym, subst, inl, inr, ◌-◌, ◌≢◌, eqb-true}
use Rattle.std.proofs.lemmas.Bool.Decides.{leb_tells}
use Rattle.std.proofs.lemmas.List.{take_more}
use Rattle.config_explained.specs.Unknown.{first_lines, line_ends, more_line, named}

-- one byte more
ends_more : (xs : List ℕ) (b : ℕ) → line_ends (xs ++ b ∷ []) ≡ (if b == 10 then line_ends xs + 1 else line_ends xs)
ends_more [] b = refl
ends_more (x ∷ xs) b = by (x == 10) (b == 10) (ends_more xs b)
  where
    by : (p q : Bool) → line_ends (xs ++ b ∷ []) ≡ (if q then line_ends xs + 1 else line_ends xs)
        → (if p then line_ends (xs ++ b ∷ []) + 1 else line_ends (xs ++ b ∷ []))
        ≡ (if q then (if p then line_ends xs + 1 else line_ends xs) + 1
        else (if p then line_ends xs + 1 else line_ends xs))
    by true true e = ap (λ n. n + 1) e
    by true false e = ap (λ n. n + 1) e
    by false true e = e
    by false false e = e

-- a byte of one of the lines
open_more : (n : ℕ) (xs : List ℕ) (b : ℕ) → line_ends xs < n → first_lines n (xs ++ b ∷ []) ≡ first_lines n xs ++ b ∷ []
open_more zero xs b h = absurd (omega (arith, h))
open_more (suc n) [] b h = refl
open_more (suc n) (x ∷ xs) b h = by (x == 10) (open_more n xs b) (open_more (suc n) xs b) h
  where
    by : (p : Bool) → (line_ends xs < n → first_lines n (xs ++ b ∷ []) ≡ first_lines n xs ++ b ∷ [])
        → (line_ends xs < suc n → first_lines (suc n) (xs ++ b ∷ []) ≡ first_lines (suc n) xs ++ b ∷ [])
        → (if p then line_ends xs + 1 else line_ends xs) < suc n
        → x ∷ first_lines (if p then n else suc n) (xs ++ b ∷ [])
        ≡ x ∷ (first_lines (if p then n else suc n) xs ++ b ∷ [])
    by true fewer same h = ap (λ l. x ∷ l) (fewer (omega (arith, h)))
    by false fewer same h = ap (λ l. x ∷ l) (same h)

-- a byte after them
done_more : (n : ℕ) (xs : List ℕ) (b : ℕ) → n ≤ line_ends xs → first_lines n (xs ++ b ∷ []) ≡ first_lines n xs
done_more zero [] b h = refl
done_more zero (x ∷ xs) b h = refl
done_more (suc n) [] b h = absurd (omega (arith, h))
done_more (suc n) (x ∷ xs) b h = by (x == 10) (done_more n xs b) (done_more (suc n) xs b) h
  where
    by : (p : Bool) → (n ≤ line_ends xs → first_lines n (xs ++ b ∷ []) ≡ first_lines n xs)
        → (suc n ≤ line_ends xs → first_lines (suc n) (xs ++ b ∷ []) ≡ first_lines (suc n) xs)
        → suc n ≤ (if p then line_ends xs + 1 else line_ends xs)
        → x ∷ first_lines (if p then n else suc n) (xs ++ b ∷ []) ≡ x ∷ first_lines (if p then n else suc n) xs
    by true fewer same h = ap (λ l. x ∷ l) (fewer (omega (arith, h)))
    by false fewer same h = ap (λ l. x ∷ l) (same h)

-- the lines that end before the next byte, and with it
pub ends_next : (text : List ℕ) (k d : ℕ) → k < length text
    → line_ends (take (k + 1) text)
    ≡ (if get_or text k d == 10 then line_ends (take k text) + 1 else line_ends (take k text))
ends_next text k d within = ap line_ends (take_more text k d within) ∙ ends_more (take k text) (get_or text k d)

-- the first lines with the next byte
pub lines_next : (text : List ℕ) (k d n size size' ends : ℕ) → k < length text → ends ≡ line_ends (take k text)
    → take size text ≡ first_lines n (take k text) → (ends < n → size ≡ k) → (ends < n → size' ≡ k + 1)
    → (n ≤ ends → size' ≡ size) → take size' text ≡ first_lines n (take (k + 1) text)
lines_next text k d n size size' ends within ends_is so_far whole opened done =
    elim (leb_tells n ends) [
      | inl many ↦ ap (λ m. take m text) (done many.1) ∙ so_far
          ∙ sym (done_more n (take k text) (get_or text k d) (subst (λ e. n ≤ e) ends_is many.1))
          ∙ sym (ap (first_lines n) (take_more text k d within))
      | inr few ↦ ap (λ m. take m text) (opened few.1) ∙ take_more text k d within
          ∙ ap (λ l. l ++ get_or text k d ∷ []) (ap (λ m. take m text) (sym (whole few.1)) ∙ so_far)
          ∙ sym (open_more n (take k text) (get_or text k d) (subst (λ e. e < n) ends_is few.1))
          ∙ sym (ap (first_lines n) (take_more text k d within))
    ]

-- more lines than are kept
pub named_more : (text kept : List ℕ) (size more : ℕ) → take size text ≡ first_lines 64 text
    → more ≡ line_ends text - 64 → more ≢ 0 → kept ≡ take size text → kept ++ more_line more ≡ named text
named_more text kept size more lines more_is many kept_is = by (line_ends text - 64 == 0) refl
  where
    by : (b : Bool) → (line_ends text - 64 == 0) ≡ b → kept ++ more_line more
        ≡ (if b then text else first_lines 64 text ++ more_line (line_ends text - 64))
    by true none = absurd (many (more_is ∙ eqb-true (line_ends text - 64) 0 none))
    by false some = ap (λ k. k ++ more_line more) (kept_is ∙ lines)
        ∙ ap (λ n. first_lines 64 text ++ more_line n) more_is
