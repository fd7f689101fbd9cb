-- The lines of stations, and those of files.
use Rattle.std.proofs.Common.{◌≡◌, ◌∙◌, ℕ, List, [], ◌∷◌, ◌++◌, refl, subst, sym, append-nil}
use Rattle.continued_files.specs.Lengths.{LengthValue}
use Rattle.reader_state.specs.States.{Lacks, files_part, files_text}

-- What is cut at the first `#` are the lines of stations, and what follows the end of that line those of files.
pub cut-parts : (fs : List LengthValue) (text stations front rest after : List ℕ) → Lacks 35 stations
    → text ≡ stations ++ files_part fs → (Lacks 35 text → ⊥)
    → ((xs ys : List ℕ) → Lacks 35 xs → text ≡ xs ++ 35 ∷ ys → (front ≡ xs) × (rest ≡ ys))
    → ((more : List ℕ) → rest ≡ 10 ∷ more → after ≡ more) → (front ≡ stations) × (after ≡ files_text fs)
cut-parts [] text stations front rest after lacks is stands back ends =
    absurd (stands (subst (Lacks 35) (sym (is ∙ append-nil stations)) lacks))
cut-parts (f ∷ fs) text stations front rest after lacks is stands back ends =
    let sides = back stations (10 ∷ files_text (f ∷ fs)) lacks is in
    (sides.0, ends (files_text (f ∷ fs)) sides.1)

pub no-parts : (fs : List LengthValue) (text stations : List ℕ) → Lacks 35 stations
    → text ≡ stations ++ files_part fs → ((xs ys : List ℕ) → Lacks 35 xs → text ≡ xs ++ 35 ∷ ys → ⊥)
    → (text ≡ stations) × ([] ≡ files_text fs)
no-parts [] text stations lacks is none = (is ∙ append-nil stations, refl)
no-parts (f ∷ fs) text stations lacks is none = absurd (none stations (10 ∷ files_text (f ∷ fs)) lacks is)
