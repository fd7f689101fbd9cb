-- Steps of the files in the folders of a station.
use Rattle.std.proofs.Common.{◌≡◌, ℕ, List, subst}
use Rattle.continued_files.specs.Names.{has_text}
use Rattle.continued_files.specs.Steps.{FilesValue, GivesUpStep, ReturnsStep}

pub returns-below : (old new : FilesValue) (after : ℕ) (text folders : List ℕ) → after ≡ 4 → text ≡ folders
    → ReturnsStep old new (has_text after text) → ReturnsStep old new (has_text 4 folders)
returns-below old new after text folders four same step =
    subst (λ (t : List ℕ). ReturnsStep old new (has_text 4 t)) same
    (subst (λ (n : ℕ). ReturnsStep old new (has_text n text)) four step)

pub gives-up-below : (old new : FilesValue) (after : ℕ) (text folders : List ℕ) → after ≡ 4 → text ≡ folders
    → GivesUpStep old new (has_text after text) → GivesUpStep old new (has_text 4 folders)
gives-up-below old new after text folders four same step =
    subst (λ (t : List ℕ). GivesUpStep old new (has_text 4 t)) same
    (subst (λ (n : ℕ). GivesUpStep old new (has_text n text)) four step)
