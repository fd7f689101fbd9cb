-- Text that is written, one number after the other.
use Rattle.std.proofs.Common.{◌≡◌, ◌∙◌, ◌<◌, ◌+◌, ℕ, List, [], ◌∷◌, ◌++◌, get_or, length, take, sym, ap}
use Rattle.std.proofs.Common.{append_assoc, append-nil}
use Rattle.std.proofs.lemmas.Grind.{flat_map-append}
use Rattle.std.proofs.lemmas.List.{take_more}
use Rattle.catalog.specs.Numbers.{Numbered}
use Rattle.number_file.specs.Text.{text_of, text_of_number}

-- four texts behind a fifth
pub four-more : (text a b d e : List ℕ) → ((((text ++ a) ++ b) ++ d) ++ e) ≡ text ++ (((a ++ b) ++ d) ++ e)
four-more text a b d e = simp append_assoc

-- one number more
pub number-more : (before now next : List ℕ) (numbers : List Numbered) (i : ℕ) (n : Numbered) → i < length numbers
    → n ≡ get_or numbers i n → now ≡ before ++ text_of (take i numbers) → next ≡ now ++ text_of_number n
    → next ≡ before ++ text_of (take (i + 1) numbers)
number-more before now next numbers i n inside there was more =
    more ∙ ap (λ l. l ++ text_of_number n) was
    ∙ append_assoc before (text_of (take i numbers)) (text_of_number n)
    ∙ ap (λ l. before ++ l) (sym (ap text_of (take_more numbers i n inside)
    ∙ flat_map-append text_of_number (take i numbers) (get_or numbers i n ∷ [])
    ∙ ap (λ l. text_of (take i numbers) ++ l) (append-nil (text_of_number (get_or numbers i n)))
    ∙ ap (λ m. text_of (take i numbers) ++ text_of_number m) (sym there)))
