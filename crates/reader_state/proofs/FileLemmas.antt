-- The lines of files.
use Rattle.std.proofs.Common.{◌≡◌, ℕ, ◌<◌, ◌^◌, List, [], ◌∷◌, ◌++◌, Some, refl, sym, ap, ◌∙◌, arith}
use Rattle.std.proofs.Common.{append_assoc, length}
use Rattle.std.specs.Prelude.{Option, Result}
use Rattle.std.specs.Fmt.{decimal}
use Rattle.std.specs.Result.{result_ok}
use Rattle.std.specs.Str.{IsUtf8}
use Rattle.std.specs.Str.Parse.{ParsesUnsigned}
use Rattle.std.proofs.lemmas.Fmt.{IsAscii-decimal, parse-decimal}
use Rattle.std.proofs.lemmas.Str.{IsUtf8-from_ascii}
use Rattle.std.proofs.Common.{subst}
use Rattle.continued_files.specs.Lengths.{LengthValue}
use Rattle.reader_state.specs.States.{AreLengths, IsLength, Lacks, file_words, files_text}
use Rattle.reader_state.proofs.ByteLemmas.{decimal-lacks, lacks-append}

-- ---- counts

pub count-utf8 : (bs : List ℕ) (n : ℕ) → n < 2 ^ 64 → bs ≡ decimal n → IsUtf8 bs
count-utf8 bs n fits is = subst IsUtf8 (sym is) (IsUtf8-from_ascii (decimal n) (IsAscii-decimal n fits))

pub count-back : {E : Type 0} → (bs : List ℕ) (n : ℕ) (r : Result ℕ E) (o : Option ℕ) → o ≡ result_ok r → n < 2 ^ 64
    → bs ≡ decimal n → ParsesUnsigned 64 10 bs r → o ≡ Some n
count-back bs n r o of fits is p = of ∙ ap result_ok (parse-decimal 64 n bs r fits fits is p)

-- ---- lines

pub file-lacks : (f : LengthValue) → IsLength f → Lacks 10 (file_words f)
file-lacks f h =
    lacks-append 10 f.name (32 ∷ decimal f.count) h.end
    (λ is. omega (arith, is), decimal-lacks 10 f.count (omega arith) h.count)

-- the first line and the others
files-first : (f : LengthValue) (fs : List LengthValue) → files_text (f ∷ fs) ≡ file_words f ++ 10 ∷ files_text fs
files-first f fs = append_assoc (file_words f) (10 ∷ []) (files_text fs)

-- A line that is cut off is that of the first file.
pub record IsFirstFile (fs : List LengthValue) (front rest : List ℕ) : Type 0 where
  pub first : LengthValue
  pub others : List LengthValue
  pub whole : fs ≡ first ∷ others
  pub is_length : IsLength first
  pub are_lengths : AreLengths others
  pub line : front ≡ file_words first
  pub left : rest ≡ files_text others

pub file-first : (fs : List LengthValue) (text front rest : List ℕ) → AreLengths fs → text ≡ files_text fs
    → length rest < length text
    → ((xs ys : List ℕ) → Lacks 10 xs → text ≡ xs ++ 10 ∷ ys → (front ≡ xs) × (rest ≡ ys)) → IsFirstFile fs front rest
file-first [] text front rest h is smaller cut =
    let none : length text ≡ 0 = ap length is in absurd (omega (arith, none, smaller))
file-first (f ∷ fs) text front rest h is smaller cut =
    let both-are : (front ≡ file_words f) × (rest ≡ files_text fs) =
    cut (file_words f) (files_text fs) (file-lacks f h.0) (is ∙ files-first f fs) in
    record {
      first = f;
      others = fs;
      whole = refl;
      is_length = h.0;
      are_lengths = h.1;
      line = both-are.0;
      left = both-are.1;
    }

-- Without a line no file is left.
pub no-file : (fs : List LengthValue) (text : List ℕ) → AreLengths fs → text ≡ files_text fs
    → ((xs ys : List ℕ) → Lacks 10 xs → text ≡ xs ++ 10 ∷ ys → ⊥) → fs ≡ []
no-file [] text h is cut = refl
no-file (f ∷ fs) text h is cut = absurd (cut (file_words f) (files_text fs) (file-lacks f h.0) (is ∙ files-first f fs))
