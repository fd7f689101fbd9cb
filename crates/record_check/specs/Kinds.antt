-- What a file is by the bytes with which each file of its kind begins: RFC 1952, and miniSEED 3.0 of the FDSN.
use Rattle.std.specs.Prelude.{ℕ, ◌==◌, ◌&&◌, if◌then◌else◌, List, [], ◌∷◌, Option, Some, None}
use Rattle.record_check.specs.declared.kinds.FileKind.{FileKind}
use Rattle.record_check.specs.declared.kinds.FileKind.TheVariants.{Gzip, MiniSeed3}

-- by its first three bytes
abbrev pub kind_by_three : (first second third : ℕ) → Option FileKind
kind_by_three first second third =
    if first == 31 && second == 139 then Some Gzip
    else if first == 77 && second == 83 && third == 3 then Some MiniSeed3 else None

-- by its bytes
abbrev pub kind_by_signature : List ℕ → Option FileKind
kind_by_signature [] = None
kind_by_signature (a ∷ []) = None
kind_by_signature (a ∷ b ∷ []) = kind_by_three a b 0
kind_by_signature (a ∷ b ∷ c ∷ bytes) = kind_by_three a b c
