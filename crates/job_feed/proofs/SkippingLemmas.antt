-- Bytes that are passed over, one read after another.
use Rattle.std.proofs.Common.{◌≡◌, ◌∙◌, ℕ, ◌+◌, ◌-◌, ◌≤◌, List, [], length, drop, Some, None, sym, ap}
use Rattle.std.proofs.Common.{arith}
use Rattle.std.proofs.Math.Seq.{drop-nil}
use Rattle.std.specs.Prelude.{IfSome, Option}
use Rattle.std.specs.Io.KnownBytes.{Consumes, IsAtEnd}
use Rattle.std.proofs.lemmas.List.{drop-drop, drop_at}

-- So many bytes of the old ones were passed over.
abbrev pub IsBehind : (old new : Option (List ℕ)) → ℕ → Type 0
IsBehind old new n = IfSome old (λ bytes. new ≡ Some (drop n bytes))

-- a piece more
pub passes_more : (old mid new : Option (List ℕ)) (k n : ℕ) (piece : List ℕ) → length piece ≡ n → IsBehind old mid k
    → Consumes mid new piece → IsBehind old new (k + n)
passes_more None mid new k n piece size before read = tt
passes_more (Some bytes) None new k n piece size before read = absurd cc
passes_more (Some bytes) (Some rest) None k n piece size before read = absurd read
passes_more (Some bytes) (Some rest) (Some left) k n piece size before read =
    let same : rest ≡ drop k bytes = cc in
    let tail : left ≡ drop n rest = sym (drop_at piece left n size) ∙ sym (ap (drop n) read) in
    ap {B = Option (List ℕ)} Some (tail ∙ ap (drop n) same ∙ drop-drop n k bytes)

-- nothing more, at the end
pub passes_all : (old new : Option (List ℕ)) (k total : ℕ) → k ≤ total → IsBehind old new k → IsAtEnd new
    → IsBehind old new total
passes_all None new k total within before end = tt
passes_all (Some bytes) None k total within before end = absurd cc
passes_all (Some bytes) (Some left) k total within before end =
    let same : left ≡ drop k bytes = cc in
    let more : k + (total - k) ≡ total = omega (arith, within) in
    let none : drop total bytes ≡ [] =
    sym (ap (λ m. drop m bytes) more) ∙ sym (drop-drop (total - k) k bytes) ∙ ap (drop (total - k)) (sym same ∙ end)
    ∙ drop-nil (total - k) in
    ap {B = Option (List ℕ)} Some (end ∙ sym none)
