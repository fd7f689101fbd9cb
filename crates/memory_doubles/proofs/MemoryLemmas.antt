-- Records in memory.
use Rattle.std.proofs.Common.{◌≡◌, ◌≢◌, ◌∙◌, ◌≤◌, ◌++◌, ◌∷◌, [], ℕ, List, Bool, true, false, ap, length}
use Rattle.std.proofs.Common.{Some, refl, sym, take}
use Rattle.std.specs.Prelude.{if◌then◌else◌}
use Rattle.std.specs.Str.{bytes_eq}
use Rattle.std.proofs.lemmas.List.{append-nil, take-append-le}
use Rattle.std.proofs.lemmas.Slice.Eq.{bytes_eq-Decides}
use Rattle.continued_files.specs.Files.{AddsTo, Told}
use Rattle.memory_doubles.specs.MemoryRecords.{NamedValue, records_of}

-- what is told of some records
abbrev told : List NamedValue → Told (List (List ℕ))
told rs name = Some (records_of rs name)

-- one more record, which is of the file or of another
more-by : (b : Bool) (x : List ℕ) (xs ys : List (List ℕ))
    → (if b then x ∷ (xs ++ ys) else xs ++ ys) ≡ (if b then x ∷ xs else xs) ++ ys
more-by true x xs ys = refl
more-by false x xs ys = refl

records-append : (rs ss : List NamedValue) (name : List ℕ)
    → records_of (rs ++ ss) name ≡ records_of rs name ++ records_of ss name
records-append [] ss name = refl
records-append (r ∷ rs) ss name =
    ap (λ xs. if bytes_eq r.name name then r.bytes ∷ xs else xs) (records-append rs ss name)
    ∙ more-by (bytes_eq r.name name) r.bytes (records_of rs name) (records_of ss name)

is-false : (b : Bool) → (b ≡ true → ⊥) → b ≡ false
is-false true h = absurd (h refl)
is-false false h = refl

some-is : (xs ys : List (List ℕ)) → Some xs ≡ Some ys → xs ≡ ys
some-is xs ys e = cc

-- the record of a name
one-here : (r : NamedValue) (name : List ℕ) → r.name ≡ name → records_of (r ∷ []) name ≡ r.bytes ∷ []
one-here r name is =
    ap (λ b. if b then r.bytes ∷ [] else []) ((bytes_eq-Decides r.name name).1 is)

one-elsewhere : (r : NamedValue) (name : List ℕ) → name ≢ r.name → records_of (r ∷ []) name ≡ []
one-elsewhere r name other =
    ap (λ b. if b then r.bytes ∷ [] else [])
    (is-false (bytes_eq r.name name) (λ t. other (sym ((bytes_eq-Decides r.name name).0 t))))

-- one record more
pub adds-one : (all all' : List NamedValue) (r : NamedValue) → all' ≡ all ++ r ∷ []
    → AddsTo r.name r.bytes (told all) (told all')
adds-one all all' r is =
    record {
      here = λ rs tells.
          ap Some (ap (λ l. records_of l r.name) is ∙ records-append all (r ∷ []) r.name
          ∙ ap (λ l. records_of all r.name ++ l) (one-here r r.name refl)
          ∙ ap (λ l. l ++ r.bytes ∷ []) (some-is _ _ tells));
      others = λ other differs.
          ap Some (ap (λ l. records_of l other) is ∙ records-append all (r ∷ []) other
          ∙ ap (λ l. records_of all other ++ l) (one-elsewhere r other differs)
          ∙ append-nil (records_of all other));
    }

-- what was synced stays
pub keeps-synced : (all all' : List NamedValue) (r : NamedValue) (synced synced' : ℕ) → all' ≡ all ++ r ∷ []
    → synced' ≡ synced → synced ≤ length all → (name : List ℕ)
    → Some (length (records_of (take synced' all') name)) ≡ Some (length (records_of (take synced all) name))
keeps-synced all all' r synced synced' is same within name =
    ap (λ l. Some (length (records_of l name)))
    (ap (λ n. take n all') same ∙ ap (take synced) is ∙ take-append-le synced all (r ∷ []) within)
