-- What is left in lists and maps of files, some of which are taken out or changed.
use Rattle.std.proofs.Common.{◌≡◌, ◌∙◌, ◌∷◌, [], List, None, Option, Some, Bool, ℕ, ap, cond, false, inl, inr, not}
use Rattle.std.proofs.Common.{refl, subst, sym, true}
use Rattle.std.specs.Prelude.{String}
use Rattle.std.specs.BTreeMap.{is_at}
use Rattle.std.specs.Cmp.Lexicographic.{slice_cmp}
use Rattle.std.specs.List.{filter}
use Rattle.std.specs.Map.{lookup}
use Rattle.std.specs.Map.Calls.{RetainsPairs}
use Rattle.std.specs.Ordering.{nat_cmp}
use Rattle.std.specs.Str.{bytes_eq}
use Rattle.std.specs.String.{string_bytes}
use Rattle.std.proofs.lemmas.Bool.{cases_Bool}
use Rattle.std.proofs.lemmas.Map.Text.{is_eq-slice_cmp}
use Rattle.std.proofs.lemmas.Slice.Eq.{bytes_eq-Decides}
use Rattle.continued_files.specs.Known.{GivesUpIf, length_of}
use Rattle.continued_files.specs.Lengths.{LengthValue}
use Rattle.continued_files.specs.declared.known.Known.{Known}
use Rattle.continued_files.proofs.TailLemmas.{true-false}

-- ---- what a look-up finds of what is left

-- of a first one that is found or not (t), and stays or not (q), and the rest
step : {A : Type 0} (t q b : Bool) (v : A) (rest left : Option A) → (t ≡ true → q ≡ b) → left ≡ cond b rest None
    → cond q (cond t (Some v) left) left ≡ cond b (cond t (Some v) rest) None
step true true true v rest left same is = refl
step true true false v rest left same is = absurd (true-false true refl (same refl))
step true false true v rest left same is = absurd (true-false true refl (sym (same refl)))
step true false false v rest left same is = is
step false true true v rest left same is = is
step false true false v rest left same is = is
step false false true v rest left same is = is
step false false false v rest left same is = is

lookup-of : {K X : Type 0} (test : K → Bool) (q : Bool) (e : K × X) (es : List (K × X))
    → lookup test (cond q (e ∷ es) es) ≡ cond q (cond (test e.0) (Some e.1) (lookup test es)) (lookup test es)
lookup-of test true e es = refl
lookup-of test false e es = refl

filter-lookup : {K X : Type 0} (test : K → Bool) (p : K × X → Bool) (b : Bool)
    → ((k : K) (v : X) → test k ≡ true → p (k, v) ≡ b) → (es : List (K × X))
    → lookup test (filter p es) ≡ cond b (lookup test es) None
filter-lookup test p true same [] = refl
filter-lookup test p false same [] = refl
filter-lookup test p b same (e ∷ es) =
    lookup-of test (p e) e (filter p es)
    ∙ step (test e.0) (p e) b e.1 (lookup test es) (lookup test (filter p es)) (λ is. same e.0 e.1 is)
    (filter-lookup test p b same es)

length-of : (q : Bool) (l : LengthValue) (ls : List LengthValue) (name : List ℕ)
    → length_of (cond q (l ∷ ls) ls) name
    ≡ cond q (cond (bytes_eq l.name name) (Some l.count) (length_of ls name)) (length_of ls name)
length-of true l ls name = refl
length-of false l ls name = refl

same-either : (b : Bool) (o : Option ℕ) → o ≡ cond b o o
same-either true o = refl
same-either false o = refl

filter-length : (of : List ℕ → Bool) (name : List ℕ) (ls : List LengthValue)
    → length_of (filter (λ l. not (of l.name)) ls) name ≡ cond (not (of name)) (length_of ls name) None
filter-length of name [] = same-either (not (of name)) None
filter-length of name (l ∷ ls) =
    length-of (not (of l.name)) l (filter (λ l. not (of l.name)) ls) name
    ∙ step (bytes_eq l.name name) (not (of l.name)) (not (of name)) l.count (length_of ls name)
    (length_of (filter (λ l. not (of l.name)) ls) name)
    (λ is. ap (λ n. not (of n)) ((bytes_eq-Decides l.name name).0 is)) (filter-length of name ls)

pub dropped-length : (of : List ℕ → Bool) (name : List ℕ) (ls kept : List LengthValue)
    → kept ≡ filter (λ l. not (of l.name)) ls → of name ≡ true → length_of kept name ≡ None
dropped-length of name ls kept are is =
    ap (λ (l : List LengthValue). length_of l name) are ∙ filter-length of name ls
    ∙ ap (λ b. cond (not b) (length_of ls name) None) is

pub left-length : (of : List ℕ → Bool) (name : List ℕ) (ls kept : List LengthValue)
    → kept ≡ filter (λ l. not (of l.name)) ls → of name ≡ false → length_of kept name ≡ length_of ls name
left-length of name ls kept are is =
    ap (λ (l : List LengthValue). length_of l name) are ∙ filter-length of name ls
    ∙ ap (λ b. cond (not b) (length_of ls name) None) is

module _ {Y : Type 0} where
  -- the test by which a map looks a name up
  abbrev test_of : List ℕ → String Y → Bool
  test_of name = is_at (λ k. slice_cmp nat_cmp name (string_bytes k))

  found-same : (name : List ℕ) (k : String Y) → test_of name k ≡ true → name ≡ string_bytes k
  found-same name k is =
      (bytes_eq-Decides name (string_bytes k)).0 (sym (is_eq-slice_cmp name (string_bytes k)) ∙ is)

  filter-known : (of : List ℕ → Bool) (name : List ℕ) (es : List (String Y × Known))
      → lookup (test_of name) (filter (λ e. not (of (string_bytes e.0))) es)
      ≡ cond (not (of name)) (lookup (test_of name) es) None
  filter-known of name es =
      filter-lookup (test_of name) (λ e. not (of (string_bytes e.0))) (not (of name))
      (λ k v is. ap (λ n. not (of n)) (sym (found-same name k is))) es

  pub dropped-known : (of : List ℕ → Bool) (name : List ℕ) (es kept : List (String Y × Known))
      → kept ≡ filter (λ e. not (of (string_bytes e.0))) es → of name ≡ true → lookup (test_of name) kept ≡ None
  dropped-known of name es kept are is =
      ap (lookup (test_of name)) are ∙ filter-known of name es
      ∙ ap (λ b. cond (not b) (lookup (test_of name) es) None) is

  pub left-known : (of : List ℕ → Bool) (name : List ℕ) (es kept : List (String Y × Known))
      → kept ≡ filter (λ e. not (of (string_bytes e.0))) es → of name ≡ false
      → lookup (test_of name) kept ≡ lookup (test_of name) es
  left-known of name es kept are is =
      ap (lookup (test_of name)) are ∙ filter-known of name es
      ∙ ap (λ b. cond (not b) (lookup (test_of name) es) None) is

  -- ---- values that are changed

  pub changed-known : {F : Type 0} (T : F → String Y → Known → Bool → Known → F → Type 0) (of : List ℕ → Bool)
      (name : List ℕ) (f : F) → ((k : String Y) (v : Known) (b : Bool) (w : Known) (f' : F) → T f k v b w f'
      → (b ≡ true) × GivesUpIf (of (string_bytes k)) (Some v) (Some w) × (f' ≡ f)) → (es kept : List (String Y × Known))
      → RetainsPairs T f es kept → GivesUpIf (of name) (lookup (test_of name) es) (lookup (test_of name) kept)
  changed-known T of name f each [] kept is = ap (lookup (test_of name)) is
  changed-known T of name f each (e ∷ es) kept h =
      let one = each e.0 e.1 h.0 h.1 h.2 h.4 in
      let are : kept ≡ (e.0, h.1) ∷ h.3 = h.6 ∙ ap (λ b. cond b ((e.0, h.1) ∷ h.3) h.3) one.0 in
      let after : RetainsPairs T f es h.3 = subst (λ g. RetainsPairs T g es h.3) one.2 h.5 in
      let rest = changed-known T of name f each es h.3 after in
      subst (λ l. GivesUpIf (of name) (lookup (test_of name) (e ∷ es)) (lookup (test_of name) l)) (sym are)
      (elim (cases_Bool (test_of name e.0)) [
        | inl is ↦
            subst (λ b. GivesUpIf (of name) (cond b (Some e.1) (lookup (test_of name) es))
            (cond b (Some h.1) (lookup (test_of name) h.3))) (sym is)
            (subst (λ n. GivesUpIf (of n) (Some e.1) (Some h.1)) (sym (found-same name e.0 is)) one.1)
        | inr not ↦
            subst (λ b. GivesUpIf (of name) (cond b (Some e.1) (lookup (test_of name) es))
            (cond b (Some h.1) (lookup (test_of name) h.3))) (sym not) rest
      ])
