-- What is known of files, and the steps of their runs.
use Rattle.std.proofs.Common.{◌≡◌, ◌≢◌, ◌∙◌, ◌+◌, ◌<◌, ◌≤◌, ◌++◌, ◌∷◌, [], ℕ, List, None, Option, Some, Bool, inl, inr}
use Rattle.std.proofs.Common.{ap, arith, cond, drop, false, get_or, length, nat_lt, refl, subst, suc, sym, true, zero}
use Rattle.std.proofs.Common.{drop-cons}
use Rattle.std.specs.Prelude.{◌⊎◌, IsSome, String, is_some}
use Rattle.std.specs.Str.{IsUtf8}
use Rattle.std.specs.BTreeMap.{BTreeMap, get_by_text}
use Rattle.std.specs.Str.{bytes_eq}
use Rattle.std.specs.List.{remove}
use Rattle.std.proofs.lemmas.Bool.Decides.{nat_tests}
use Rattle.std.proofs.lemmas.Bool.{cases_Bool, cases_lt, false_from_ne_true, le-ltb, lt-ltb}
use Rattle.std.proofs.lemmas.List.{get_or_default}
use Rattle.std.proofs.lemmas.Slice.Eq.{bytes_eq-Decides}
use Rattle.std.proofs.lemmas.Map.Text.{is_eq-slice_cmp}
use Rattle.std.specs.Cmp.Lexicographic.{slice_cmp}
use Rattle.std.specs.Map.{lookup}
use Rattle.std.specs.Ordering.{is_eq, nat_cmp}
use Rattle.std.specs.String.{string_bytes}
use Rattle.std.specs.BTreeMap.{is_at}
use Rattle.continued_files.specs.Indexes.{IndexValue, Indexes}
use Rattle.continued_files.specs.Known.{EndsTail, GivesUp, GivesUpIf, GivesUpOf, IsCounted, IsIndexed, KeepsIndexes}
use Rattle.continued_files.specs.Known.{KeepsTails, KnowsOthers, Settles, kept_by, length_of, length_told, tail_before}
use Rattle.continued_files.specs.Known.Settles.{Ends, Stays}
use Rattle.continued_files.specs.Lengths.{LengthValue}
use Rattle.continued_files.specs.Tails.{HasNone, IsLeft, TailValue, all_from, first_of, kept_length, tail_of}
use Rattle.continued_files.specs.declared.known.Unnamed.{Unnamed}
use Rattle.continued_files.specs.declared.known.Unnamed.TheVariants.{Tail}
use Rattle.continued_files.specs.declared.known.Known.{Known}
use Rattle.continued_files.proofs.TailLemmas.{all-left, true-false}

pub same-text : (a b : List ℕ) → (a ≡ b) ⊎ (a ≢ b)
same-text a b =
    elim (cases_Bool (bytes_eq a b)) [
      | inl is ↦ inl ((bytes_eq-Decides a b).0 is)
      | inr not ↦ inr (λ same. true-false _ ((bytes_eq-Decides a b).1 same) not)
    ]

differs-false : (a b : List ℕ) → a ≢ b → bytes_eq a b ≡ false
differs-false a b differs = false_from_ne_true (bytes_eq a b) (λ is. differs ((bytes_eq-Decides a b).0 is))

same-true : (a b : List ℕ) → a ≡ b → bytes_eq a b ≡ true
same-true a b same = (bytes_eq-Decides a b).1 same

-- ---- a tail that is over

settles-left : (old new : Option Known) (kept count place : ℕ) → Settles old new
    → IsLeft (tail_before old kept count) place → IsLeft (tail_before new kept count) place
settles-left old new kept count place (Stays known) left = left
settles-left old new kept count place (Ends k k' e) left =
    elim (cases_lt count k.count) [
      | inl low ↦
          let was : tail_before (Some k) kept count ≡ tail_of k.count count =
          ap (λ b. cond b (tail_of k.count count) k.tail.tail) (lt-ltb count k.count low) in
          let is : tail_before (Some k') kept count ≡ tail_of k'.count count =
          ap (λ b. cond b (tail_of k'.count count) k'.tail.tail)
          (lt-ltb count k'.count (subst (λ n. count < n) (sym e.given.count) low)) in
          let same : tail_of k.count count ≡ tail_of k'.count count = ap (λ n. tail_of n count) (sym e.given.count) in
          subst (λ (t : TailValue). IsLeft t place) (was ∙ same ∙ sym is) left
      | inr over ↦
          let was : tail_before (Some k) kept count ≡ k.tail.tail =
          ap (λ b. cond b (tail_of k.count count) k.tail.tail) (le-ltb count k.count over) in
          absurd (e.none place (subst (λ (t : TailValue). IsLeft t place) was left))
    ]

given-index : (k k' : Known) (rs : List (List ℕ)) → GivesUp k k' → IsCounted (Some k) rs
    → IsIndexed (Some k') rs × IsCounted (Some k') rs
given-index k k' rs e counted = (
  λ low. record {
    end = subst (λ (t : TailValue). t.from + length t.left ≤ length rs) (sym e.tail) (omega (arith, counted));
    entries = λ place from below.
        let low : k.count ≤ place = subst (λ (t : TailValue). t.from ≤ place) e.tail from in
        let high : place < k.count + 0 = subst (λ (t : TailValue). place < t.from + length t.left) e.tail below in
        absurd (omega (arith, low, high));
  },
  subst (λ n. n ≤ length rs) (sym e.count) counted,
)

settles-index : (old new : Option Known) (rs : List (List ℕ)) → Settles old new → IsIndexed old rs → IsCounted old rs
    → IsIndexed new rs × IsCounted new rs
settles-index old new rs (Stays known) index counted = (index, counted)
settles-index old new rs (Ends k k' e) index counted = given-index k k' rs e.given counted

pub settles-same : (old new : Option Known) → new ≡ old → Settles old new
settles-same old new same = subst (λ (k : Option Known). Settles old k) (sym same) (Stays old)

pub settles-tails : {Y : Type 0} (name : List ℕ) (old new : BTreeMap (String Y) Known) (kept : List ℕ → ℕ → ℕ)
    → Settles (get_by_text old name) (get_by_text new name) → KnowsOthers name old new → KeepsTails old kept new kept
settles-tails name old new kept here others = λ other count place low left.
    elim (same-text other name) [
      | inl same ↦
          settles-left (get_by_text old other) (get_by_text new other) (kept other count) count place
          (subst (λ n. Settles (get_by_text old n) (get_by_text new n)) (sym same) here) left
      | inr differs ↦
          subst (λ (k : Option Known). IsLeft (tail_before k (kept other count) count) place)
          (sym (others other differs)) left
    ]

pub settles-indexes : {Y : Type 0} (name : List ℕ) (old new : BTreeMap (String Y) Known)
    → Settles (get_by_text old name) (get_by_text new name) → KnowsOthers name old new → KeepsIndexes old new
settles-indexes name old new here others = λ other rs index counted.
    elim (same-text other name) [
      | inl same ↦
          settles-index (get_by_text old other) (get_by_text new other) rs
          (subst (λ n. Settles (get_by_text old n) (get_by_text new n)) (sym same) here) index counted
      | inr differs ↦
          subst (λ (k : Option Known). IsIndexed k rs × IsCounted k rs) (sym (others other differs)) (index, counted)
    ]

-- ---- what is given up

pub gives-same : (old new : Option Known) → GivesUpIf false old new → new ≡ old
gives-same None new is = is
gives-same (Some k) new is = is

pub gives-index : (b : Bool) (old new : Option Known) (rs : List (List ℕ)) → GivesUpIf b old new → IsIndexed old rs
    → IsCounted old rs → IsIndexed new rs × IsCounted new rs
gives-index b None new rs is index counted =
    subst (λ (k : Option Known). IsIndexed k rs × IsCounted k rs) (sym is) (tt, tt)
gives-index false (Some k) new rs is index counted =
    subst (λ (n : Option Known). IsIndexed n rs × IsCounted n rs) (sym is) (index, counted)
gives-index true (Some k) new rs given index counted =
    subst (λ (n : Option Known). IsIndexed n rs × IsCounted n rs) (sym given.1)
    (given-index k given.0 rs given.2 counted)

-- ---- lengths in a list

pub length_of-remove : (fs : List LengthValue) (at : ℕ) (name : List ℕ)
    → at < length fs → ((d : LengthValue) → (get_or fs at d).name ≢ name)
    → length_of (remove fs at) name ≡ length_of fs name
length_of-remove [] at name low differs = absurd (omega (arith, low))
length_of-remove (f ∷ fs) zero name low differs =
    sym (ap (λ b. cond b (Some f.count) (length_of fs name)) (differs-false f.name name (differs f)))
length_of-remove (f ∷ fs) (suc at) name low differs =
    ap (λ r. cond (bytes_eq f.name name) (Some f.count) r) (length_of-remove fs at name (omega (arith, low)) differs)

pub drop-remove : (fs : List LengthValue) (at : ℕ) → at < length fs → drop at (remove fs at) ≡ drop (suc at) fs
drop-remove [] at low = absurd (omega (arith, low))
drop-remove (f ∷ fs) zero low = refl
drop-remove (f ∷ fs) (suc at) low = drop-remove fs at (omega (arith, low))

-- the length of a file that is named, or of another one
pub length_of-same : (f : LengthValue) (fs : List LengthValue) (name : List ℕ) → f.name ≡ name
    → length_of (f ∷ fs) name ≡ Some f.count
length_of-same f fs name same = ap (λ b. cond b (Some f.count) (length_of fs name)) (same-true f.name name same)

pub length_of-other : (f : LengthValue) (fs : List LengthValue) (name : List ℕ) → f.name ≢ name
    → length_of (f ∷ fs) name ≡ length_of fs name
length_of-other f fs name differs =
    ap (λ b. cond b (Some f.count) (length_of fs name)) (differs-false f.name name differs)

-- the first of two that there is
abbrev pub first_some : Option ℕ → Option ℕ → Option ℕ
first_some None other = other
first_some (Some x) other = Some x

pub first_some-none : (o : Option ℕ) → first_some o None ≡ o
first_some-none None = refl
first_some-none (Some x) = refl

pub first_some-assoc : (a b c : Option ℕ) → first_some (first_some a b) c ≡ first_some a (first_some b c)
first_some-assoc None b c = refl
first_some-assoc (Some x) b c = refl

pub length_of-push : (fs : List LengthValue) (f : LengthValue) (name : List ℕ)
    → length_of (fs ++ f ∷ []) name ≡ first_some (length_of fs name) (length_of (f ∷ []) name)
length_of-push [] f name = refl
length_of-push (g ∷ fs) f name =
    elim (cases_Bool (bytes_eq g.name name)) [
      | inl is ↦
          ap (λ b. cond b (Some g.count) (length_of (fs ++ f ∷ []) name)) is
          ∙ sym (ap (λ b. first_some (cond b (Some g.count) (length_of fs name)) (length_of (f ∷ []) name)) is)
      | inr not ↦
          ap (λ b. cond b (Some g.count) (length_of (fs ++ f ∷ []) name)) not ∙ length_of-push fs f name
          ∙ sym (ap (λ b. first_some (cond b (Some g.count) (length_of fs name)) (length_of (f ∷ []) name)) not)
    ]

-- a list of lengths, and those of the rest of another one
pub length_of-rest : (f : LengthValue) (fs : List LengthValue) (name : List ℕ)
    → length_of (f ∷ fs) name ≡ first_some (length_of (f ∷ []) name) (length_of fs name)
length_of-rest f fs name =
    elim (cases_Bool (bytes_eq f.name name)) [
      | inl is ↦
          ap (λ b. cond b (Some f.count) (length_of fs name)) is
          ∙ sym (ap (λ b. first_some (cond b (Some f.count) None) (length_of fs name)) is)
      | inr not ↦
          ap (λ b. cond b (Some f.count) (length_of fs name)) not
          ∙ sym (ap (λ b. first_some (cond b (Some f.count) None) (length_of fs name)) not)
    ]

-- the length of one file is taken out of a list
pub dropped-others : (fs gs : List LengthValue) (at : ℕ) (e : LengthValue) (name : List ℕ) → gs ≡ remove fs at
    → at < length fs → e ≡ get_or fs at e → e.name ≡ name → (other : List ℕ) → other ≢ name
    → length_of gs other ≡ length_of fs other
dropped-others fs gs at e name is low item same other differs =
    ap (λ (l : List LengthValue). length_of l other) is
    ∙ length_of-remove fs at other low
    (λ d there. differs
    (sym there ∙ ap (λ (f : LengthValue). f.name) (get_or_default fs at d e low ∙ sym item) ∙ same))

pub dropped-none : (fs gs : List LengthValue) (at : ℕ) (name : List ℕ) → gs ≡ remove fs at → at < length fs
    → length_of (drop (suc at) fs) name ≡ None → length_of (drop at gs) name ≡ None
dropped-none fs gs at name is low none =
    ap (λ (l : List LengthValue). length_of (drop at l) name) is
    ∙ ap (λ (l : List LengthValue). length_of l name) (drop-remove fs at low) ∙ none

-- ---- the lengths that are told

pub value-is : (f : LengthValue) (name name' : List ℕ) (count count' : ℕ) → f ≡ record { name = name; count = count }
    → name ≡ name' → count ≡ count' → f ≡ record { name = name'; count = count' }
value-is f name name' count count' is n c =
    is ∙ ap (λ (x : List ℕ). record { name = x; count = count }) n
    ∙ ap (λ (x : ℕ). record { name = name'; count = x }) c

module _ {Y : Type 0} where
  abbrev pub told_in : List (String Y × Known) → List ℕ → Option ℕ
  told_in es name = length_told (lookup (is_at (λ k. slice_cmp nat_cmp name (string_bytes k))) es) None

  told-one : (f : LengthValue) (k : String Y) (v : Known) (es : List (String Y × Known)) (name : List ℕ)
      → f ≡ record { name = string_bytes k; count = kept_length v.tail.tail v.count }
      → first_some (length_of (f ∷ []) name) (told_in es name) ≡ told_in ((k, v) ∷ es) name
  told-one f k v es name is =
      let test = is_eq-slice_cmp name (string_bytes k) in
      let named : f.name ≡ string_bytes k = ap (λ (x : LengthValue). x.name) is in
      let count : f.count ≡ kept_length v.tail.tail v.count = ap (λ (x : LengthValue). x.count) is in
      elim (same-text (string_bytes k) name) [
        | inl same ↦
            ap (λ o. first_some o (told_in es name)) (length_of-same f [] name (named ∙ same)) ∙ ap Some count
            ∙ sym (ap (λ b. length_told (cond b (Some v) (lookup
            (is_at (λ k. slice_cmp nat_cmp name (string_bytes k))) es)) None)
            (test ∙ same-true name (string_bytes k) (sym same)))
        | inr differs ↦
            ap (λ o. first_some o (told_in es name)) (length_of-other f [] name (λ at. differs (sym named ∙ at)))
            ∙ sym (ap (λ b. length_told (cond b (Some v) (lookup
            (is_at (λ k. slice_cmp nat_cmp name (string_bytes k))) es)) None)
            (test ∙ differs-false name (string_bytes k) (λ at. differs (sym at))))
      ]

  pub told-more : (ls gs : List LengthValue) (f : LengthValue) (k : String Y) (v : Known)
      (es rest : List (String Y × Known)) (name : List ℕ) (all : Option ℕ) → gs ≡ ls ++ f ∷ []
      → f ≡ record { name = string_bytes k; count = kept_length v.tail.tail v.count } → es ≡ (k, v) ∷ rest
      → first_some (length_of ls name) (told_in es name) ≡ all
      → first_some (length_of gs name) (told_in rest name) ≡ all
  told-more ls gs f k v es rest name all more is split before =
      ap (λ (l : List LengthValue). first_some (length_of l name) (told_in rest name)) more
      ∙ ap (λ o. first_some o (told_in rest name)) (length_of-push ls f name)
      ∙ first_some-assoc (length_of ls name) (length_of (f ∷ []) name) (told_in rest name)
      ∙ ap (first_some (length_of ls name)) (told-one f k v rest name is)
      ∙ ap (λ (l : List (String Y × Known)). first_some (length_of ls name) (told_in l name)) (sym split) ∙ before

told-known : (known : Option Known) (o other named : Option ℕ) → IsSome known → o ≡ length_told known None
    → first_some o other ≡ length_told known named
told-known None o other named some is = absurd (true-false false some refl)
told-known (Some k) o other named some is = ap (λ x. first_some x other) is

-- What is told once the lengths before a place were looked at.
pub record ToldNamed (known : List ℕ → Option Known) (named ls : List LengthValue) (at : ℕ) : Type 0 where
  pub known_ones : (name : List ℕ) → IsSome (known name) → length_of ls name ≡ length_told (known name) None
  pub all : (name : List ℕ) → IsUtf8 name
      → first_some (length_of ls name) (length_of (drop at named) name)
      ≡ length_told (known name) (length_of named name)

drop-at : (named : List LengthValue) (at : ℕ) (e : LengthValue) → at < length named → e ≡ get_or named at e
    → drop at named ≡ e ∷ drop (at + 1) named
drop-at named at e low item =
    let next : suc at ≡ at + 1 = omega arith in
    drop-cons named at e low ∙ ap (λ (f : LengthValue). f ∷ drop (suc at) named) (sym item)
    ∙ ap (λ n. e ∷ drop n named) next

pub named-pushed : (known : List ℕ → Option Known) (named ls gs : List LengthValue) (at : ℕ) (e f : LengthValue)
    → at < length named → e ≡ get_or named at e → f ≡ e → gs ≡ ls ++ f ∷ [] → ToldNamed known named ls at
    → ToldNamed known named gs (at + 1)
named-pushed known named ls gs at e f low item same more h = record {
  known_ones = λ name some.
      ap (λ (l : List LengthValue). length_of l name) more ∙ length_of-push ls f name
      ∙ told-known (known name) (length_of ls name) (length_of (f ∷ []) name) None some (h.known_ones name some);
  all = λ name text.
      ap (λ (l : List LengthValue). first_some (length_of l name) (length_of (drop (at + 1) named) name)) more
      ∙ ap (λ o. first_some o (length_of (drop (at + 1) named) name)) (length_of-push ls f name)
      ∙ first_some-assoc (length_of ls name) (length_of (f ∷ []) name) (length_of (drop (at + 1) named) name)
      ∙ ap (first_some (length_of ls name))
      (sym (length_of-rest f (drop (at + 1) named) name)
      ∙ ap (λ (x : LengthValue). length_of (x ∷ drop (at + 1) named) name) same
      ∙ ap (λ (l : List LengthValue). length_of l name) (sym (drop-at named at e low item)))
      ∙ h.all name text;
}

pub named-passed : (known : List ℕ → Option Known) (named ls : List LengthValue) (at : ℕ) (e : LengthValue)
    → at < length named → e ≡ get_or named at e → (IsUtf8 e.name → IsSome (known e.name))
    → ToldNamed known named ls at → ToldNamed known named ls (at + 1)
named-passed known named ls at e low item some h = record {
  known_ones = h.known_ones;
  all = λ name text.
      elim (same-text e.name name) [
        | inl same ↦
            let is : IsSome (known name) = subst (λ n. IsSome (known n)) same (some (subst IsUtf8 (sym same) text)) in
            told-known (known name) (length_of ls name) (length_of (drop (at + 1) named) name) (length_of named name)
            is (h.known_ones name is)
        | inr differs ↦
            ap (first_some (length_of ls name))
            (sym (length_of-other e (drop (at + 1) named) name differs)
            ∙ ap (λ (l : List LengthValue). length_of l name) (sym (drop-at named at e low item)))
            ∙ h.all name text
      ];
}

-- ---- a file is forgotten

pub first-zero : (count : ℕ) → first_of 0 count ≡ 0
first-zero count = grind (arith, nat_tests)

module _ {Y : Type 0} where
  -- Nothing is known or named any more of one file.
  pub record Forgets (name : List ℕ) (old new : BTreeMap (String Y) Known) (named named' : List LengthValue)
      : Type 0 where
    pub others : (other : List ℕ) → other ≢ name → (get_by_text new other ≡ get_by_text old other)
        × (length_of named' other ≡ length_of named other)
    pub none : (get_by_text new name ≡ None) × (length_of named' name ≡ None)

  pub forgets-tails : (name : List ℕ) (old new : BTreeMap (String Y) Known) (named named' : List LengthValue)
      (u u' : Unnamed) → Forgets name old new named named' → u' ≡ u → u ≡ Tail
      → KeepsTails old (λ n count. kept_by (length_of named n) u count) new
      (λ n count. kept_by (length_of named' n) u' count)
  forgets-tails name old new named named' u u' h same tail = λ other count place low left.
      elim (same-text other name) [
        | inl here ↦
            let unknown = ap (λ n. get_by_text new n) here ∙ h.none.0 in
            let unnamed = ap (λ n. length_of named' n) here ∙ h.none.1 in
            subst (λ (k : Option Known). IsLeft (tail_before k (kept_by (length_of named' other) u' count) count) place)
            (sym unknown)
            (subst (λ (o : Option ℕ). IsLeft (tail_of (kept_by o u' count) count) place) (sym unnamed)
            (subst (λ (v : Unnamed). IsLeft (tail_of (kept_by None v count) count) place) (sym (same ∙ tail))
            (subst (λ n. IsLeft (all_from n count) place) (sym (first-zero count))
            (all-left 0 count place (omega arith) low))))
        | inr differs ↦
            let o = h.others other differs in
            subst (λ (k : Option Known). IsLeft (tail_before k (kept_by (length_of named' other) u' count) count) place)
            (sym o.0)
            (subst (λ (l : Option ℕ). IsLeft (tail_before (get_by_text old other) (kept_by l u' count) count) place)
            (sym o.1)
            (subst (λ (v : Unnamed). IsLeft (tail_before (get_by_text old other)
            (kept_by (length_of named other) v count) count) place) (sym same) left))
      ]

  pub forgets-indexes : (name : List ℕ) (old new : BTreeMap (String Y) Known) (named named' : List LengthValue)
      → Forgets name old new named named' → KeepsIndexes old new
  forgets-indexes name old new named named' h = λ other rs index counted.
      elim (same-text other name) [
        | inl here ↦
            subst (λ (k : Option Known). IsIndexed k rs × IsCounted k rs)
            (sym (ap (λ n. get_by_text new n) here ∙ h.none.0)) (tt, tt)
        | inr differs ↦
            subst (λ (k : Option Known). IsIndexed k rs × IsCounted k rs) (sym (h.others other differs).0)
            (index, counted)
      ]
