-- Each call of files in which readers go on is a step of each file.
use Rattle.std.proofs.Common.{◌≡◌, ◌≢◌, ◌∙◌, ◌+◌, ◌<◌, ◌≤◌, ◌++◌, ◌∷◌, [], ℕ, List, None, Option, Some, inl, inr}
use Rattle.std.proofs.Common.{Bool, ap, arith, cond, false, length, length-append, refl, subst, sym, true}
use Rattle.std.specs.Prelude.{◌⊎◌}
use Rattle.std.proofs.lemmas.Bool.{cases_Bool, le-ltb}
use Rattle.continued_files.specs.Files.{MakesSafe, Tells, TellsOthers, TellsSame}
use Rattle.continued_files.specs.Indexes.{Indexes}
use Rattle.continued_files.specs.Known.{GivesUpIf, IsCounted, IsIndexed, Knows, kept_by, tail_before}
use Rattle.continued_files.specs.Places.{record_at}
use Rattle.continued_files.specs.Runs.{AreDistinct, IsOf, Moment, Numbers, Series, after_record, after_renewal}
use Rattle.continued_files.specs.Runs.{after_sync}
use Rattle.continued_files.specs.Runs.Step.{Forgets, Hands}
use Rattle.continued_files.specs.Steps.{ComesNoMore, FilesValue, GivesUpStep, HandsStep, IsAt, MayCome, ReturnsStep}
use Rattle.continued_files.specs.Steps.{SyncsStep, tail_at}
use Rattle.continued_files.specs.Tails.{IsLeft, Offers, TailValue, all_from, first_of, tail_of}
use Rattle.continued_files.specs.Tails.Offers.{Adds, Passes}
use Rattle.continued_files.specs.declared.known.Known.{Known}
use Rattle.continued_files.specs.declared.known.Unnamed.{Unnamed}
use Rattle.continued_files.specs.declared.known.Unnamed.TheVariants.{Tail}
use Rattle.continued_files.proofs.KnownLemmas.{first-zero, gives-index, gives-same}
use Rattle.continued_files.proofs.TailLemmas.{all-end, left-end}

-- ---- what is known of a file

known-tail : (k : Known) (kept count : ℕ) → k.count ≤ count → tail_before (Some k) kept count ≡ k.tail.tail
known-tail k kept count low = ap (λ b. cond b (tail_of k.count count) k.tail.tail) (le-ltb count k.count low)

pub tail-within : (known : Option Known) (kept : ℕ) (rs : List (List ℕ)) (i : ℕ) → IsIndexed known rs
    → IsCounted known rs → IsLeft (tail_before known kept (length rs)) i → i < length rs
tail-within None kept rs i index counted left = all-end (first_of kept (length rs)) (length rs) i left
tail-within (Some k) kept rs i index counted left =
    let is = index counted in
    let end : i < k.tail.tail.from + length k.tail.tail.left =
    left-end k.tail.tail i (subst (λ (t : TailValue). IsLeft t i) (known-tail k kept (length rs) counted) left) in
    let within : k.tail.tail.from + length k.tail.tail.left ≤ length rs = is.end in
    omega (arith, end, within)

knows-index : (known : Option Known) (rs : List (List ℕ)) (t : TailValue) → Knows known rs t → IsIndexed known rs
knows-index None rs t h = absurd h
knows-index (Some k) rs t h = λ low. h.2

knows-count : (known : Option Known) (rs : List (List ℕ)) (t : TailValue) → Knows known rs t → IsCounted known rs
knows-count None rs t h = absurd h
knows-count (Some k) rs t h = h.0

knows-tail : (known : Option Known) (kept : ℕ) (rs : List (List ℕ)) (t : TailValue) → Knows known rs t
    → tail_before known kept (length rs) ≡ t
knows-tail None kept rs t h = absurd h
knows-tail (Some k) kept rs t h = known-tail k kept (length rs) h.0 ∙ h.1

-- ---- a record is handed

offers-length : (t : TailValue) (rs : List (List ℕ)) (r : List ℕ) (t' : TailValue) (rs' : List (List ℕ))
    → Offers t rs r t' rs' → length rs' ≤ length rs + 1
offers-length t rs r t' rs' (Passes place left here) = omega arith
offers-length t rs r t' rs' (Adds others) =
    let size : length (rs ++ r ∷ []) ≡ length rs + 1 = length-append rs (r ∷ []) in omega (arith, size)

-- What comes of a record that is handed to a file of that name.
abbrev pub OffersAt : FilesValue → FilesValue → List ℕ → List ℕ → Type 0
OffersAt old new name r = (rs : List (List ℕ)) → Tells old.records name rs → IsIndexed (old.known name) rs
    → (rs' : List (List ℕ)) × (t : TailValue) × Tells new.records name rs' × Knows (new.known name) rs' t
    × Offers (tail_at old name (length rs)) rs r t rs'

-- what else is told after it
pub record Others (old new : FilesValue) (name : List ℕ) : Type 0 where
  pub records : TellsOthers name old.records new.records
  pub safe : TellsSame old.safe new.safe
  pub known : (other : List ℕ) → other ≢ name → new.known other ≡ old.known other
  pub named : (other : List ℕ) → new.named other ≡ old.named other
  pub unnamed : new.unnamed ≡ old.unnamed

other-at : (old new : FilesValue) (name : List ℕ) → Others old new name → (m : Moment) (other : List ℕ) → other ≢ name
    → IsAt old other m → IsAt new other m
other-at old new name o m other differs at =
    let same = sym (o.known other differs) in
    record {
      file = o.records other differs ∙ at.file;
      synced = o.safe other ∙ at.synced;
      indexed = subst (λ (k : Option Known). IsIndexed k m.file) same at.indexed;
      counted = subst (λ (k : Option Known). IsCounted k m.file) same at.counted;
      tail = ap (λ (k : Option Known). tail_before k (kept_by (new.named other) new.unnamed (length m.file))
          (length m.file)) (o.known other differs)
          ∙ ap (λ (k : Option ℕ). tail_before (old.known other) (kept_by k new.unnamed (length m.file))
          (length m.file)) (o.named other)
          ∙ ap (λ u. tail_before (old.known other) (kept_by (old.named other) u (length m.file)) (length m.file))
          o.unnamed ∙ at.tail;
    }

pub hands : (old new : FilesValue) (name r : List ℕ) → OffersAt old new name r → Others old new name
    → HandsStep old new name r
hands old new name r offers o = record {
  here = λ s m number comes at may.
      let h = offers m.file at.file at.indexed in
      let one = subst (λ (t : TailValue). Offers t m.file (s number) h.1 h.0) at.tail
      (subst (λ (x : List ℕ). Offers (tail_at old name (length m.file)) m.file x h.1 h.0) may.record_of h.4) in
      let size : length h.0 ≤ length m.file + 1 = offers-length m.tail m.file (s number) h.1 h.0 one in (
        h.1,
        h.0,
        Hands number comes h.1 h.0 may.may may.fewer may.once
            (λ low. let short : length m.file + 1 < m.kept = may.short low in omega (arith, short, size)) one,
        record {
          file = h.2;
          synced = o.safe name ∙ at.synced;
          indexed = knows-index (new.known name) h.0 h.1 h.3;
          counted = knows-count (new.known name) h.0 h.1 h.3;
          tail = knows-tail (new.known name) (kept_by (new.named name) new.unnamed (length h.0)) h.0 h.1 h.3;
        },
      );
  others = other-at old new name o;
}

-- ---- all is synced

-- what is told after it
pub record Renewed (old new : FilesValue) : Type 0 where
  pub records : TellsSame old.records new.records
  pub safe : MakesSafe new.records new.safe
  pub left : (name : List ℕ) (count place : ℕ) → place < count → IsLeft (tail_at old name count) place
      → IsLeft (tail_at new name count) place
  pub indexed : (name : List ℕ) (rs : List (List ℕ)) → IsIndexed (old.known name) rs → IsCounted (old.known name) rs
      → IsIndexed (new.known name) rs × IsCounted (new.known name) rs

pub syncs : (old new : FilesValue) → Renewed old new → SyncsStep old new
syncs old new h = λ s m name distinct at.
    let index = h.indexed name m.file at.indexed at.counted in
    let told = h.records name ∙ at.file in
    let tail = tail_at new name (length m.file) in (
      tail,
      Forgets tail
          (record {
            more = λ place left.
                let was = subst (λ (t : TailValue). IsLeft t place) (sym at.tail) left in
                let low = tail-within (old.known name) (kept_by (old.named name) old.unnamed (length m.file)) m.file
                place at.indexed at.counted was in
                inl (h.left name (length m.file) place low was);
            end = λ place left.
                tail-within (new.known name) (kept_by (new.named name) new.unnamed (length m.file)) m.file place
                index.0 index.1 left;
            kept = inl distinct;
          }),
      record {
        file = told;
        synced = h.safe name m.file told;
        indexed = index.0;
        counted = index.1;
        tail = refl;
      },
    )

-- ---- what is left is given up

-- what is told after it
pub record Given (old new : FilesValue) (of : List ℕ → Bool) : Type 0 where
  pub records : TellsSame old.records new.records
  pub safe : TellsSame old.safe new.safe
  pub known : (name : List ℕ) → GivesUpIf (of name) (old.known name) (new.known name)
  pub named : (name : List ℕ) → new.named name ≡ old.named name
  pub unnamed : new.unnamed ≡ old.unnamed

given-left : (old new : FilesValue) (of : List ℕ → Bool) → Given old new of → (s : Series) (m : Moment)
    (name : List ℕ) → IsAt old name m → (of name ≡ true → ComesNoMore s m) → (place : ℕ) → IsLeft m.tail place
    → IsLeft (tail_at new name (length m.file)) place
    ⊎ ((n : ℕ) → record_at m.file place ≡ s n → IsOf m.comes n → ⊥)
given-left old new of h s m name at gone place left =
    elim (cases_Bool (of name)) [
      | inl is ↦ inr (λ n here may. gone is place n left here may)
      | inr not ↦
          let same : new.known name ≡ old.known name =
          gives-same (old.known name) (new.known name)
          (subst (λ b. GivesUpIf b (old.known name) (new.known name)) not (h.known name)) in
          let tail : tail_at new name (length m.file) ≡ m.tail =
          ap (λ (k : Option Known). tail_before k (kept_by (new.named name) new.unnamed (length m.file))
          (length m.file)) same
          ∙ ap (λ (k : Option ℕ). tail_before (old.known name) (kept_by k new.unnamed (length m.file))
          (length m.file)) (h.named name)
          ∙ ap (λ u. tail_before (old.known name) (kept_by (old.named name) u (length m.file)) (length m.file))
          h.unnamed ∙ at.tail in
          inl (subst (λ (t : TailValue). IsLeft t place) (sym tail) left)
    ]

pub gives-up : (old new : FilesValue) (of : List ℕ → Bool) → Given old new of → GivesUpStep old new of
gives-up old new of h = λ s m name distinct at gone.
    let index = gives-index (of name) (old.known name) (new.known name) m.file (h.known name) at.indexed at.counted in
    let tail = tail_at new name (length m.file) in (
      tail,
      Forgets tail
          (record {
            more = given-left old new of h s m name at gone;
            end = λ place left.
                tail-within (new.known name) (kept_by (new.named name) new.unnamed (length m.file)) m.file place
                index.0 index.1 left;
            kept = inl distinct;
          }),
      record {
        file = h.records name ∙ at.file;
        synced = h.safe name ∙ at.synced;
        indexed = index.0;
        counted = index.1;
        tail = refl;
      },
    )

-- ---- numbers go back

-- what is told after it
pub record Returned (old new : FilesValue) (of : List ℕ → Bool) : Type 0 where
  pub records : TellsSame old.records new.records
  pub safe : TellsSame old.safe new.safe
  pub unknown : (name : List ℕ) → of name ≡ true → new.known name ≡ None
  pub nameless : (name : List ℕ) → of name ≡ true → new.named name ≡ None
  pub known : (name : List ℕ) → of name ≡ false → new.known name ≡ old.known name
  pub named : (name : List ℕ) → of name ≡ false → new.named name ≡ old.named name
  pub unnamed : new.unnamed ≡ Tail

pub all-tail : (known : Option Known) (named : Option ℕ) (u : Unnamed) (count : ℕ) → known ≡ None → named ≡ None
    → u ≡ Tail → tail_before known (kept_by named u count) count ≡ all_from 0 count
all-tail known named u count unknown nameless tail =
    ap (λ (k : Option Known). tail_before k (kept_by named u count) count) unknown
    ∙ ap (λ (n : Option ℕ). tail_of (kept_by n u count) count) nameless
    ∙ ap (λ (v : Unnamed). tail_of (kept_by None v count) count) tail
    ∙ ap (λ n. all_from n count) (first-zero count)

pub returns : (old new : FilesValue) (of : List ℕ → Bool) → Returned old new of → ReturnsStep old new of
returns old new of h = record {
  here = λ m name comes is at. record {
    file = h.records name ∙ at.file;
    synced = h.safe name ∙ at.synced;
    indexed = subst (λ (k : Option Known). IsIndexed k m.file) (sym (h.unknown name is)) tt;
    counted = subst (λ (k : Option Known). IsCounted k m.file) (sym (h.unknown name is)) tt;
    tail = all-tail (new.known name) (new.named name) new.unnamed (length m.file) (h.unknown name is)
        (h.nameless name is) h.unnamed;
  };
  others = λ was m name not at. record {
    file = h.records name ∙ at.file;
    synced = h.safe name ∙ at.synced;
    indexed = subst (λ (k : Option Known). IsIndexed k m.file) (sym (h.known name not)) at.indexed;
    counted = subst (λ (k : Option Known). IsCounted k m.file) (sym (h.known name not)) at.counted;
    tail = ap (λ (k : Option Known). tail_before k (kept_by (new.named name) new.unnamed (length m.file))
        (length m.file)) (h.known name not)
        ∙ ap (λ (k : Option ℕ). tail_before (old.known name) (kept_by k new.unnamed (length m.file))
        (length m.file)) (h.named name not)
        ∙ ap (λ u. tail_before (old.known name) (kept_by (old.named name) u (length m.file)) (length m.file))
        (h.unnamed ∙ sym was) ∙ at.tail;
  };
}
