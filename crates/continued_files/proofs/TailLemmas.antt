-- What is left of a tail, and how a record is looked for in it.
use Rattle.std.proofs.Common.{◌≡◌, ◌≢◌, ◌∙◌, ◌+◌, ◌-◌, ◌<◌, ◌≤◌, ◌++◌, ◌∷◌, [], ℕ, List, inl, inr, length, true}
use Rattle.std.proofs.Common.{false, Bool}
use Rattle.std.proofs.Common.{ap, arith, get_or, nat_lt, set, subst, sym}
use Rattle.std.proofs.lemmas.Bool.{cases_eq, cases_lt}
use Rattle.std.proofs.lemmas.Bool.Decides.{nat_tests}
use Rattle.std.proofs.lemmas.List.{get_or_append_left, get_or_default, get_or_past, get_or-replicate}
use Rattle.std.proofs.lemmas.List.{get_or-set_other, get_or-set_same}
use Rattle.std.proofs.lemmas.List.Elements.{Contains-append_left, Contains-push}
use Rattle.std.proofs.lemmas.List.{length-append, length-replicate, length-set}
use Rattle.std.specs.Prelude.{replicate}
use Rattle.std.specs.List.{Contains}
use Rattle.std.specs.List.Sorted.{IsNonDecreasingBy, IsPartitionPoint}
use Rattle.continued_files.specs.declared.tail.Entry.{Entry}
use Rattle.continued_files.specs.Hashes.{hash_of}
use Rattle.continued_files.specs.Indexes.{IndexValue, Indexes, IsFirst, entry_of}
use Rattle.continued_files.specs.Tails.{AreOthers, IsLeft, Offers, TailValue, all_from, without}
use Rattle.continued_files.specs.Tails.Offers.{Passes}
use Rattle.continued_files.specs.Places.{record_at}

-- ---- what is left

pub true-false : (b : Bool) → b ≡ true → b ≡ false → ⊥
true-false b t f = cc

-- a place that is left of a tail is within it
pub left-end : (t : TailValue) (i : ℕ) → IsLeft t i → i < t.from + length t.left
left-end t i at =
    elim (cases_lt (i - t.from) (length t.left)) [
      | inl low ↦ let from : t.from ≤ i = at.0 in omega (arith, low, from)
      | inr over ↦ absurd (true-false _ at.1 (get_or_past t.left (i - t.from) false over))
    ]

pub all-left : (from count i : ℕ) → from ≤ i → i < count → IsLeft (all_from from count) i
all-left from count i low below =
    (low, get_or-replicate (count - from) (i - from) true false (omega (arith, low, below)))

pub all-end : (from count i : ℕ) → IsLeft (all_from from count) i → i < count
all-end from count i at =
    let end : i < from + length (replicate (count - from) true) = left-end (all_from from count) i at in
    let size : length (replicate (count - from) true) ≡ count - from = length-replicate (count - from) true in
    let low : from ≤ i = at.0 in omega (arith, end, size, low)

pub without-left : (t : TailValue) (place i : ℕ) → IsLeft t place → IsLeft t i → i ≢ place → IsLeft (without t place) i
without-left t place i here at differs =
    let low : t.from ≤ i = at.0 in
    let from : t.from ≤ place = here.0 in
    let apart : (i - t.from) ≢ (place - t.from) = λ same. differs (omega (arith, same, low, from)) in
    (low, get_or-set_other t.left (place - t.from) (i - t.from) false false apart ∙ at.1)

pub without-was : (t : TailValue) (place i : ℕ) → IsLeft (without t place) i → IsLeft t i
without-was t place i at =
    elim (cases_eq (i - t.from) (place - t.from)) [
      | inl is ↦
          elim (cases_lt (place - t.from) (length t.left)) [
            | inl low ↦
                absurd (true-false _ (subst (λ k. get_or (set t.left (place - t.from) false) k false ≡ true) is at.1)
                (get_or-set_same t.left (place - t.from) false false low))
            | inr over ↦
                let size : length (set t.left (place - t.from) false) ≡ length t.left =
                length-set t.left (place - t.from) false in
                absurd (true-false _ at.1
                (get_or_past (set t.left (place - t.from) false) (i - t.from) false (omega (arith, size, over, is))))
          ]
      | inr other ↦
          (at.0, sym (get_or-set_other t.left (place - t.from) (i - t.from) false false other) ∙ at.1)
    ]

-- ---- looking

-- What is known once the places of the entries from `first` up to `at` were looked at.
pub record Looked (v : IndexValue) (rs : List (List ℕ)) (r : List ℕ) (first at : ℕ) : Type 0 where
  pub below : (k : ℕ) (d : Entry) → k < first → (get_or v.order k d).hash < hash_of r
  pub others : (k : ℕ) (d : Entry) → first ≤ k → k < at → IsLeft v.tail (get_or v.order k d).place
      → record_at rs (get_or v.order k d).place ≢ r
  pub above : (k : ℕ) (d : Entry) → at ≤ k → k < length v.order → hash_of r < (get_or v.order k d).hash

pub looked-others : (v : IndexValue) (rs : List (List ℕ)) (r : List ℕ) (first at : ℕ) → Looked v rs r first at
    → Indexes v rs → AreOthers v.tail rs r
looked-others v rs r first at h index place left here =
    let e = entry_of rs place in
    let c = index.entries place left.0 (left-end v.tail place left) in
    let is : get_or v.order c.0 e ≡ e = c.2 in
    let hash : e.hash ≡ hash_of r = ap hash_of here in
    elim (cases_lt c.0 first) [
      | inl under ↦
          let low : e.hash < hash_of r =
          subst (λ (x : Entry). x.hash < hash_of r) is (h.below c.0 e under) in absurd (omega (arith, low, hash))
      | inr over ↦
          elim (cases_lt c.0 at) [
            | inl before ↦
                h.others c.0 e over before (subst (λ (x : Entry). IsLeft v.tail x.place) (sym is) left)
                (ap (λ (x : Entry). record_at rs x.place) is ∙ here)
            | inr behind ↦
                let high : hash_of r < e.hash =
                subst (λ (x : Entry). hash_of r < x.hash) is (h.above c.0 e behind c.1) in
                absurd (omega (arith, high, hash))
          ]
    ]

-- From the two halves of the entries, and the entry at which it ended.
pub ended-at : (v w : IndexValue) (rs : List (List ℕ)) (r : List ℕ) (hash first at : ℕ) (e : Entry) → v ≡ w
    → hash ≡ hash_of r → IsFirst v.order hash first → IsNonDecreasingBy (λ (x : Entry). x.hash) v.order → first ≤ at
    → e ≡ get_or v.order at e → (e.hash ≡ hash → ⊥)
    → ((k : ℕ) (d : Entry) → first ≤ k → k < at → IsLeft w.tail (get_or w.order k d).place
    → record_at rs (get_or w.order k d).place ≢ r)
    → Indexes w rs → AreOthers w.tail rs r
ended-at v w rs r hash first at e same is halves sorted low item other others index =
    looked-others w rs r first at
    (record {
      below = subst (λ (x : IndexValue). (k : ℕ) (d : Entry) → k < first → (get_or x.order k d).hash < hash_of r) same
          (λ k d under. subst (λ h. (get_or v.order k d).hash < h) is (halves.below k d under));
      others = others;
      above = subst
          (λ (x : IndexValue). (k : ℕ) (d : Entry) → at ≤ k → k < length x.order
          → hash_of r < (get_or x.order k d).hash) same
          (λ k d over below.
          let in_order : at < length v.order = omega (arith, over, below) in
          let here : get_or v.order at d ≡ e = get_or_default v.order at d e in_order ∙ sym item in
          let high : hash ≤ (get_or v.order at d).hash = halves.above at d low in_order in
          let least : hash ≤ e.hash = subst (λ (x : Entry). hash ≤ x.hash) here high in
          let differs : hash ≢ e.hash = λ equal. other (sym equal) in
          let rises : (get_or v.order at d).hash ≤ (get_or v.order k d).hash = sorted at k d over below in
          let reaches : e.hash ≤ (get_or v.order k d).hash =
          subst (λ (x : Entry). x.hash ≤ (get_or v.order k d).hash) here rises in
          omega (arith, is, least, differs, reaches));
    })
    index

-- From the two halves, where all were looked at.
pub ended : (v w : IndexValue) (rs : List (List ℕ)) (r : List ℕ) (hash first at : ℕ) → v ≡ w
    → hash ≡ hash_of r → IsFirst v.order hash first → length v.order ≤ at
    → ((k : ℕ) (d : Entry) → first ≤ k → k < at → IsLeft w.tail (get_or w.order k d).place
    → record_at rs (get_or w.order k d).place ≢ r)
    → Indexes w rs → AreOthers w.tail rs r
ended v w rs r hash first at same is halves all others index =
    looked-others w rs r first at
    (record {
      below = subst (λ (x : IndexValue). (k : ℕ) (d : Entry) → k < first → (get_or x.order k d).hash < hash_of r) same
          (λ k d under. subst (λ h. (get_or v.order k d).hash < h) is (halves.below k d under));
      others = others;
      above = subst
          (λ (x : IndexValue). (k : ℕ) (d : Entry) → at ≤ k → k < length x.order
          → hash_of r < (get_or x.order k d).hash) same
          (λ k d over below. absurd (omega (arith, over, below, all)));
    })
    index

pub first-from : (order : List Entry) (hash first : ℕ)
    → IsPartitionPoint (λ (x : Entry). nat_lt x.hash hash ≡ true) (λ (x : Entry). nat_lt x.hash hash ≡ false)
    order first
    → first ≤ length order → IsFirst order hash first
first-from order hash first point size = record {
  below = λ k d under.
      let t : nat_lt (get_or order k d).hash hash ≡ true = point.0 k d (omega arith) under in
      grind (arith, nat_tests);
  above = λ k d over below.
      let t : nat_lt (get_or order k d).hash hash ≡ false = point.1 k d over below in
      grind (arith, nat_tests);
}

-- ---- a record is handed

pub index-keeps : (v w : IndexValue) (rs : List (List ℕ)) → w.order ≡ v.order → w.tail.from ≡ v.tail.from
    → length w.tail.left ≡ length v.tail.left → Indexes v rs → Indexes w rs
index-keeps v w rs order from size index =
    let end : v.tail.from + length v.tail.left ≤ length rs = index.end in
    record {
      end = omega (arith, from, size, end);
      entries = λ place low below.
          subst (λ (o : List Entry). Contains o (entry_of rs place)) (sym order)
          (index.entries place (omega (arith, from, low)) (omega (arith, from, size, below)));
    }

pub index-more : (v : IndexValue) (rs : List (List ℕ)) (r : List ℕ) → Indexes v rs → Indexes v (rs ++ r ∷ [])
index-more v rs r index =
    let end : v.tail.from + length v.tail.left ≤ length rs = index.end in
    let size : length (rs ++ r ∷ []) ≡ length rs + 1 = length-append rs (r ∷ []) in
    record {
      end = omega (arith, end, size);
      entries = λ place low below.
          let inside : place < length rs = omega (arith, below, end) in
          let stays : record_at rs place ≡ record_at (rs ++ r ∷ []) place =
          sym (get_or_append_left rs (r ∷ []) [] place inside) in
          subst (λ (x : List ℕ). Contains v.order (record { hash = hash_of x; place = place })) stays
          (index.entries place low below);
    }

pub passed : (t w : TailValue) (rs : List (List ℕ)) (r : List ℕ) (place : ℕ) → IsLeft t place
    → record_at rs place ≡ r → w ≡ without t place → Offers t rs r w rs
passed t w rs r place at here is = subst (λ (x : TailValue). Offers t rs r x rs) (sym is) (Passes place at here)

-- ---- a tail is made

abbrev made : (hash place : ℕ) → Entry
made hash place = record { hash = hash; place = place }

entry-is : (e : Entry) (hash place : ℕ) → e.hash ≡ hash → e.place ≡ place → e ≡ record { hash = hash; place = place }
entry-is e hash place h p = ap (λ (x : ℕ). made x e.place) h ∙ ap (λ (x : ℕ). made hash x) p

pub entries-more : (rs : List (List ℕ)) (es es' : List Entry) (e : Entry) (bytes : List ℕ) (from at : ℕ)
    → es' ≡ es ++ e ∷ [] → e.hash ≡ hash_of bytes → e.place ≡ at → bytes ≡ record_at rs at
    → ((place : ℕ) → from ≤ place → place < at → Contains es (entry_of rs place))
    → (place : ℕ) → from ≤ place → place < at + 1 → Contains es' (entry_of rs place)
entries-more rs es es' e bytes from at more hash here read before place low below =
    elim (cases_lt place at) [
      | inl under ↦
          subst (λ (o : List Entry). Contains o (entry_of rs place)) (sym more)
          (Contains-append_left es (e ∷ []) (entry_of rs place) (before place low under))
      | inr over ↦
          let is : place ≡ at = omega (arith, below, over) in
          let one : e ≡ entry_of rs place =
          entry-is e (hash_of (record_at rs place)) place
          (hash ∙ ap hash_of (read ∙ ap (λ k. record_at rs k) (sym is))) (here ∙ sym is) in
          subst (λ (o : List Entry). Contains o (entry_of rs place)) (sym more)
          (subst (λ (x : Entry). Contains (es ++ e ∷ []) x) one (Contains-push es e))
    ]
