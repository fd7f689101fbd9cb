-- Named stations in the order in which the records ahead of their requests came.
use Rattle.std.proofs.Common.{◌≡◌, ◌≢◌, ℕ, ◌+◌, ◌-◌, ◌<◌, ◌≤◌, Bool, true, false, List, [], ◌∷◌, length, slice_get}
use Rattle.std.proofs.Common.{Option, Some, None, refl, sym, ap, subst, ◌∙◌, arith, nat_lt, get_or}
use Rattle.std.specs.Prelude.{◌==◌, if◌then◌else◌, slice_index}
use Rattle.std.proofs.lemmas.Bool.Decides.{nat_tests}
use Rattle.std.specs.List.{position, position_or_len}
use Rattle.std.proofs.lemmas.List.Quantifiers.{position-Some}
use Rattle.std.proofs.lemmas.List.Sums.{fails_before_first}
use Rattle.std.proofs.lemmas.Grind.{common_steps}
use Rattle.std.proofs.lemmas.Option.{slice_get-get_or, slice_get_past}
use Rattle.protocol.proofs.FoundLemmas.{both}
use Rattle.session_state.specs.declared.choices.Entry.{Entry}
use Rattle.session_state.specs.NamedValues.{ahead_of}
use Rattle.session_state.specs.Orders.{IsLater, IsOrder, IsSortedBut, IsSortedFrom}
use Rattle.session_state.specs.Orders.{ahead_at, is_sooner, stamp_in}

-- ---- which of two came first

pub later-self : (o : Option ℕ) → is_sooner o o ≡ false
later-self None = refl
later-self (Some s) = grind (arith, nat_tests)

pub later-trans : (a b c : Option ℕ) → is_sooner b a ≡ false → is_sooner c b ≡ false → is_sooner c a ≡ false
later-trans a b None p q = refl
later-trans a None (Some c) p q = absurd cc
later-trans None (Some b) (Some c) p q = absurd cc
later-trans (Some a) (Some b) (Some c) p q = grind (arith, nat_tests)

pub sooner-later : (a b : Option ℕ) → is_sooner a b ≡ true → is_sooner b a ≡ false
sooner-later None b e = absurd cc
sooner-later (Some s) None e = refl
sooner-later (Some s) (Some t) e = grind (arith, nat_tests)

-- what one came before, those came before that did not come before the latter
pub sooner-on : (a b c : Option ℕ) → is_sooner a b ≡ true → is_sooner c b ≡ false → is_sooner a c ≡ true
sooner-on None b c p q = absurd cc
sooner-on (Some a) b None p q = refl
sooner-on (Some a) None (Some c) p q = absurd cc
sooner-on (Some a) (Some b) (Some c) p q = grind (arith, nat_tests)

pub none-later : (a b : Option ℕ) → a ≡ None → is_sooner a b ≡ false
none-later None b e = refl
none-later (Some s) b e = absurd cc

-- ---- places that are moved

-- where what stands at a place stood before an index was raised from place p to the front, and before one was lowered
abbrev pub raised_from : (p k : ℕ) → ℕ
raised_from p k = if k == 0 then p else (if nat_lt p k then k else k - 1)

abbrev pub lowered_from : (p k : ℕ) → ℕ
lowered_from p k = if k == p then 0 else (if nat_lt p k then k else k + 1)

raised-lowered : (p k : ℕ) → raised_from p (lowered_from p k) ≡ k
raised-lowered p k = grind (arith, nat_tests)

lowered-raised : (p k : ℕ) → lowered_from p (raised_from p k) ≡ k
lowered-raised p k = grind (arith, nat_tests)

raised-within : (n p k : ℕ) → p < n → k < n → raised_from p k < n
raised-within n p k low h = grind (arith, nat_tests)

lowered-within : (n p k : ℕ) → p < n → k < n → lowered_from p k < n
lowered-within n p k low h = grind (arith, nat_tests)

-- ---- an order that is another one

-- each stands in it where it stood at another place, and so the other way
reordered : (n : ℕ) (order new : List ℕ) (from back : ℕ → ℕ) → IsOrder order n → length new ≡ length order
    → ((k : ℕ) → k < n → slice_index new k ≡ slice_index order (from k)) → ((k : ℕ) → k < n → from k < n)
    → ((k : ℕ) → k < n → back k < n) → ((k : ℕ) → from (back k) ≡ k) → ((k : ℕ) → back (from k) ≡ k) → IsOrder new n
reordered n order new from back is long source low high there again =
    let count : length new ≡ n = long ∙ is.count in
    record {
      count = count;
      named = λ k h. subst (λ x. x < n) (sym (source k h)) (is.named (from k) (low k h));
      all = λ i h.
          let old = is.all i h in
          let within : old.place < n = subst (λ x. old.place < x) is.count old.within in
          record {
            place = back old.place;
            within = subst (λ x. back old.place < x) (sym count) (high old.place within);
            is = source (back old.place) (high old.place within) ∙ ap (slice_index order) (there old.place) ∙ old.is;
          };
      once = λ k m h l same.
          sym (again k)
          ∙ ap back (is.once (from k) (from m) (low k h) (low m l) (sym (source k h) ∙ same ∙ source m l))
          ∙ again m;
    }

-- what raising and lowering do, by the place that is raised or lowered to
pub record Raises (p : ℕ) (order new : List ℕ) : Type 0 where
  pub long : length new ≡ length order
  pub front : slice_index new 0 ≡ slice_index order p
  pub moved : (k : ℕ) → k < p → slice_index new (k + 1) ≡ slice_index order k
  pub rest : (k : ℕ) → p < k → slice_index new k ≡ slice_index order k

pub record Lowers (p : ℕ) (order new : List ℕ) : Type 0 where
  pub long : length new ≡ length order
  pub there : slice_index new p ≡ slice_index order 0
  pub moved : (k : ℕ) → k < p → slice_index new k ≡ slice_index order (k + 1)
  pub rest : (k : ℕ) → p < k → slice_index new k ≡ slice_index order k

raised-source : (p : ℕ) (order new : List ℕ) → Raises p order new → (k : ℕ)
    → slice_index new k ≡ slice_index order (raised_from p k)
raised-source p order new raises k = both (k == 0)
    (λ y. let same : k ≡ 0 = grind (arith, nat_tests) in rw y (ap (slice_index new) same ∙ raises.front))
    (λ n. let above : 0 < k = grind (arith, nat_tests) in
    let on : k ≡ k - 1 + 1 = omega (arith, above) in
    both (nat_lt p k)
    (λ y. rw (n, y) (raises.rest k (grind (arith, nat_tests))))
    (λ m. let low : k ≤ p = grind (arith, nat_tests) in
    rw (n, m) (ap (slice_index new) on ∙ raises.moved (k - 1) (omega (arith, above, low)))))

lowered-source : (p : ℕ) (order new : List ℕ) → Lowers p order new → (k : ℕ)
    → slice_index new k ≡ slice_index order (lowered_from p k)
lowered-source p order new lowers k = both (k == p)
    (λ y. let same : k ≡ p = grind (arith, nat_tests) in rw y (ap (slice_index new) same ∙ lowers.there))
    (λ n. both (nat_lt p k)
    (λ y. rw (n, y) (lowers.rest k (grind (arith, nat_tests))))
    (λ m. rw (n, m) (lowers.moved k (grind (arith, nat_tests)))))

pub order-raised : (n p : ℕ) (order new : List ℕ) → IsOrder order n → p < n → Raises p order new → IsOrder new n
order-raised n p order new is low raises =
    reordered n order new (raised_from p) (lowered_from p) is raises.long (λ k h. raised-source p order new raises k)
    (λ k h. raised-within n p k low h) (λ k h. lowered-within n p k low h) (raised-lowered p) (lowered-raised p)

pub order-lowered : (n p : ℕ) (order new : List ℕ) → IsOrder order n → p < n → Lowers p order new → IsOrder new n
order-lowered n p order new is low lowers =
    reordered n order new (lowered_from p) (raised_from p) is lowers.long (λ k h. lowered-source p order new lowers k)
    (λ k h. lowered-within n p k low h) (λ k h. raised-within n p k low h) (lowered-raised p) (raised-lowered p)

-- ---- sorted places

-- Once an index was raised, the others stand in their order.
pub sorted-raised : (n p i : ℕ) (es : List Entry) (order new : List ℕ) → IsOrder order n → p < n
    → slice_index order p ≡ i → Raises p order new → IsSortedBut i es order → IsSortedFrom 1 es new
sorted-raised n p i es order new is low here raises sorted k m above up within =
    let f : ℕ = raised_from p k in
    let g : ℕ = raised_from p m in
    let short : m < n = subst (λ x. m < x) (raises.long ∙ is.count) within in
    let rises : f < g = grind (arith, nat_tests) in
    let apart : f ≢ p = λ e. absurd (let q : k ≡ 0 = grind (arith, nat_tests) in omega arith) in
    let parted : g ≢ p = λ e. absurd (let q : m ≡ 0 = grind (arith, nat_tests) in omega arith) in
    let inside : g < n = raised-within n p m low short in
    let first : f < n = raised-within n p k low (omega arith) in
    let all : g < length order = subst (λ x. g < x) (sym is.count) inside in
    subst (λ x. is_sooner (ahead_at es x) (ahead_at es (slice_index new k)) ≡ false)
    (sym (raised-source p order new raises m))
    (subst (λ x. is_sooner (ahead_at es (slice_index order g)) (ahead_at es x) ≡ false)
    (sym (raised-source p order new raises k))
    (sorted f g rises all (λ e. apart (is.once f p first low (e ∙ sym here)))
    (λ e. parted (is.once g p inside low (e ∙ sym here)))))

-- The first goes to its place among the others.
pub sorted-lowered : (n p : ℕ) (es : List Entry) (order new : List ℕ) → IsOrder order n → p < n → Lowers p order new
    → IsSortedFrom 1 es order
    → ((k : ℕ) → 0 < k → k ≤ p → IsLater es (slice_index order 0) (slice_index order k))
    → ((k : ℕ) → p < k → k < length order → IsLater es (slice_index order k) (slice_index order 0))
    → IsSortedFrom 0 es new
sorted-lowered n p es order new is low lowers sorted before after k m above up within =
    let f : ℕ = lowered_from p k in
    let g : ℕ = lowered_from p m in
    let short : m < length order = subst (λ x. m < x) lowers.long within in
    subst (λ x. is_sooner (ahead_at es x) (ahead_at es (slice_index new k)) ≡ false)
    (sym (lowered-source p order new lowers m))
    (subst (λ x. is_sooner (ahead_at es (slice_index order g)) (ahead_at es x) ≡ false)
    (sym (lowered-source p order new lowers k))
    (both (m == p)
    (λ y. let e : g ≡ 0 = grind (arith, nat_tests) in
    let step : 0 < f = grind (arith, nat_tests) in
    let near : f ≤ p = grind (arith, nat_tests) in
    subst (λ x. is_sooner (ahead_at es (slice_index order x)) (ahead_at es (slice_index order f)) ≡ false) (sym e)
    (before f step near))
    (λ n. both (k == p)
    (λ y. let e : f ≡ 0 = grind (arith, nat_tests) in
    let step : p < g = grind (arith, nat_tests) in
    let near : g < length order = grind (arith, nat_tests) in
    subst (λ x. is_sooner (ahead_at es (slice_index order g)) (ahead_at es (slice_index order x)) ≡ false) (sym e)
    (after g step near))
    (λ l. let step : f < g = grind (arith, nat_tests) in
    let one : 1 ≤ f = grind (arith, nat_tests) in
    let near : g < length order = grind (arith, nat_tests) in
    sorted f g one step near))))

-- ---- an index that goes to the front

-- it is found where it stands
pub found-raised : (n i p : ℕ) (order : List ℕ) → IsOrder order n → position (λ k. k == i) order ≡ Some p
    → (p < n) × (slice_index order p ≡ i)
found-raised n i p order is found =
    let each = position-Some (λ k. k == i) order p 0 found in
    let here : (slice_index order p == i) ≡ true = each.1 in
    (subst (λ x. p < x) is.count each.0, grind (arith, nat_tests))

none-far : {X : Type 0} (p : X → Bool) (xs : List X) → position p xs ≡ None → length xs ≤ position_or_len p xs
none-far p xs none = grind (arith, common_steps)

-- and everywhere, if it is one of so many
pub not-found : (n i : ℕ) (order : List ℕ) → IsOrder order n → position (λ k. k == i) order ≡ None → n ≤ i
not-found n i order is none = both (nat_lt i n)
    (λ y. let there = is.all i (grind (arith, nat_tests)) in
    let far : length order ≤ position_or_len (λ k. k == i) order = none-far (λ k. k == i) order none in
    let no : (slice_index order there.place == i) ≡ false = fails_before_first (λ k. k == i) order there.place 0
    (let within = there.within in omega arith) in
    let yes : (slice_index order there.place == i) ≡ true = ap (λ x. x == i) there.is ∙ own i in
    absurd (let wrong : true ≡ false = sym yes ∙ no in cc))
    (λ far. grind (arith, nat_tests))
  where
    own : (k : ℕ) → (k == k) ≡ true
    own k = grind (arith, nat_tests)

pub sorted-all : (n i from : ℕ) (es : List Entry) (order : List ℕ) → IsOrder order n → n ≤ i → IsSortedBut i es order
    → IsSortedFrom from es order
sorted-all n i from es order is far sorted k m above up within =
    let short : m < n = subst (λ x. m < x) is.count within in
    sorted k m up within
    (λ e. absurd (let low : slice_index order k < n = is.named k (omega arith) in omega (arith, low, e, far)))
    (λ e. absurd (let low : slice_index order m < n = is.named m short in omega (arith, low, e, far)))

-- ---- what an order is ready for

-- Where no other than one has a record ahead, and that stands first, all but a changed one stand in their order.
pub ready-only : (n i j : ℕ) (es : List Entry) (order : List ℕ) → IsOrder order n → (j < n → slice_index order 0 ≡ j)
    → ((k : ℕ) → k ≢ j → k ≢ i → ahead_at es k ≡ None) → IsSortedBut i es order
ready-only n i j es order is front none k m up within apart parted =
    let short : m < n = subst (λ x. m < x) is.count within in
    none-later (ahead_at es (slice_index order m)) (ahead_at es (slice_index order k))
    (none (slice_index order m)
    (λ e. absurd (let low : j < n = subst (λ x. x < n) e (is.named m short) in
    let zero : m ≡ 0 = is.once m 0 short (omega arith) (e ∙ sym (front low)) in omega arith))
    parted)

-- ---- the first of all

pub beyond : (es : List Entry) (i : ℕ) → length es ≤ i → ahead_at es i ≡ None
beyond es i low = ap stamp_in (slice_get_past es i low)

pub earliest-none : (n : ℕ) (es : List Entry) (order : List ℕ) → IsOrder order n → n ≡ length es
    → IsSortedFrom 0 es order → ahead_at es (slice_index order 0) ≡ None → (j : ℕ) → ahead_at es j ≡ None
earliest-none n es order is all sorted none j = both (nat_lt j n)
    (λ y. let there = is.all j (grind (arith, nat_tests)) in
    both (nat_lt 0 there.place)
    (λ later. by (ahead_at es j) (subst (λ x. is_sooner (ahead_at es j) x ≡ false) none
    (subst (λ x. is_sooner (ahead_at es x) (ahead_at es (slice_index order 0)) ≡ false) there.is
    (sorted 0 there.place (omega arith) (grind (arith, nat_tests)) there.within))))
    (λ first. let at : there.place ≡ 0 = grind (arith, nat_tests) in
    ap (ahead_at es) (sym there.is ∙ ap (slice_index order) at) ∙ none))
    (λ far. let past : length es ≤ j = grind (arith, nat_tests, sym all) in beyond es j past)
  where
    by : (o : Option ℕ) → is_sooner o None ≡ false → o ≡ None
    by None e = refl
    by (Some s) e = absurd cc

pub earliest-some : (n : ℕ) (es : List Entry) (order : List ℕ) → IsOrder order n → n ≡ length es
    → IsSortedFrom 0 es order → (j : ℕ) → IsLater es j (slice_index order 0)
earliest-some n es order is all sorted j = both (nat_lt j n)
    (λ y. let there = is.all j (grind (arith, nat_tests)) in
    both (nat_lt 0 there.place)
    (λ later. subst (λ x. is_sooner (ahead_at es x) (ahead_at es (slice_index order 0)) ≡ false) there.is
    (sorted 0 there.place (omega arith) (grind (arith, nat_tests)) there.within))
    (λ first. let at : there.place ≡ 0 = grind (arith, nat_tests) in
    subst (λ x. is_sooner (ahead_at es j) (ahead_at es x) ≡ false) (sym there.is ∙ ap (slice_index order) at)
    (later-self (ahead_at es j))))
    (λ far. let past : length es ≤ j = grind (arith, nat_tests, sym all) in
    none-later (ahead_at es j) (ahead_at es (slice_index order 0)) (beyond es j past))

-- ---- the place of the first among the others

-- those before one that the first did not come before, it came before none of
pub none-sooner : (es : List Entry) (order : List ℕ) (middle k : ℕ) → IsSortedFrom 1 es order → 0 < k → k ≤ middle
    → middle < length order → IsLater es (slice_index order 0) (slice_index order middle)
    → IsLater es (slice_index order 0) (slice_index order k)
none-sooner es order middle k sorted above low within later = both (nat_lt k middle)
    (λ y. later-trans (ahead_at es (slice_index order k)) (ahead_at es (slice_index order middle))
    (ahead_at es (slice_index order 0)) (sorted k middle (omega arith) (grind (arith, nat_tests)) within) later)
    (λ n. let same : middle ≡ k = grind (arith, nat_tests) in
    subst (λ x. IsLater es (slice_index order 0) (slice_index order x)) same later)

-- those after one that it came before it came before too
pub all-sooner : (es : List Entry) (order : List ℕ) (middle k : ℕ) → IsSortedFrom 1 es order → 0 < middle → middle ≤ k
    → k < length order → is_sooner (ahead_at es (slice_index order 0)) (ahead_at es (slice_index order middle)) ≡ true
    → is_sooner (ahead_at es (slice_index order 0)) (ahead_at es (slice_index order k)) ≡ true
all-sooner es order middle k sorted above low within sooner = both (nat_lt middle k)
    (λ y. sooner-on (ahead_at es (slice_index order 0)) (ahead_at es (slice_index order middle))
    (ahead_at es (slice_index order k)) sooner (sorted middle k (omega arith) (grind (arith, nat_tests)) within))
    (λ n. let same : middle ≡ k = grind (arith, nat_tests) in
    subst (λ x. is_sooner (ahead_at es (slice_index order 0)) (ahead_at es (slice_index order x)) ≡ true) same sooner)

-- where the first came before one, that is another one
pub sooner-apart : (es : List Entry) (order : List ℕ) (k : ℕ)
    → is_sooner (ahead_at es (slice_index order 0)) (ahead_at es (slice_index order k)) ≡ true → 0 < k
sooner-apart es order k e = both (nat_lt 0 k)
    (λ y. grind (arith, nat_tests))
    (λ n. let same : k ≡ 0 = grind (arith, nat_tests) in
    absurd (let wrong : true ≡ false = sym e
    ∙ ap (λ x. is_sooner (ahead_at es (slice_index order 0)) (ahead_at es (slice_index order x))) same
    ∙ later-self (ahead_at es (slice_index order 0)) in cc))

-- ---- an entry that is read by its index

pub ahead-read : (es : List Entry) (i : ℕ) (e : Entry) → i < length es
    → ahead_at es i ≡ ahead_of (get_or es i e).cursor
ahead-read es i e low = ap stamp_in (slice_get-get_or es i e low)

-- where nothing stands in the order, there is no entry
pub none-there : (es : List Entry) (order : List ℕ) → IsOrder order (length es) → None ≡ slice_get order 0 → (j : ℕ)
    → ahead_at es j ≡ None
none-there es order is none j = empty es (sym is.count ∙ by order none)
  where
    by : (xs : List ℕ) → None ≡ slice_get xs 0 → length xs ≡ 0
    by [] e = refl
    by (x ∷ xs) e = absurd cc

    empty : (xs : List Entry) → length xs ≡ 0 → ahead_at xs j ≡ None
    empty [] e = refl
    empty (x ∷ xs) e = absurd (omega arith)
