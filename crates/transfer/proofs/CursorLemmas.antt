-- What a request passes in its ring.
use Rattle.std.proofs.Common.{◌≡◌, ◌≢◌, ℕ, ◌+◌, ◌-◌, ◌<◌, ◌≤◌, zero, suc, Bool, true, false, ◌&&◌, nat_le, List, []}
use Rattle.std.proofs.Common.{◌∷◌, length, drop, max, Option, Some, None, option_map, slice_get, refl, sym, ap, subst}
use Rattle.std.proofs.Common.{◌∙◌, arith}
use Rattle.std.specs.Prelude.{find, if◌then◌else◌, nat_lt, ◌==◌}
use Rattle.std.specs.List.{list_any}
use Rattle.std.proofs.lemmas.Bool.Decides.{nat_tests}
use Rattle.protocol.proofs.FoundLemmas.{both}
use Rattle.station_ring.proofs.PlaceLemmas.{oldest-first, any-here}
use Rattle.station_ring.specs.declared.held.Held.{Held}
use Rattle.station_ring.specs.Rings.{RingValue, IsRing, first_place, held_at, oldest_place}
use Rattle.station_ring.proofs.GrowthLemmas.{held_at-low}
use Rattle.session_state.specs.NamedValues.{Choice}
use Rattle.session_state.specs.declared.choices.Cursor.{Cursor}
use Rattle.transfer.specs.declared.wanting.Found.{Found}
use Rattle.transfer.specs.declared.wanting.Found.TheVariants.{Wanted, AfterEnd, Unwanted}
use Rattle.transfer.specs.Wanting.{wants_held}
use Rattle.transfer.specs.Cursors.{HasPassed, RestsAt, is_after_end}
use Rattle.transfer.specs.Founds.{found_of}
use Rattle.transfer.specs.Searches.{at_place}
use Rattle.transfer.proofs.ScanLemmas.{Scans, scans-found, scans-none, there-at}

-- ---- what is held where

get-within : (xs : List Held) (k : ℕ) (x : Held) → slice_get xs k ≡ Some x → k < length xs
get-within [] k x e = absurd cc
get-within (y ∷ xs) zero x e = omega arith
get-within (y ∷ xs) (suc k) x e = let more : k < length xs = get-within xs k x e in omega arith

-- A held place was pushed.
pub held_at-high : (r : RingValue) (place : ℕ) (x : Held) → IsRing r → held_at r place ≡ Some x → place < r.pushes
held_at-high r place x holds there =
    let low = held_at-low r place x there in
    let within : place - first_place r < length r.held = get-within r.held (place - first_place r) x low.1 in
    let count = holds.count in
    omega (arith, low.0)

-- ---- what a request finds at a place

finds-wanted : (c : Choice) (next stamp : ℕ) (x : Held) → found_of c next x ≡ Wanted stamp
    → (wants_held c next x ≡ true) × (x.stamp ≡ stamp)
finds-wanted c next stamp x e =
    both (wants_held c next x) (λ y. let t : Wanted x.stamp ≡ Wanted stamp = rw y at e in (y, cc))
    (λ n. absurd (both (is_after_end c.action x)
    (λ a. let t : AfterEnd ≡ Wanted stamp = rw (n, a) at e in cc)
    (λ b. let t : Unwanted ≡ Wanted stamp = rw (n, b) at e in cc)))

finds-other : (c : Choice) (next : ℕ) (x : Held) (found : Found) → ((stamp : ℕ) → found ≢ Wanted stamp)
    → found ≡ found_of c next x → wants_held c next x ≡ false
finds-other c next x found other e =
    both (wants_held c next x)
    (λ y. absurd
    (other x.stamp
    (e ∙ ap (λ b. if b then Wanted x.stamp else (if is_after_end c.action x then AfterEnd else Unwanted)) y)))
    (λ n. n)

finds-after : (c : Choice) (next : ℕ) (x : Held) → found_of c next x ≡ AfterEnd → is_after_end c.action x ≡ true
finds-after c next x e =
    both (is_after_end c.action x) (λ y. y)
    (λ n. absurd (both (wants_held c next x)
    (λ a. let t : Wanted x.stamp ≡ AfterEnd = rw a at e in cc)
    (λ b. let t : Unwanted ≡ AfterEnd = rw (b, n) at e in cc)))

finds-nothing : (c : Choice) (next : ℕ) (x : Held) → found_of c next x ≡ Unwanted → is_after_end c.action x ≡ false
finds-nothing c next x e =
    both (is_after_end c.action x)
    (λ y. absurd (both (wants_held c next x)
    (λ a. let t : Wanted x.stamp ≡ Unwanted = rw a at e in cc)
    (λ b. let t : AfterEnd ≡ Unwanted = rw (b, y) at e in cc)))
    (λ n. n)

-- what is found at a place, by the record that is held there
abbrev pub Finds : RingValue → ℕ → Choice → ℕ → Found → Type 0
Finds r place c next found = (x : Held) → held_at r place ≡ Some x → found ≡ found_of c next x

-- ---- a cursor that moves on

-- What lies before the oldest record is passed.
pub passed-raised : (r : RingValue) (next : ℕ) (c : Choice) (start : ℕ)
    → start ≡ max c.cursor.ring_place (first_place r)
    → HasPassed r next c c.cursor → HasPassed r next c (at_place start c.cursor.ended)
passed-raised r next c start raised so_far =
    let old : (place : ℕ) (x : Held) → place < start → held_at r place ≡ Some x → place < c.cursor.ring_place =
    λ place x low there. omega (arith, (held_at-low r place x there).0, raised) in
    record {
      within = omega (arith, so_far.within, raised);
      unwanted = λ place x low there. so_far.unwanted place x (old place x low there) there;
      told = λ place x low there after. so_far.told place x (old place x low there) there after;
      before = omega (arith, so_far.before, raised);
      after = λ place x e there. so_far.after place x e there;
    }

-- One record more is passed.
pub passed-unwanted : (r : RingValue) (next : ℕ) (c : Choice) (place ended : ℕ) (found : Found) → place < r.pushes
    → Finds r place c next found → found ≡ Unwanted → HasPassed r next c (at_place place ended)
    → HasPassed r next c (at_place (place + 1) ended)
passed-unwanted r next c place ended found high finds is so_far = record {
  within = omega arith;
  unwanted = λ p x low there. both (p == place)
      (λ y. let here : p ≡ place = grind (arith, nat_tests) in
      finds-other c next x found (λ s w. absurd (let t : Unwanted ≡ Wanted s = sym is ∙ w in cc))
      (finds x (subst (λ n. held_at r n ≡ Some x) here there)))
      (λ n. let other : p < place = grind (arith, nat_tests) in so_far.unwanted p x other there);
  told = λ p x low there after. both (p == place)
      (λ y. let here : p ≡ place = grind (arith, nat_tests) in
      absurd (let t : true ≡ false = sym after
      ∙ finds-nothing c next x (sym (finds x (subst (λ n. held_at r n ≡ Some x) here there)) ∙ is) in cc))
      (λ n. let other : p < place = grind (arith, nat_tests) in so_far.told p x other there after);
  before = omega (arith, so_far.before);
  after = λ p x e there. so_far.after p x e there;
}

-- One record more is passed, which starts after the end.
pub passed-after : (r : RingValue) (next : ℕ) (c : Choice) (place ended : ℕ) (found : Found) → place < r.pushes
    → Finds r place c next found → found ≡ AfterEnd → HasPassed r next c (at_place place ended)
    → HasPassed r next c (at_place (place + 1) (place + 1))
passed-after r next c place ended found high finds is so_far = record {
  within = omega arith;
  unwanted = λ p x low there. both (p == place)
      (λ y. let here : p ≡ place = grind (arith, nat_tests) in
      finds-other c next x found (λ s w. absurd (let t : AfterEnd ≡ Wanted s = sym is ∙ w in cc))
      (finds x (subst (λ n. held_at r n ≡ Some x) here there)))
      (λ n. let other : p < place = grind (arith, nat_tests) in so_far.unwanted p x other there);
  told = λ p x low there after. low;
  before = omega arith;
  after = λ p x e there.
      let same : place ≡ p = omega (arith, e) in
      finds-after c next x (sym (finds x (subst (λ n. held_at r n ≡ Some x) (sym same) there)) ∙ is);
}

-- A ring without an oldest record holds nothing.
holds-nothing : (r : RingValue) → None ≡ oldest_place r → length r.held ≡ 0
holds-nothing r none = both (length r.held == 0)
    (λ y. grind (arith, nat_tests))
    (λ n. absurd (let some : None ≡ Some (first_place r) = rw n at none in cc))

-- Nothing is held at the place of the next push.
pub none-next : (r : RingValue) (place : ℕ) → IsRing r → r.pushes ≤ place → held_at r place ≡ None
none-next r place holds past = by (held_at r place) refl
  where
    by : (o : Option Held) → held_at r place ≡ o → o ≡ None
    by None e = refl
    by (Some x) e = absurd (let high : place < r.pushes = held_at-high r place x holds e in omega arith)

-- a cursor at a place of its ring, that was just looked at, by the stamp of the record there
abbrev pub at_record : RingValue → (place ended stamp : ℕ) → Cursor
at_record r place ended stamp = record { ring_place = place; ended = ended; seen = r.pushes; stamp = stamp }

-- one that has passed all
abbrev pub at_end : RingValue → ℕ → Cursor
at_end r ended = record { ring_place = r.pushes; ended = ended; seen = r.pushes; stamp = 0 }

-- What a request has passed is told by a cursor's place, and by the place before which lies what starts after the end.
passed-looked : (r : RingValue) (next : ℕ) (c : Choice) (place ended : ℕ) (k : Cursor) → k.ring_place ≡ place
    → k.ended ≡ ended → HasPassed r next c (at_place place ended) → HasPassed r next c k
passed-looked r next c place ended k there is so_far = record {
  within = omega (arith, so_far.within, there);
  unwanted = λ p x low held. so_far.unwanted p x (omega (arith, low, there)) held;
  told = λ p x low held after. let t = so_far.told p x (omega (arith, low, there)) held after in omega (arith, t, is);
  before = omega (arith, so_far.before, there, is);
  after = λ p x e held. so_far.after p x (sym is ∙ e) held;
}

-- The request wants the record at the place.
pub rests-wanted : (r : RingValue) (next : ℕ) (c : Choice) (place ended stamp : ℕ) (found : Found) → IsRing r
    → first_place r ≤ place → place < r.pushes → Finds r place c next found → found ≡ Wanted stamp
    → HasPassed r next c (at_place place ended) → RestsAt r next c (at_record r place ended stamp)
rests-wanted r next c place ended stamp found holds low high finds is so_far =
    let x = there-at r place low high in
    let here = finds-wanted c next stamp x.0 (sym (finds x.0 x.1) ∙ is) in
    let under : nat_lt place r.pushes ≡ true = grind (arith, nat_tests) in
    record {
      passed = passed-looked r next c place ended (at_record r place ended stamp) refl refl so_far;
      low = low;
      wanted = λ y there. (finds-wanted c next stamp y (sym (finds y there) ∙ is)).0;
      seen = refl;
      ahead = ap (λ b. if b then Some stamp else None) under ∙ ap (λ n. Some n) (sym here.1)
          ∙ ap (option_map (λ (y : Held). y.stamp)) (sym x.1);
      holding = holds;
    }

-- All was passed.
pub rests-end : (r : RingValue) (next : ℕ) (c : Choice) (place ended : ℕ) → IsRing r → r.pushes ≤ place
    → HasPassed r next c (at_place place ended) → RestsAt r next c (at_end r ended)
rests-end r next c place ended holds past so_far =
    let over : nat_lt r.pushes r.pushes ≡ false = grind (arith, nat_tests) in
    record {
      passed = passed-looked r next c place ended (at_end r ended) (omega (arith, so_far.within)) refl so_far;
      low = omega arith;
      wanted =
          λ x there. absurd (let high : r.pushes < r.pushes = held_at-high r r.pushes x holds there in omega arith);
      seen = refl;
      ahead = ap (λ b. let o : Option ℕ = if b then Some 0 else None in o) over
          ∙ ap (option_map (λ (x : Held). x.stamp)) (sym (none-next r r.pushes holds (omega arith)));
      holding = holds;
    }

-- ---- the record at a cursor

skips : (f : Held → Bool) (xs : List Held) (n : ℕ)
    → ((i : ℕ) (x : Held) → i < n → slice_get xs i ≡ Some x → f x ≡ false) → find f xs ≡ find f (drop n xs)
skips f xs zero none = refl
skips f [] (suc n) none = refl
skips f (y ∷ xs) (suc n) none =
    let here : f y ≡ false = none 0 y (omega arith) refl in
    ap (λ b. if b then Some y else find f xs) here ∙ skips f xs n (λ i x low e. none (suc i) x (omega arith) e)

-- So far nothing was found before the cursor.
rests-scan : (r : RingValue) (next : ℕ) (c : Choice) (k : Cursor) → RestsAt r next c k
    → Scans (wants_held c next) r k.ring_place
rests-scan r next c k rests = record {
  low = rests.low;
  rest = skips (wants_held c next) r.held (k.ring_place - first_place r) (λ i x low e.
      let at : held_at r (first_place r + i) ≡ Some x =
      let test : nat_le (first_place r) (first_place r + i) ≡ true = grind (arith, nat_tests) in
      let index : first_place r + i - first_place r ≡ i = omega arith in
      rw (test, index) e in
      rests.passed.unwanted (first_place r + i) x (omega arith) at);
}

pub cursor-some : (r : RingValue) (next : ℕ) (c : Choice) (k : Cursor) (x : Held) → RestsAt r next c k
    → Some x ≡ held_at r k.ring_place → Some x.stamp ≡ option_map (λ y. y.stamp) (find (wants_held c next) r.held)
cursor-some r next c k x rests there =
    sym
    (ap (option_map (λ (y : Held). y.stamp))
    (scans-found (wants_held c next) r k.ring_place x (sym there) (rests.wanted x (sym there))
    (rests-scan r next c k rests)))

pub cursor-end : (r : RingValue) (next : ℕ) (c : Choice) (k : Cursor) → IsRing r → RestsAt r next c k
    → None ≡ held_at r k.ring_place → k.ring_place ≡ r.pushes
cursor-end r next c k holds rests none =
    both (nat_le r.pushes k.ring_place)
    (λ y. let over : r.pushes ≤ k.ring_place = grind (arith, nat_tests) in omega (arith, rests.passed.within))
    (λ n. absurd (
    let under : k.ring_place < r.pushes = grind (arith, nat_tests) in
    let x = there-at r k.ring_place rests.low under in
    let some : None ≡ Some (x.0) = none ∙ x.1 in cc))

pub cursor-none : (r : RingValue) (next : ℕ) (c : Choice) (k : Cursor) → IsRing r → RestsAt r next c k
    → None ≡ held_at r k.ring_place → None ≡ option_map (λ y. y.stamp) (find (wants_held c next) r.held)
cursor-none r next c k holds rests none =
    let end : k.ring_place ≡ r.pushes = cursor-end r next c k holds rests none in
    sym
    (ap (option_map (λ (y : Held). y.stamp))
    (scans-none (wants_held c next) r k.ring_place holds (omega arith) (rests-scan r next c k rests)))

late-of : (q s : ℕ) (rest : Bool) → (nat_le q s && rest) ≡ true → q ≤ s
late-of q s rest e = both (nat_le q s) (λ y. grind (arith, nat_tests))
    (λ n. absurd (let t : false ≡ true = rw n at e in cc))

-- A record that is wanted came no earlier than may still be sent.
pub cursor-late : (r : RingValue) (next : ℕ) (c : Choice) (k : Cursor) (x : Held) → RestsAt r next c k
    → Some x ≡ held_at r k.ring_place → next ≤ x.stamp
cursor-late r next c k x rests there = late-of next x.stamp _ (rests.wanted x (sym there))

-- ---- the end of TIME

none-says : (test : Held → Bool) (xs : List Held) → ((i : ℕ) (x : Held) → slice_get xs i ≡ Some x → test x ≡ false)
    → list_any test xs ≡ false
none-says test [] none = refl
none-says test (y ∷ xs) none = rw (none 0 y refl) (none-says test xs (λ i x e. none (suc i) x e))

held-index : (r : RingValue) (i : ℕ) (x : Held) → slice_get r.held i ≡ Some x → held_at r (first_place r + i) ≡ Some x
held-index r i x e =
    let test : nat_le (first_place r) (first_place r + i) ≡ true = grind (arith, nat_tests) in
    let index : first_place r + i - first_place r ≡ i = omega arith in
    rw (test, index) e

-- No record that is held starts after the end, where all those that do were passed before the oldest.
pub end-none : (r : RingValue) (next : ℕ) (c : Choice) → IsRing r → c.cursor.ended ≤ first_place r
    → HasPassed r next c c.cursor → c.cursor.ring_place ≡ r.pushes → false ≡ list_any (is_after_end c.action) r.held
end-none r next c holds low passed all = sym (none-says (is_after_end c.action) r.held (λ i x e.
    both (is_after_end c.action x)
    (λ y.
    let at : held_at r (first_place r + i) ≡ Some x = held-index r i x e in
    let high : first_place r + i < r.pushes = held_at-high r (first_place r + i) x holds at in
    let before : first_place r + i < c.cursor.ended = passed.told (first_place r + i) x (omega arith) at y in
    absurd (omega (arith, before, low)))
    (λ n. n)))

-- The last that does is held, where it is not before the oldest.
pub end-held : (r : RingValue) (next : ℕ) (c : Choice) → IsRing r → first_place r < c.cursor.ended
    → HasPassed r next c c.cursor → true ≡ list_any (is_after_end c.action) r.held
end-held r next c holds high passed =
    let place : ℕ = c.cursor.ended - 1 in
    let low : first_place r ≤ place = omega (arith, high) in
    let under : place < r.pushes = omega (arith, high, passed.before, passed.within) in
    let next_one : c.cursor.ended ≡ place + 1 = omega (arith, high) in
    any-here r place (is_after_end c.action) holds low under (λ y at. sym (passed.after place y next_one at))

-- Whether it is held.
pub end-past : (r : RingValue) (next : ℕ) (c : Choice) (oldest : ℕ) → IsRing r → Some oldest ≡ oldest_place r
    → HasPassed r next c c.cursor → c.cursor.ring_place ≡ r.pushes
    → nat_lt oldest c.cursor.ended ≡ list_any (is_after_end c.action) r.held
end-past r next c oldest holds is passed all =
    let first : oldest ≡ first_place r = oldest-first r oldest is in
    both (nat_lt oldest c.cursor.ended)
    (λ y. let high : first_place r < c.cursor.ended = grind (arith, nat_tests) in
    y ∙ end-held r next c holds high passed)
    (λ n. let low : c.cursor.ended ≤ first_place r = grind (arith, nat_tests) in
    n ∙ end-none r next c holds low passed all)

-- Nothing starts after the end in a ring that holds nothing.
pub end-nothing : (r : RingValue) (c : Choice) → None ≡ oldest_place r
    → false ≡ list_any (is_after_end c.action) r.held
end-nothing r c none = by r.held (holds-nothing r none)
  where
    by : (xs : List Held) → length xs ≡ 0 → false ≡ list_any (is_after_end c.action) xs
    by [] e = refl
    by (x ∷ xs) e = absurd (omega (arith, e))
