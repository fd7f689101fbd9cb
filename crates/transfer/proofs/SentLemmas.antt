-- A request whose record ahead was sent.
use Rattle.std.proofs.Common.{◌≡◌, ℕ, ◌+◌, ◌<◌, ◌≤◌, Bool, true, false, not, ◌&&◌, nat_le, Option, Some, None}
use Rattle.std.proofs.Common.{slice_get, refl, sym, ap, subst, ◌∙◌, arith, List}
use Rattle.std.specs.Prelude.{◌==◌, int_lt, nat_lt}
use Rattle.std.proofs.lemmas.Bool.Decides.{nat_tests}
use Rattle.protocol.specs.Pattern.{Pattern, passes}
use Rattle.protocol.specs.History.{ends_from}
use Rattle.protocol.proofs.FoundLemmas.{both}
use Rattle.selector.specs.Matching.{passes_parts}
use Rattle.station_ring.specs.declared.held.Held.{Held}
use Rattle.station_ring.specs.declared.held.Stream.{Stream}
use Rattle.station_ring.specs.declared.held.Summary.{Summary}
use Rattle.station_ring.specs.Briefs.{stream_of}
use Rattle.station_ring.specs.Rings.{RingValue, held_at}
use Rattle.station_ring.specs.HeldRecords.{RingsValue}
use Rattle.station_ring.proofs.GrowthLemmas.{held_at-low}
use Rattle.sl_lines.specs.declared.actions.Action.{Action}
use Rattle.sl_lines.specs.declared.actions.Action.TheVariants.{Data, Fetch, Time}
use Rattle.session_state.specs.NamedValues.{Choice, ahead_of}
use Rattle.session_state.specs.declared.choices.Cursor.{Cursor}
use Rattle.transfer.specs.Wanting.{facts_of, is_in_window_of, wants_held}
use Rattle.transfer.specs.Cursors.{HasPassed, RestsAt, RestsIn, is_after_end}
use Rattle.transfer.specs.Searches.{at_place}
use Rattle.transfer.specs.declared.wanting.Found.TheVariants.{Wanted}
use Rattle.transfer.proofs.CursorLemmas.{Finds, held_at-high}
use Rattle.transfer.proofs.PassedLemmas.{unwanted-later}
use Rattle.transfer.proofs.ScanLemmas.{there-at}
use Rattle.transfer.proofs.RestLemmas.{rests-moved, rests-ring}

last-of : (a b : Bool) → (a && b) ≡ true → b ≡ true
last-of true b e = e
last-of false b e = absurd cc

-- A record within what is asked does not start after the end of TIME.
window-within : (action : Option Action) (x : Held) → is_in_window_of action (facts_of x.summary) ≡ true
    → is_after_end action x ≡ false
window-within None x e = refl
window-within (Some (Data number begin)) x e = refl
window-within (Some (Fetch number begin)) x e = refl
window-within (Some (Time begin None)) x e = refl
window-within (Some (Time begin (Some last))) x e = both (int_lt last x.summary.start)
    (λ y. absurd (let t : not (int_lt last x.summary.start) ≡ true =
    last-of (ends_from begin (facts_of x.summary)) _ e in
    let f : false ≡ true = ap not (sym y) ∙ t in cc))
    (λ n. n)

wanted-within : (c : Choice) (q : ℕ) (x : Held) → wants_held c q x ≡ true → is_after_end c.action x ≡ false
wanted-within c q x e = window-within c.action x
    (last-of (passes c.patterns (facts_of x.summary)) _
    (last-of (nat_le c.first x.stamp) _ (last-of (nat_le q x.stamp) _ e)))

first-of : (a b : Bool) → (a && b) ≡ true → a ≡ true
first-of true b e = refl
first-of false b e = absurd cc

pub wanted-passes : (c : Choice) (q : ℕ) (x : Held) → wants_held c q x ≡ true
    → passes c.patterns (facts_of x.summary) ≡ true
wanted-passes c q x e =
    first-of (passes c.patterns (facts_of x.summary)) _
    (last-of (nat_le c.first x.stamp) _ (last-of (nat_le q x.stamp) _ e))

same-held : (r : RingValue) (place : ℕ) (x y : Held) → held_at r place ≡ Some x → held_at r place ≡ Some y → y ≡ x
same-held r place x y one other = let t : Some y ≡ Some x = sym other ∙ one in cc

-- What a request has passed once its record ahead was sent: that one too.
pub sent-passed : (r : RingValue) (q next : ℕ) (c : Choice) (x : Held) → q ≤ x.stamp → x.stamp < next
    → held_at r c.cursor.ring_place ≡ Some x → RestsAt r q c c.cursor
    → HasPassed r next c (at_place (c.cursor.ring_place + 1) c.cursor.ended)
sent-passed r q next c x late sent there rest = record {
  within = let high : c.cursor.ring_place < r.pushes = held_at-high r c.cursor.ring_place x rest.holding there in
      omega arith;
  unwanted = λ p y low held. both (p == c.cursor.ring_place)
      (λ e. let here : p ≡ c.cursor.ring_place = grind (arith, nat_tests) in
      let same : y ≡ x = same-held r c.cursor.ring_place x y there (ap (held_at r) (sym here) ∙ held) in
      let stamp : y.stamp ≡ x.stamp = ap (λ (z : Held). z.stamp) same in
      let before : nat_le next y.stamp ≡ false = grind (arith, nat_tests) in rw before refl)
      (λ n. let low' : p < c.cursor.ring_place = grind (arith, nat_tests) in
      unwanted-later c q next y (omega arith) (rest.passed.unwanted p y low' held));
  told = λ p y low held after. both (p == c.cursor.ring_place)
      (λ e. let here : p ≡ c.cursor.ring_place = grind (arith, nat_tests) in
      let same : y ≡ x = same-held r c.cursor.ring_place x y there (ap (held_at r) (sym here) ∙ held) in
      let none : is_after_end c.action y ≡ false = ap (is_after_end c.action) same
      ∙ wanted-within c q x (rest.wanted x there) in
      absurd (let t : true ≡ false = sym after ∙ none in cc))
      (λ n. let low' : p < c.cursor.ring_place = grind (arith, nat_tests) in rest.passed.told p y low' held after);
  before = let b = rest.passed.before in omega arith;
  after = rest.passed.after;
}

-- Whether a record passes depends on its stream alone.
same-passes : (ps : List Pattern) (x y : Summary) → stream_of x ≡ stream_of y
    → passes ps (facts_of x) ≡ passes ps (facts_of y)
same-passes ps x y e = ap (λ (s : Stream). passes_parts s.location s.channel s.kind ps) e

-- A record of a stream that passes is wanted, where it comes late enough and is within what is asked.
pub wanted-too : (c : Choice) (next : ℕ) (x : Summary) (y : Held) → passes c.patterns (facts_of x) ≡ true
    → nat_le next y.stamp ≡ true → nat_le c.first y.stamp ≡ true → stream_of x ≡ stream_of y.summary
    → is_in_window_of c.action (facts_of y.summary) ≡ true → wants_held c next y ≡ true
wanted-too c next x y p late first same window =
    rw (late, first, sym (same-passes c.patterns x y.summary same) ∙ p, window) refl

-- What a request finds at a place, where it wants the record there.
pub wanted-found : (r : RingValue) (place : ℕ) (c : Choice) (next : ℕ) (x : Held) → held_at r place ≡ Some x
    → wants_held c next x ≡ true → Finds r place c next (Wanted x.stamp)
wanted-found r place c next x here wanted = λ y there.
    let same : y ≡ x = same-held r place x y here there in rw (same, wanted) refl

-- Where the place after a held record is not held, all was pushed before it.
pub none-past : (r : RingValue) (place : ℕ) (x : Held) → held_at r place ≡ Some x → held_at r (place + 1) ≡ None
    → r.pushes ≤ place + 1
none-past r place x there none = both (nat_lt (place + 1) r.pushes)
    (λ y. absurd (let low = held_at-low r place x there in
    let next = there-at r (place + 1) (omega (arith, low.0)) (grind (arith, nat_tests, y)) in
    let t : None ≡ Some next.0 = sym none ∙ next.1 in cc))
    (λ n. grind (arith, nat_tests, n))

-- It rests where a search from the next place on comes to, which may rely on that the stream of the record passes.
pub sent-rests : (rings : RingsValue) (q next stamp : ℕ) (c : Choice) (r : RingValue) (place : ℕ) (x : Held)
    (k : Cursor) → q ≤ x.stamp → x.stamp < next → slice_get rings.rings c.station ≡ Some r → c.cursor.ring_place ≡ place
    → held_at r place ≡ Some x → ahead_of c.cursor ≡ Some stamp → RestsIn rings q c
    → (passes c.patterns (facts_of x.summary) ≡ true → HasPassed r next c (at_place (place + 1) c.cursor.ended)
    → RestsAt r next c k) → RestsIn rings next (record c { cursor = k })
sent-rests rings q next stamp c r place x k late sent ring is there ahead rests search = by c.action refl
  where
    by : (o : Option Action) → c.action ≡ o → RestsIn rings next (record c { cursor = k })
    by None none = absurd (let t : None ≡ Some stamp = sym (rests.quiet none) ∙ ahead in cc)
    by (Some a) asked =
        let at : held_at r c.cursor.ring_place ≡ Some x = ap (held_at r) is ∙ there in
        let passed = sent-passed r q next c x late sent at (rests.rests r a ring asked) in
        let passes' = wanted-passes c q x ((rests.rests r a ring asked).wanted x at) in
        rests-ring rings next (record c { cursor = k }) r a asked ring
        (rests-moved r next c k
        (search passes' (subst (λ n. HasPassed r next c (at_place (n + 1) c.cursor.ended)) is passed)))
