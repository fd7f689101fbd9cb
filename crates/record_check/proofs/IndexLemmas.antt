-- An index of streams by their names, one record after the other.
use Rattle.std.proofs.Common.{◌≡◌, ℕ, zero, ◌+◌, ◌<◌, suc, Bool, ◌&&◌, true, false, List, [], ◌∷◌, ◌++◌}
use Rattle.std.proofs.Common.{length, get_or, map, set, Option, Some, None, IfSome}
use Rattle.std.proofs.Common.{Result, Ok, Err, refl, sym, ap, ap₂, ◌∙◌, subst}
use Rattle.std.proofs.Common.{arith}
use Rattle.std.proofs.Common.{◌==◌, eqb-true}
use Rattle.std.proofs.Common.{inl, inr, length-append}
use Rattle.std.specs.Prelude.{cond, if◌then◌else◌, ⊤, OnOk, OnErr}
use Rattle.std.proofs.lemmas.Bool.Decides.{leb_tells}
use Rattle.std.specs.Str.{bytes_eq}
use Rattle.std.specs.HashMap.{IsEmpty, IsUnchanged, Updates}
use Rattle.std.specs.Map.{lookup}
use Rattle.std.proofs.lemmas.Bool.{false≢true}
use Rattle.std.proofs.lemmas.List.{get_or_append_left, length-map}
use Rattle.std.proofs.lemmas.List.Folds.{list_any_at}
use Rattle.std.proofs.Math.Seq.{get_or-append_seam}
use Rattle.std.proofs.lemmas.Slice.Eq.{bytes_eq-Decides}
use Rattle.protocol.specs.Record.{Facts}
use Rattle.text_parts.specs.Spelling.{spelled}
use Rattle.text_parts.proofs.SpellingLemmas.{equal_spelled}
use Rattle.record_check.specs.Index.{StreamPlaces, name_of, names_eq, place_in}
use Rattle.record_check.specs.Index.{AreCodes, Finds, IsAt, IsCode}
use Rattle.record_check.specs.Streams.{StreamValue, begun, gone_on, is_known, is_of, on_if, streams_with}
use Rattle.record_check.specs.Streams.{AreInOrder, IsInOrder}
use Rattle.record_check.specs.Words.{kind_letter}
use Rattle.record_check.specs.declared.stream_name.StreamName.{StreamName}

-- ---- names

-- Numbers are equal exactly if the codes are that they spell.
equal_codes : (a b : List ℕ) → IsCode a → IsCode b → (spelled a == spelled b) ≡ bytes_eq a b
equal_codes a b of_a of_b = equal_spelled a b of_a.short of_b.short of_a.bytes of_b.bytes

-- five tests, one after the other
five_tests : (a b c d e : Bool) → (a && (b && (c && (d && e)))) ≡ (a && b && c && d && e)
five_tests false b c d e = refl
five_tests true false c d e = refl
five_tests true true false d e = refl
five_tests true true true false e = refl
five_tests true true true true e = refl

-- The names of two records are equal exactly if the second is one of the stream that the first begins.
equal_names : (a x : Facts) → AreCodes a → AreCodes x → names_eq (name_of a) (name_of x) ≡ is_of x (begun a)
equal_names a x its those =
    five_tests (spelled a.network == spelled x.network) (spelled a.station == spelled x.station)
    (spelled a.location == spelled x.location) (spelled a.channel == spelled x.channel)
    (kind_letter a.kind == kind_letter x.kind)
    ∙ ap (λ p. p && (kind_letter a.kind == kind_letter x.kind))
    (ap₂ (λ p q. p && q)
    (ap₂ (λ p q. p && q)
    (ap₂ (λ p q. p && q) (equal_codes a.network x.network its.network those.network)
    (equal_codes a.station x.station its.station those.station))
    (equal_codes a.location x.location its.location those.location))
    (equal_codes a.channel x.channel its.channel those.channel))

-- ---- records of one stream

both_pass : (a b : Bool) → (a && b) ≡ true → (a ≡ true) × (b ≡ true)
both_pass true true e = (refl, refl)
both_pass true false e = absurd (false≢true e)
both_pass false b e = absurd (false≢true e)

-- a record of the stream that another one begins is of the streams of that one
same_stream : (a x : Facts) (s : StreamValue) → is_of x (begun a) ≡ true → is_of x s ≡ true → is_of a s ≡ true
same_stream a x s begins has =
    let p4 = both_pass _ (kind_letter a.kind == kind_letter x.kind) begins in
    let p3 = both_pass _ (bytes_eq a.channel x.channel) p4.0 in
    let p2 = both_pass _ (bytes_eq a.location x.location) p3.0 in
    let p1 = both_pass (bytes_eq a.network x.network) (bytes_eq a.station x.station) p2.0 in
    let network : a.network ≡ x.network = (bytes_eq-Decides a.network x.network).0 p1.0 in
    let station : a.station ≡ x.station = (bytes_eq-Decides a.station x.station).0 p1.1 in
    let location : a.location ≡ x.location = (bytes_eq-Decides a.location x.location).0 p2.1 in
    let channel : a.channel ≡ x.channel = (bytes_eq-Decides a.channel x.channel).0 p3.1 in
    let letter : kind_letter a.kind ≡ kind_letter x.kind = eqb-true (kind_letter a.kind) (kind_letter x.kind) p4.1 in
    ap₂ (λ p q. p && q)
    (ap₂ (λ p q. p && q)
    (ap₂ (λ p q. p && q)
    (ap₂ (λ p q. p && q) (ap (bytes_eq s.network) network) (ap (bytes_eq s.station) station))
    (ap (bytes_eq s.location) location))
    (ap (bytes_eq s.channel) channel))
    (ap (λ n. kind_letter s.kind == n) letter)
    ∙ has

-- one record more leaves a stream its codes
kept_codes : (x y : Facts) (b : Bool) (s : StreamValue) → is_of y (if b then gone_on x s else s) ≡ is_of y s
unfolding gone_on
kept_codes x y true s = refl
kept_codes x y false s = refl

-- ---- the one stream that has a record

if_false : (b : Bool) → ((b ≡ true) → ⊥) → b ≡ false
if_false b never = by b refl
  where
    by : (c : Bool) → b ≡ c → b ≡ false
    by true is = absurd (never is)
    by false is = is

-- a record of none of the streams
map_none : (x : Facts) (ss : List StreamValue)
    → ((j : ℕ) (d : StreamValue) → j < length ss → is_of x (get_or ss j d) ≡ false) → map (on_if x) ss ≡ ss
map_none x [] none = refl
map_none x (s ∷ ss) none =
    ap₂ {A = StreamValue} (λ t ts. t ∷ ts) (ap (λ b. if b then gone_on x s else s) (none 0 s (omega arith)))
    (map_none x ss (λ j d h. none (suc j) d (omega (arith, h))))

any_none : (x : Facts) (ss : List StreamValue)
    → ((j : ℕ) (d : StreamValue) → j < length ss → is_of x (get_or ss j d) ≡ false) → is_known x ss ≡ false
any_none x [] none = refl
any_none x (s ∷ ss) none =
    rw (none 0 s (omega arith)) (any_none x ss (λ j d h. none (suc j) d (omega (arith, h))))

-- a record of one of them
map_one : (x : Facts) (ss : List StreamValue) (k : ℕ) (d : StreamValue) → k < length ss
    → is_of x (get_or ss k d) ≡ true
    → ((j : ℕ) (e : StreamValue) → j < length ss → is_of x (get_or ss j e) ≡ true → j ≡ k)
    → set ss k (gone_on x (get_or ss k d)) ≡ map (on_if x) ss
map_one x [] k d within has one = absurd (omega (arith, within))
map_one x (s ∷ ss) zero d within has one =
    ap₂ {A = StreamValue} (λ t ts. t ∷ ts) (sym (ap (λ b. if b then gone_on x s else s) has))
    (sym (map_none x ss
    (λ j e h. if_false _ (λ is. let no = one (suc j) e (omega (arith, h)) is in absurd (omega (arith, no))))))
map_one x (s ∷ ss) (suc k) d within has one =
    ap₂ {A = StreamValue} (λ t ts. t ∷ ts)
    (sym (ap (λ b. if b then gone_on x s else s)
    (if_false _ (λ is. let no = one 0 s (omega arith) is in absurd (omega (arith, no))))))
    (map_one x ss k d (omega (arith, within)) has
    (λ j e h is. let same = one (suc j) e (omega (arith, h)) is in omega (arith, same)))

some_same : (a b : ℕ) → Some a ≡ Some b → a ≡ b
some_same a b e = ap (λ o. from o) e
  where
    from : Option ℕ → ℕ
    from None = 0
    from (Some k) = k

some_none : (a : ℕ) → Some a ≡ None → ⊥
some_none a e = subst (λ (o : Option ℕ). is_so o) e tt
  where
    is_so : Option ℕ → Type 0
    is_so None = ⊥
    is_so (Some k) = ⊤

-- ---- what an index finds

-- a place that is found is one of a stream that has the record
pub found_at : (m : StreamPlaces) (ss : List StreamValue) (x : Facts) (k : ℕ) → Finds m ss → AreCodes x
    → place_in m x ≡ Some k → IsAt x ss k
found_at m ss x k finds are found = subst (λ o. IfSome o (IsAt x ss)) found (finds.there x are)

-- the place that is found is that of the only stream that has the record
gone_on_at : (m : StreamPlaces) (ss : List StreamValue) (x : Facts) (k : ℕ) (s : StreamValue) → Finds m ss
    → AreCodes x → place_in m x ≡ Some k → s ≡ get_or ss k s
    → set ss k (gone_on x s) ≡ map (on_if x) ss
gone_on_at m ss x k s finds are found at =
    let here : IsAt x ss k = found_at m ss x k finds are found in
    ap (λ (t : StreamValue). set ss k (gone_on x t)) at
    ∙ map_one x ss k s here.within (here.has s)
    (λ j e h is. some_same j k (sym (finds.one x are j e h is) ∙ found))

-- one record more leaves each stream its codes
at_map : (x y : Facts) (ss : List StreamValue) (k : ℕ) (d : StreamValue) → k < length ss
    → is_of y (get_or (map (on_if x) ss) k d) ≡ is_of y (get_or ss k d)
at_map x y [] k d within = absurd (omega (arith, within))
at_map x y (s ∷ ss) zero d within = kept_codes x y (is_of x s) s
at_map x y (s ∷ ss) (suc k) d within = at_map x y ss k d (omega (arith, within))

still_at : (x y : Facts) (ss : List StreamValue) (o : Option ℕ) → IfSome o (IsAt y ss)
    → IfSome o (IsAt y (map (on_if x) ss))
still_at x y ss None at = tt
still_at x y ss (Some k) at =
    record {
      within = rw (length-map ss (on_if x)) at.within;
      has = λ d. at_map x y ss k d at.within ∙ at.has d;
    }

-- with one record more of a stream the index still finds each
pub found_further : (m : StreamPlaces) (ss : List StreamValue) (x : Facts) → Finds m ss → Finds m (map (on_if x) ss)
found_further m ss x finds =
    record {
      one = λ y are k d within is. let here : k < length ss = subst (λ n. k < n) (length-map ss (on_if x)) within in
          finds.one y are k d here (sym (at_map x y ss k d here) ∙ is);
      there = λ y are. still_at x y ss (place_in m y) (finds.there y are);
    }

-- the index finds the streams with one record more of a known one
pub found_with : (m : StreamPlaces) (ss zs : List StreamValue) (x : Facts) (k : ℕ) (s t : StreamValue) → Finds m ss
    → AreCodes x → place_in m x ≡ Some k → s ≡ get_or ss k s → t ≡ gone_on x s → zs ≡ set ss k t
    → (zs ≡ streams_with ss x) × Finds m zs
found_with m ss zs x k s t finds are found at gone is =
    let here : IsAt x ss k = found_at m ss x k finds are found in
    let all : zs ≡ map (on_if x) ss = is ∙ ap (set ss k) gone ∙ gone_on_at m ss x k s finds are found at in (
      all ∙ sym (ap (λ b. if b then map (on_if x) ss else ss ++ begun x ∷ [])
          (list_any_at (is_of x) ss k s here.within (here.has s))),
      subst (Finds m) (sym all) (found_further m ss x finds),
    )

-- a record that is not found is of none of the streams
pub begun_more : (m : StreamPlaces) (ss : List StreamValue) (x : Facts) → Finds m ss → AreCodes x
    → place_in m x ≡ None → ss ++ begun x ∷ [] ≡ streams_with ss x
begun_more m ss x finds are none =
    sym (ap (λ b. if b then map (on_if x) ss else ss ++ begun x ∷ [])
    (any_none x ss (λ j d h. if_false _ (λ is. some_none j (sym (finds.one x are j d h is) ∙ none)))))

-- an index with one stream more
module _ (m n : StreamPlaces) (ss : List StreamValue) (a : Facts) (finds : Finds m ss) (its : AreCodes a)
    (none : place_in m a ≡ None) (updates : Updates names_eq m n (name_of a) (Some (length ss))) where
  more_length : length (ss ++ begun a ∷ []) ≡ length ss + 1
  more_length = length-append ss (begun a ∷ [])

  step : (y : Facts) → AreCodes y → (b : Bool) → is_of y (begun a) ≡ b
      → place_in n y ≡ cond b (Some (length ss)) (place_in m y)
  step y are b is =
      updates.0 (name_of y) ∙ ap (λ c. cond c (Some (length ss)) (place_in m y)) (equal_names a y its are ∙ is)

  -- no earlier stream has a record of the new one
  apart : (y : Facts) (k : ℕ) (d : StreamValue) → is_of y (begun a) ≡ true → k < length ss
      → is_of y (get_or ss k d) ≡ true → ⊥
  apart y k d begins within has =
      some_none k (sym (finds.one a its k d within (same_stream a y (get_or ss k d) begins has)) ∙ none)

  last_is : (y : Facts) (d : StreamValue) → is_of y (get_or (ss ++ begun a ∷ []) (length ss) d) ≡ is_of y (begun a)
  last_is y d = ap (is_of y) (get_or-append_seam ss (begun a) [] d)

  earlier_is : (y : Facts) (k : ℕ) (d : StreamValue) → k < length ss
      → is_of y (get_or (ss ++ begun a ∷ []) k d) ≡ is_of y (get_or ss k d)
  earlier_is y k d within = ap (is_of y) (get_or_append_left ss (begun a ∷ []) d k within)

  one_by : (y : Facts) → AreCodes y → (k : ℕ) (d : StreamValue) → k < length (ss ++ begun a ∷ [])
      → is_of y (get_or (ss ++ begun a ∷ []) k d) ≡ true → (b : Bool) → is_of y (begun a) ≡ b
      → cond b (Some (length ss)) (place_in m y) ≡ Some k
  one_by y are k d within has true begins =
      elim (leb_tells (length ss) k) [
        | inl past ↦ ap {B = Option ℕ} Some (let e = more_length in let p = past.1 in
            let same : length ss ≡ k = omega (arith, e, within, p) in same)
        | inr before ↦ absurd (apart y k d begins before.1 (sym (earlier_is y k d before.1) ∙ has))
      ]
  one_by y are k d within has false begins =
      elim (leb_tells (length ss) k) [
        | inl past ↦ let e = more_length in let p = past.1 in
            let same : length ss ≡ k = omega (arith, e, within, p) in
            absurd (false≢true (sym begins ∙ sym (last_is y d)
            ∙ ap (λ i. is_of y (get_or (ss ++ begun a ∷ []) i d)) same ∙ has))
        | inr before ↦ finds.one y are k d before.1 (sym (earlier_is y k d before.1) ∙ has)
      ]

  extended : (y : Facts) (o : Option ℕ) → IfSome o (IsAt y ss) → IfSome o (IsAt y (ss ++ begun a ∷ []))
  extended y None at = tt
  extended y (Some k) at =
      record {
        within = let e = more_length in let w = at.within in omega (arith, e, w);
        has = λ d. earlier_is y k d at.within ∙ at.has d;
      }

  there_by : (y : Facts) → AreCodes y → (b : Bool) → is_of y (begun a) ≡ b
      → IfSome (cond b (Some (length ss)) (place_in m y)) (IsAt y (ss ++ begun a ∷ []))
  there_by y are true begins =
      record { within = let e = more_length in omega (arith, e); has = λ d. last_is y d ∙ begins }
  there_by y are false begins = extended y (place_in m y) (finds.there y are)

  pub found_begun : Finds n (ss ++ begun a ∷ [])
  found_begun =
      record {
        one = λ y are k d within has. step y are (is_of y (begun a)) refl
            ∙ one_by y are k d within has (is_of y (begun a)) refl;
        there = λ y are. subst (λ o. IfSome o (IsAt y (ss ++ begun a ∷ [])))
            (sym (step y are (is_of y (begun a)) refl)) (there_by y are (is_of y (begun a)) refl);
      }

-- an index that is the same finds the same
pub found_unchanged : (m n : StreamPlaces) (ss : List StreamValue) → IsUnchanged m n → Finds m ss → Finds n ss
found_unchanged m n ss same finds =
    let each : (y : Facts) → place_in n y ≡ place_in m y = λ y. ap (λ (es : List (StreamName × ℕ)).
    lookup (names_eq (name_of y)) es) same in
    record {
      one = λ y are k d within has. each y ∙ finds.one y are k d within has;
      there = λ y are. subst (λ o. IfSome o (IsAt y ss)) (sym (each y)) (finds.there y are);
    }

-- nothing is found in an empty map
pub found_nowhere : (m : StreamPlaces) → IsEmpty m → Finds m []
found_nowhere m empty =
    record {
      one = λ y are k d within has. absurd (omega (arith, within));
      there = λ y are. subst (λ (es : List (StreamName × ℕ)). IfSome (lookup (names_eq (name_of y)) es) (IsAt y []))
          (sym empty) tt;
    }

-- ---- streams in order

-- a stream in order has its codes
kept_in_order : (y : Facts) (s s' : StreamValue) → IsInOrder s s' → is_of y s' ≡ is_of y s
kept_in_order y s s' order = ap (is_of y) order.same

still_in_order : (y : Facts) (ss ss' : List StreamValue) (o : Option ℕ) → AreInOrder ss ss' → IfSome o (IsAt y ss)
    → IfSome o (IsAt y ss')
still_in_order y ss ss' None order at = tt
still_in_order y ss ss' (Some k) order at =
    record {
      within = subst (λ n. k < n) (sym order.count) at.within;
      has = λ d. kept_in_order y _ _ (order.each k d at.within) ∙ at.has d;
    }

-- the index finds streams that were put in order
pub found_in_order : (m : StreamPlaces) (ss ss' : List StreamValue) → Finds m ss → AreInOrder ss ss' → Finds m ss'
found_in_order m ss ss' finds order =
    record {
      one = λ y are k d within is. let here : k < length ss = subst (λ n. k < n) order.count within in
          finds.one y are k d here (sym (kept_in_order y _ _ (order.each k d here)) ∙ is);
      there = λ y are. still_in_order y ss ss' (place_in m y) order (finds.there y are);
    }

-- nothing changes where the stream at a place stays
found_kept : (m : StreamPlaces) (ss zs : List StreamValue) (k : ℕ) (s t : StreamValue) → Finds m ss
    → k < length ss → s ≡ get_or ss k s → t ≡ s → zs ≡ set ss k t → Finds m zs
found_kept m ss zs k s t finds within at same is =
    subst (Finds m) (sym (is ∙ ap (set ss k) (same ∙ at) ∙ set_there ss k s within)) finds
  where
    set_there : (xs : List StreamValue) (j : ℕ) (d : StreamValue) → j < length xs → set xs j (get_or xs j d) ≡ xs
    set_there [] j d inside = absurd (omega (arith, inside))
    set_there (x ∷ xs) zero d inside = refl
    set_there (x ∷ xs) (suc j) d inside = ap (λ l. x ∷ l) (set_there xs j d (omega (arith, inside)))

-- one record more of a known stream, if there is memory for it
pub found_either : {T E : Type 0} (r : Result T E) (m : StreamPlaces) (ss zs : List StreamValue) (x : Facts) (k : ℕ)
    (s t : StreamValue) → Finds m ss → AreCodes x → place_in m x ≡ Some k → s ≡ get_or ss k s
    → OnOk r (t ≡ gone_on x s) → OnErr r (t ≡ s) → zs ≡ set ss k t
    → OnOk r (zs ≡ streams_with ss x) × Finds m zs
found_either (Ok v) m ss zs x k s t finds are found at gone kept is =
    let with = found_with m ss zs x k s t finds are found at gone is in (with.0, with.1)
found_either (Err e) m ss zs x k s t finds are found at gone kept is =
    let here : IsAt x ss k = found_at m ss x k finds are found in
    (tt, found_kept m ss zs k s t finds here.within at kept is)
