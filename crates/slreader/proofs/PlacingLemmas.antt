-- The wants of a station, one place after the other.
use Rattle.std.proofs.Common.{◌≡◌, ℕ, ◌+◌, ◌-◌, ◌<◌, ◌≤◌, zero, suc, inl, inr, Bool, ◌&&◌, ◌||◌, true, false, cond}
use Rattle.std.proofs.Common.{List, [], ◌∷◌, ◌++◌, length, map, take, drop, get_or, slice_set, Option, Some, None, refl}
use Rattle.std.proofs.Common.{sym, ap, ap₂, ◌∙◌, subst, arith, unwrap_or, option_map}
use Rattle.std.specs.HashMap.{IsEmpty, Updates, get}
use Rattle.std.specs.List.{list_any, position_from}
use Rattle.std.specs.Map.{lookup}
use Rattle.std.specs.Str.{bytes_eq}
use Rattle.std.proofs.Common.{add-one, zero-add}
use Rattle.std.proofs.Math.ListN.{drop_of_length-le}
use Rattle.std.proofs.Math.Seq.{drop-cons}
use Rattle.std.proofs.lemmas.List.{drop-map, get_or-set_other, get_or-set_same, get_or_default, length-drop}
use Rattle.std.proofs.lemmas.List.{get_or-drop}
use Rattle.std.proofs.lemmas.Bool.{false≢true}
use Rattle.std.proofs.lemmas.Bool.Decides.{leb_tells}
use Rattle.std.proofs.lemmas.Slice.Eq.{bytes_eq-Decides}
use Rattle.protocol.specs.Record.{Facts}
use Rattle.text_parts.proofs.SpellingLemmas.{equal_spelled}
use Rattle.slreader.specs.Placing.{ArePlaces, Finds, Firsts, Follows, HasPlaces, IsShort, Name, codes_eq, first_from}
use Rattle.slreader.specs.Placing.{is_same_name, key, name_of, names}
use Rattle.slreader.specs.Tallies.{ReachedValue, Resume, has_codes, passed, reached_at}
use Rattle.slreader.specs.declared.places.WantCodes.{WantCodes}
use Rattle.slreader.specs.declared.places.WantPlaces.{WantPlaces}

-- ---- names

both_pass : (a b : Bool) → (a && b) ≡ true → (a ≡ true) × (b ≡ true)
both_pass true true e = (refl, refl)
both_pass true false e = absurd (false≢true e)
both_pass false b e = absurd (false≢true e)

-- two texts, whichever comes first
turned_texts : (a b : List ℕ) → bytes_eq a b ≡ bytes_eq b a
turned_texts a b = by (bytes_eq a b) (bytes_eq b a) refl refl
  where
    by : (p q : Bool) → bytes_eq a b ≡ p → bytes_eq b a ≡ q → p ≡ q
    by true true is so = refl
    by false false is so = refl
    by true false is so = sym ((bytes_eq-Decides b a).1 (sym ((bytes_eq-Decides a b).0 is))) ∙ so
    by false true is so = sym is ∙ (bytes_eq-Decides a b).1 (sym ((bytes_eq-Decides b a).0 so))

-- keys are equal where the names are
pub equal_names : (n m : Name) → IsShort n → IsShort m → codes_eq (key n) (key m) ≡ is_same_name n m
equal_names n m its those =
    ap₂ (λ a b. a && b)
    (equal_spelled n.network m.network (let h = its.network in omega arith) (let h = those.network in omega arith)
    its.network_bytes those.network_bytes)
    (equal_spelled n.station m.station (let h = its.station in omega arith) (let h = those.station in omega arith)
    its.station_bytes those.station_bytes)

-- names that are the same are equal
pub one_name : (n m : Name) → is_same_name n m ≡ true → n ≡ m
one_name n m e =
    let each = both_pass (bytes_eq n.network m.network) (bytes_eq n.station m.station) e in
    ap₂ (λ (x y : List ℕ). let w : Name = record { network = x; station = y } in w)
    ((bytes_eq-Decides n.network m.network).0 each.0) ((bytes_eq-Decides n.station m.station).0 each.1)

-- a name that is too long is none that is short
pub long_differs : (n m : Name) → (IsShort n → ⊥) → IsShort m → is_same_name n m ≡ false
long_differs n m long short = by (is_same_name n m) refl
  where
    by : (b : Bool) → is_same_name n m ≡ b → b ≡ false
    by false is = refl
    by true is = absurd (long (subst IsShort (sym (one_name n m is)) short))

-- the name that a record has
abbrev pub name_in : Facts → Name
name_in x = record { network = x.network; station = x.station }

pub named_alike : (r : Resume) (x : Facts) → is_same_name (name_of r) (name_in x)
    ≡ has_codes r.network r.station (Some x)
named_alike r x = ap₂ (λ a b. a && b) (turned_texts r.network x.network) (turned_texts r.station x.station)

-- ---- what a packet leaves

-- the names stay
pub names_stay : (number : Option ℕ) (facts : Option Facts) (rs : List Resume)
    → names (map (passed number facts) rs) ≡ names rs
names_stay number facts [] = refl
names_stay number facts (r ∷ rs) =
    ap₂ (λ n ns. n ∷ ns) (by (r.is_any || has_codes r.network r.station facts)) (names_stay number facts rs)
  where
    by : (b : Bool) → name_of (cond b (record r { last = option_map (reached_at facts) number }) r) ≡ name_of r
    by true = refl
    by false = refl

-- and so does whether any is of any station
pub any_stays : (number : Option ℕ) (facts : Option Facts) (rs : List Resume)
    → list_any (λ r. r.is_any) (map (passed number facts) rs) ≡ list_any (λ r. r.is_any) rs
any_stays number facts [] = refl
any_stays number facts (r ∷ rs) =
    ap₂ (λ a b. a || b) (by (r.is_any || has_codes r.network r.station facts)) (any_stays number facts rs)
  where
    by : (b : Bool) → (cond b (record r { last = option_map (reached_at facts) number }) r).is_any ≡ r.is_any
    by true = refl
    by false = refl

-- so what is kept of their places is so still
pub places_stay : (firsts : Firsts) (nexts : List (Option ℕ)) (number : Option ℕ) (facts : Option Facts)
    (rs : List Resume) → ArePlaces firsts nexts rs → ArePlaces firsts nexts (map (passed number facts) rs)
places_stay firsts nexts number facts rs are = record {
  named = any_stays number facts rs ∙ are.named;
  finds = subst (Finds firsts 0) (sym (names_stay number facts rs)) are.finds;
  follows = subst (Follows nexts 0) (sym (names_stay number facts rs)) are.follows;
}

-- what is kept is what was made
pub has_places : (places : WantPlaces) (rs : List Resume) → list_any (λ r. r.is_any) rs ≡ false
    → Finds places.firsts 0 (names rs) → Follows places.nexts.items 0 (names rs) → HasPlaces (Some places) rs
has_places places rs named finds follows kept same =
    let one : places ≡ kept = cc in
    subst (λ (x : WantPlaces). ArePlaces x.firsts x.nexts.items rs) one
    (record { named = named; finds = finds; follows = follows })

-- ---- what is made, one place before the other

-- nothing is found behind the last
pub found_nowhere : (m : Firsts) (ns : List Name) (place : ℕ) → length ns ≤ place → IsEmpty m → Finds m place ns
found_nowhere m ns place behind empty n short =
    ap (λ (es : List (WantCodes × ℕ)). lookup (codes_eq (key n)) es) empty
    ∙ sym (ap (λ l. position_from (λ x. is_same_name x n) place l) (drop_of_length-le ns behind))

-- a name that is put in
pub put_in : (m n : Firsts) (name : Name) (place : ℕ) → IsShort name
    → Updates codes_eq m n (key name) (Some place) → (q : Name) → IsShort q
    → get codes_eq n (key q) ≡ cond (is_same_name name q) (Some place) (get codes_eq m (key q))
put_in m n name place short updates q is =
    updates.0 (key q) ∙ ap (λ b. cond b (Some place) (get codes_eq m (key q))) (equal_names name q short is)

-- one that is too long is left out
pub left_out : (m : Firsts) (name : Name) (place : ℕ) → (IsShort name → ⊥) → (q : Name) → IsShort q
    → get codes_eq m (key q) ≡ cond (is_same_name name q) (Some place) (get codes_eq m (key q))
left_out m name place long q short =
    ap (λ b. cond b (Some place) (get codes_eq m (key q))) (sym (long_differs name q long short))

-- the first places from one place earlier on
pub finds_before : (m n : Firsts) (ns : List Name) (p : ℕ) (name : Name) → p < length ns → name ≡ get_or ns p name
    → Finds m (p + 1) ns
    → ((q : Name) → IsShort q → get codes_eq n (key q) ≡ cond (is_same_name name q) (Some p) (get codes_eq m (key q)))
    → Finds n p ns
finds_before m n ns p name within at finds put q short =
    put q short
    ∙ ap (λ o. cond (is_same_name name q) (Some p) o) (finds q short)
    ∙ sym (ap (position_from (λ x. is_same_name x q) p)
    (drop-cons ns p name within ∙ ap₂ (λ (x : Name) k. x ∷ drop k ns) (sym at) (sym (add-one p))))

-- and what comes next from there
pub follows_before : (nexts : List (Option ℕ)) (m : Firsts) (ns : List Name) (p : ℕ) (name : Name) (next : Option ℕ)
    → p < length ns → p < length nexts → name ≡ get_or ns p name → Finds m (p + 1) ns
    → (IsShort name → next ≡ get codes_eq m (key name)) → Follows nexts (p + 1) ns
    → Follows (slice_set nexts p next) p ns
follows_before nexts m ns p name next within inside at finds is follows k n le lt short same =
    elim (leb_tells (p + 1) k) [
      | inl later ↦
          get_or-set_other nexts p k next None (λ e. let over = later.1 in absurd (omega (arith, over, e)))
          ∙ follows k n later.1 lt short same
      | inr here ↦
          let one : k ≡ p = let under = here.1 in omega (arith, under, le) in
          let its : name ≡ n = at ∙ by one in
          ap (λ j. get_or (slice_set nexts p next) j None) one
          ∙ get_or-set_same nexts p next None inside
          ∙ is (subst IsShort (sym its) short)
          ∙ finds name (subst IsShort (sym its) short)
          ∙ ap₂ (λ (x : Name) j. first_from x (j + 1) ns) its (sym one)
    ]
  where
    by : k ≡ p → get_or ns p name ≡ n
    by one = get_or_default ns p name n within ∙ ap (λ j. get_or ns j n) (sym one) ∙ same

-- ---- the wants of a station, one after the other

-- the wants before a place are passed
abbrev pub passed_to : (Resume → Resume) → ℕ → List Resume → List Resume
passed_to f k rs = map f (take k rs) ++ drop k rs

-- That is so far as the next want that has the codes, or all are passed.
abbrev pub IsAt : (Resume → Resume) → (Name → Bool) → (before after : List Resume) → Option ℕ → Type 0
IsAt f t rs zs None = zs ≡ map f rs
IsAt f t rs zs (Some p) =
    (p < length rs) × ((d : Resume) → t (name_of (get_or rs p d)) ≡ true) × (zs ≡ passed_to f p rs)

either_false : (a b : Bool) → (a || b) ≡ false → (a ≡ false) × (b ≡ false)
either_false true b e = absurd (false≢true (sym e))
either_false false b e = (refl, e)

-- the first of some that has the codes, behind those that stay as they are
pub record FoundAt (f : Resume → Resume) (t : Name → Bool) (from p : ℕ) (rs : List Resume) : Type 0 where
  pub index : ℕ
  pub is : p ≡ from + index
  pub within : index < length rs
  pub here : (d : Resume) → t (name_of (get_or rs index d)) ≡ true
  pub same : passed_to f index rs ≡ rs

module _ (f : Resume → Resume) (t : Name → Bool)
    (stays : (r : Resume) → r.is_any ≡ false → t (name_of r) ≡ false → f r ≡ r) where
  found : (from p : ℕ) (rs : List Resume) → list_any (λ r. r.is_any) rs ≡ false
      → position_from t from (names rs) ≡ Some p → FoundAt f t from p rs
  found from p [] none is = absurd cc
  found from p (r ∷ rs) none is = by (λ none e. found (from + 1) p rs none e) (t (name_of r)) refl is
    where
      by : (list_any (λ r. r.is_any) rs ≡ false → position_from t (from + 1) (names rs) ≡ Some p
          → FoundAt f t (from + 1) p rs) → (b : Bool) → t (name_of r) ≡ b
          → cond b (Some from) (position_from t (from + 1) (names rs)) ≡ Some p → FoundAt f t from p (r ∷ rs)
      by rest true passes e = record {
        index = 0;
        is = let at : from ≡ p = cc in omega (arith, at);
        within = omega arith;
        here = λ d. passes;
        same = refl;
      }
      by rest false fails e =
          let each = either_false r.is_any (list_any (λ r. r.is_any) rs) none in
          let later = rest each.1 e in
          record {
            index = suc later.index;
            is = let at = later.is in omega (arith, at);
            within = let at = later.within in omega (arith, at);
            here = later.here;
            same = ap₂ (λ (x : Resume) xs. x ∷ xs) (stays r each.0 fails) later.same;
          }

  missed : (from : ℕ) (rs : List Resume) → list_any (λ r. r.is_any) rs ≡ false
      → position_from t from (names rs) ≡ None → map f rs ≡ rs
  missed from [] none is = refl
  missed from (r ∷ rs) none is = by (λ none e. missed (from + 1) rs none e) (t (name_of r)) refl is
    where
      by : (list_any (λ r. r.is_any) rs ≡ false → position_from t (from + 1) (names rs) ≡ None → map f rs ≡ rs)
          → (b : Bool) → t (name_of r) ≡ b → cond b (Some from) (position_from t (from + 1) (names rs)) ≡ None
          → map f (r ∷ rs) ≡ r ∷ rs
      by rest true passes e = absurd cc
      by rest false fails e =
          let each = either_false r.is_any (list_any (λ r. r.is_any) rs) none in
          ap₂ (λ (x : Resume) xs. x ∷ xs) (stays r each.0 fails) (rest each.1 e)

  nothing_passed : (k : ℕ) → passed_to f k [] ≡ []
  nothing_passed zero = refl
  nothing_passed (suc k) = refl

  joined : (a i : ℕ) (rs : List Resume) → map f (take a rs) ++ passed_to f i (drop a rs) ≡ passed_to f (a + i) rs
  joined zero i rs = ap (λ k. passed_to f k rs) (sym (zero-add i))
  joined (suc a) i [] = nothing_passed i ∙ sym (nothing_passed (suc a + i))
  joined (suc a) i (r ∷ rs) =
      ap (λ (xs : List Resume). f r ∷ xs) (joined a i rs)
      ∙ ap (λ k. passed_to f k (r ∷ rs)) (let same : suc (a + i) ≡ suc a + i = omega arith in same)

  any_behind : (a : ℕ) (rs : List Resume) → list_any (λ r. r.is_any) rs ≡ false
      → list_any (λ r. r.is_any) (drop a rs) ≡ false
  any_behind zero rs none = none
  any_behind (suc a) [] none = refl
  any_behind (suc a) (r ∷ rs) none =
      any_behind a rs (either_false r.is_any (list_any (λ r. r.is_any) rs) none).1

  all_passed : (a : ℕ) (rs : List Resume) → map f (drop a rs) ≡ drop a rs → passed_to f a rs ≡ map f rs
  all_passed zero rs same = sym same
  all_passed (suc a) [] same = refl
  all_passed (suc a) (r ∷ rs) same = ap (λ (xs : List Resume). f r ∷ xs) (all_passed a rs same)

  behind_at : (a i : ℕ) (rs : List Resume) (d : Resume) → get_or (drop a rs) i d ≡ get_or rs (a + i) d
  behind_at a i rs d = get_or-drop a rs i d

  -- from a place on, up to which all are passed, to the next
  pub at_next : (a : ℕ) (rs zs : List Resume) (o : Option ℕ) → a ≤ length rs → list_any (λ r. r.is_any) rs ≡ false
      → zs ≡ passed_to f a rs → o ≡ position_from t a (drop a (names rs)) → IsAt f t rs zs o
  at_next a rs zs None within none so is =
      so ∙ all_passed a rs (missed a (drop a rs) (any_behind a rs none)
      (ap (position_from t a) (sym (drop-map name_of a rs)) ∙ sym is))
  at_next a rs zs (Some p) within none so is =
      let there = found a p (drop a rs) (any_behind a rs none)
      (ap (position_from t a) (sym (drop-map name_of a rs)) ∙ sym is) in
      let at : p ≡ a + there.index = there.is in (
        let inside = there.within in omega (arith, at, inside, length-drop a rs),
        (λ d. ap (λ k. t (name_of (get_or rs k d))) at
            ∙ ap (λ (r : Resume). t (name_of r)) (sym (behind_at a there.index rs d)) ∙ there.here d),
        so ∙ ap (λ (xs : List Resume). map f (take a rs) ++ xs) (sym there.same) ∙ joined a there.index rs
            ∙ ap (λ k. passed_to f k rs) (sym at),
      )

  -- the next one is behind that place
  pub next_behind : (a : ℕ) (rs : List Resume) (o : Option ℕ) → a < length rs → list_any (λ r. r.is_any) rs ≡ false
      → o ≡ position_from t (a + 1) (drop (a + 1) (names rs))
      → length rs - unwrap_or o (length rs) < length rs - a
  next_behind a rs None within none is = omega (arith, within)
  next_behind a rs (Some p) within none is =
      let there = found (a + 1) p (drop (a + 1) rs) (any_behind (a + 1) rs none)
      (ap (position_from t (a + 1)) (sym (drop-map name_of (a + 1) rs)) ∙ sym is) in
      let at : p ≡ a + 1 + there.index = there.is in
      omega (arith, within, at)

-- what is read at a place up to which all are passed
pub here_stays : (f : Resume → Resume) (p : ℕ) (rs : List Resume) (d : Resume)
    → get_or (passed_to f p rs) p d ≡ get_or rs p d
here_stays f zero rs d = refl
here_stays f (suc p) [] d = refl
here_stays f (suc p) (r ∷ rs) d = here_stays f p rs d

-- ---- a packet of a station

-- it passes no want of other codes
pub others_stay : (number : Option ℕ) (x : Facts) (r : Resume) → r.is_any ≡ false
    → is_same_name (name_of r) (name_in x) ≡ false → passed number (Some x) r ≡ r
others_stay number x r none other =
    rw (none, sym (named_alike r x) ∙ other) refl

-- and its own want
pub own_passed : (number : Option ℕ) (x : Facts) (r : Resume) (last : Option ReachedValue)
    → is_same_name (name_of r) (name_in x) ≡ true → last ≡ option_map (reached_at (Some x)) number
    → record r { last = last } ≡ passed number (Some x) r
own_passed number x r last own is =
    by (r.is_any || has_codes r.network r.station (Some x)) (ap (λ b. r.is_any || b) (sym (named_alike r x) ∙ own)
    ∙ any_or r.is_any)
  where
    any_or : (b : Bool) → (b || true) ≡ true
    any_or true = refl
    any_or false = refl

    by : (b : Bool) → b ≡ true
        → record r { last = last } ≡ cond b (record r { last = option_map (reached_at (Some x)) number }) r
    by true e = ap (λ l. record r { last = l }) is
    by false e = absurd (false≢true e)

-- a record that can't be read is of no station
pub nobody_passed : (number : Option ℕ) (rs : List Resume) → list_any (λ r. r.is_any) rs ≡ false
    → rs ≡ map (passed number None) rs
nobody_passed number [] none = refl
nobody_passed number (r ∷ rs) none =
    let each = either_false r.is_any (list_any (λ r. r.is_any) rs) none in
    ap₂ (λ (x : Resume) xs. x ∷ xs) (rw each.0 refl) (nobody_passed number rs each.1)
