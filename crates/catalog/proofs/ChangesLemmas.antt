-- Stations that two configurations open to the same addresses.
use Rattle.std.proofs.Common.{◌≡◌, ◌↔◌, ℕ, zero, suc, ◌+◌, ◌<◌, ◌≤◌, ◌==◌, nat_le, Bool, true, false, true≢false, not}
use Rattle.std.proofs.Common.{List, [], ◌∷◌, ◌++◌, length, map, filter, Option, Some, None, option_map, unwrap_or}
use Rattle.std.proofs.Common.{slice_get, refl, sym, ap, ap₂, ◌∙◌, subst, arith, add-one, eqb-true, length-append}
use Rattle.std.specs.List.{list_all}
use Rattle.std.proofs.lemmas.Bool.{and_parts, eqb-false}
use Rattle.std.proofs.lemmas.List.Folds.{list_all-append}
use Rattle.protocol.specs.Access.{Token}
use Rattle.protocol.specs.Catalog.{Config, Entry, Station, sees, view_of, is_same_but_for_access}
use Rattle.protocol.proofs.Configs.{configurations_compared}
use Rattle.protocol.proofs.FoundLemmas.{both}
use Rattle.catalog.specs.Changes.{are_same_tokens, is_same_token, is_same_list, has_same_list_in, is_changed_at}
use Rattle.catalog.specs.Changes.{places_below, changed_places, few, sees_at, is_same_answer, is_alike_at, is_alike}

-- ---- lists
number_self : (n : ℕ) → (n == n) ≡ true
number_self n = both (n == n) (λ y. y) (λ apart. absurd (eqb-false n n apart refl))

token_same : (t u : Token) → is_same_token t u ≡ true → t ≡ u
token_same t u e =
    let parts = and_parts _ _ e in
    let address : t.address ≡ u.address = eqb-true _ _ parts.0 in
    let mask : t.mask ≡ u.mask = eqb-true _ _ parts.1 in
    λ i. record { address = address i; mask = mask i }

token_self : (t : Token) → is_same_token t t ≡ true
token_self t = rw (number_self t.address, number_self t.mask) refl

tokens_same : (ts us : List Token) → are_same_tokens ts us ≡ true → ts ≡ us
tokens_same [] [] e = refl
tokens_same [] (u ∷ us) e = absurd (true≢false (sym e))
tokens_same (t ∷ ts) [] e = absurd (true≢false (sym e))
tokens_same (t ∷ ts) (u ∷ us) e =
    let parts = and_parts _ _ e in
    ap₂ (λ x xs. x ∷ xs) (token_same t u parts.0) (tokens_same ts us parts.1)

tokens_self : (ts : List Token) → are_same_tokens ts ts ≡ true
tokens_self [] = refl
tokens_self (t ∷ ts) = rw (token_self t, tokens_self ts) refl

pub tokens_decided : (b : Bool) (ts us : List Token) → (b ≡ true) ↔ (ts ≡ us) → b ≡ are_same_tokens ts us
tokens_decided b ts us decides =
    both b
    (λ y. y ∙ sym (subst (λ (xs : List Token). are_same_tokens ts xs ≡ true) (decides.0 y) (tokens_self ts)))
    (λ n. n ∙ sym (both (are_same_tokens ts us) (λ y. absurd (true≢false (sym (decides.1 (tokens_same ts us y)) ∙ n)))
    (λ m. m)))

list_same : (o p : Option (List Token)) → is_same_list o p ≡ true → o ≡ p
list_same None None e = refl
list_same None (Some us) e = absurd (true≢false (sym e))
list_same (Some ts) None e = absurd (true≢false (sym e))
list_same (Some ts) (Some us) e = ap Some (tokens_same ts us e)

-- ---- places
module _ (test : ℕ → Bool) where
  longer : (xs : List ℕ) (x : ℕ) → length xs ≤ length (xs ++ x ∷ [])
  longer xs x = omega (arith, length-append xs (x ∷ []))

  grows : (place : ℕ) → length (places_below test place) ≤ length (places_below test (suc place))
  grows place = both (test place)
      (λ y. rw y (longer (places_below test place) place))
      (λ n. rw n (omega arith))

  grows_to : (m n : ℕ) → m ≤ n → length (places_below test m) ≤ length (places_below test n)
  grows_to m zero h = let e : m ≡ zero = omega arith in rw e (omega arith)
  grows_to m (suc n) h =
      both (m == suc n)
      (λ y. let e : m ≡ suc n = eqb-true m (suc n) y in rw e (omega arith))
      (λ apart.
      let less : m ≤ n = omega (arith, eqb-false m (suc n) apart) in
      omega (arith, grows_to m n less, grows n))

  pub below_yes : (place : ℕ) → test place ≡ true
      → places_below test (place + 1) ≡ places_below test place ++ place ∷ []
  below_yes place y = rw (add-one place) (rw y refl)

  pub below_no : (place : ℕ) → test place ≡ false → places_below test (place + 1) ≡ places_below test place
  below_no place n = rw (add-one place) (rw n refl)

  -- what holds of all places that are told holds of each that the test says yes of
  pub told : (q : ℕ → Bool) (count place : ℕ) → place < count → test place ≡ true
      → list_all q (places_below test count) ≡ true → q place ≡ true
  told q zero place h y all = absurd (omega arith)
  told q (suc count) place h y all =
      both (place == count)
      (λ same.
      let e : place ≡ count = eqb-true place count same in
      let z : test count ≡ true = ap test (sym e) ∙ y in
      let parts = and_parts (list_all q (places_below test count)) (list_all q (count ∷ []))
      (sym (list_all-append q (places_below test count) (count ∷ [])) ∙ (rw z at all)) in
      ap q e ∙ (and_parts (q count) true parts.1).0)
      (λ apart.
      let less : place < count = omega (arith, eqb-false place count apart) in
      told q count place less y
      (both (test count)
      (λ z. (and_parts (list_all q (places_below test count)) (list_all q (count ∷ []))
      (sym (list_all-append q (places_below test count) (count ∷ [])) ∙ (rw z at all))).0)
      (λ n. rw n at all)))

too_many : (xs : List ℕ) → 257 ≤ length xs → few xs ≡ None
too_many xs h = let e : nat_le (length xs) 256 ≡ false = grind arith in rw e refl

pub few_enough : (xs : List ℕ) → length xs ≤ 256 → few xs ≡ Some xs
few_enough xs h = let e : nat_le (length xs) 256 ≡ true = grind arith in rw e refl

pub one_too_many : (es fs : List Entry) (place : ℕ) (xs : List ℕ) → xs ≡ places_below (is_changed_at es fs) place
    → length xs ≡ 256 → place < length es → is_changed_at es fs place ≡ true → few (changed_places es fs) ≡ None
one_too_many es fs place xs is full within y =
    let more = below_yes (is_changed_at es fs) place y in
    let count : length (places_below (is_changed_at es fs) (place + 1)) ≡ 257 =
    ap length more ∙ length-append _ (place ∷ []) ∙ ap (λ n. n + 1) (ap length (sym is) ∙ full) in
    too_many (changed_places es fs)
    (omega (arith, count, grows_to (is_changed_at es fs) (place + 1) (length es) (omega (arith, within))))

-- ---- addresses
same_answer : (a b : Bool) → is_same_answer a b ≡ true → a ≡ b
same_answer true b e = sym e
same_answer false true e = absurd (true≢false (sym e))
same_answer false false e = refl

-- the first station of a list, and the others
abbrev head_of : List Station → Station → Station
head_of [] s = s
head_of (x ∷ xs) s = x

abbrev tail_of : List Station → List Station
tail_of [] = []
tail_of (x ∷ xs) = xs

module _ (a : ℕ) (g h : Option (List Token)) where
  own_or_not : (o : Option (List Token)) → sees None g a ≡ sees None h a → sees o g a ≡ sees o h a
  own_or_not None e = e
  own_or_not (Some own) e = refl

  abbrev seen_in : Option (List Token) → Option Entry → Bool
  seen_in global o = unwrap_or (option_map (λ e. sees e.access global a) o) false

  same_list-same_answer : (o p : Option Entry) → has_same_list_in o p ≡ true → sees None g a ≡ sees None h a
      → seen_in g o ≡ seen_in h p
  same_list-same_answer None p e others = absurd (true≢false (sym e))
  same_list-same_answer (Some e) None same others = absurd (true≢false (sym same))
  same_list-same_answer (Some e) (Some f) same others =
      own_or_not e.access others ∙ ap (λ o. sees o h a) (list_same e.access f.access same)

  seen-same : (es fs : List Entry) → map (λ e. e.station) es ≡ map (λ e. e.station) fs
      → ((place : ℕ) → place < length es → seen_in g (slice_get es place) ≡ seen_in h (slice_get fs place))
      → map (λ e. e.station) (filter (λ e. sees e.access g a) es) ≡ map (λ e. e.station)
      (filter (λ e. sees e.access h a) fs)
  seen-same [] [] same each = refl
  seen-same [] (f ∷ fs) same each = absurd cc
  seen-same (e ∷ es) [] same each = absurd cc
  seen-same (e ∷ es) (f ∷ fs) same each =
      let station : e.station ≡ f.station = ap (λ ss. head_of ss e.station) same in
      let stations : map (λ e. e.station) es ≡ map (λ e. e.station) fs = ap tail_of same in
      let here : sees e.access g a ≡ sees f.access h a = each 0 (omega arith) in
      let rest = seen-same es fs stations (λ place within. each (suc place) (omega (arith, within))) in
      both (sees e.access g a)
      (λ y. let z : sees f.access h a ≡ true = sym here ∙ y in rw (y, z) (ap₂ (λ x xs. x ∷ xs) station rest))
      (λ n. let z : sees f.access h a ≡ false = sym here ∙ n in rw (n, z) rest)

pub same_view : (old new : Config) (places : List ℕ) (a : ℕ) → is_same_but_for_access old new ≡ true
    → places ≡ changed_places old.entries new.entries → is_alike old new places a ≡ true → view_of new a ≡ view_of old a
same_view old new places a same are alike =
    let parts = and_parts _ _ alike in
    let others : sees None old.access a ≡ sees None new.access a = same_answer _ _ parts.0 in
    let all : list_all (is_alike_at old new a) (changed_places old.entries new.entries) ≡ true =
    ap (list_all (is_alike_at old new a)) (sym are) ∙ parts.1 in
    let each : (place : ℕ) → place < length old.entries → sees_at old a place ≡ sees_at new a place = λ place within.
    both (has_same_list_in (slice_get old.entries place) (slice_get new.entries place))
    (λ y. same_list-same_answer a old.access new.access (slice_get old.entries place) (slice_get new.entries place) y
    others)
    (λ n. same_answer _ _ (told (is_changed_at old.entries new.entries) (is_alike_at old new a) (length old.entries)
    place within (ap not n) all)) in
    let compared = (configurations_compared old new).0 same in
    let stations = seen-same a old.access new.access old.entries new.entries compared.2 each in
    let title : new.title ≡ old.title = sym compared.0 in
    λ i. record { title = title i; stations = sym stations i }
