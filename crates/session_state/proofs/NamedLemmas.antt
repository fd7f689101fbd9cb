-- Entries and the lists of patterns beside them: what a change of one or the other is to the named stations.
use Rattle.std.proofs.Common.{◌≡◌, ◌≢◌, ◌<◌, ◌≤◌, ◌+◌, ℕ, zero, suc, true, false, nat_lt, List, [], ◌∷◌, ◌++◌, length}
use Rattle.std.proofs.Common.{map, drop, take, replicate, slice_get, slice_set, Option, Some, None, IfSome, option_map}
use Rattle.std.proofs.Common.{unwrap_or, is_some, get_or, Bool, refl, sym, ap, ap₂, subst, ◌∙◌, arith, length-set}
use Rattle.std.specs.Prelude.{◌||◌, ◌↔◌, Result, Ok, Err, IsOk, OnOk, OnErr}
use Rattle.std.specs.List.{list_any, position, position_or_len}
use Rattle.std.proofs.lemmas.Grind.{common_steps}
use Rattle.std.proofs.lemmas.List.{length-map}
use Rattle.std.proofs.lemmas.List.Sums.{sum_by-cons}
use Rattle.std.proofs.lemmas.List.Sums.{fails_before_first}
use Rattle.std.proofs.lemmas.Option.{get_or_from_slice_get, same_Some, slice_get_within}
use Rattle.protocol.specs.Catalog.{Config, Station, has_codes}
use Rattle.catalog.specs.Places.{station_at}
use Rattle.protocol.specs.Pattern.{Pattern}
use Rattle.protocol.proofs.FoundLemmas.{both}
use Rattle.selector.specs.Pools.{list_at, together, HasRoom}
use Rattle.sl_lines.specs.declared.actions.Action.{Action}
use Rattle.session_state.specs.declared.choices.Cursor.{Cursor}
use Rattle.session_state.specs.declared.negotiation.Change.{Change}
use Rattle.session_state.specs.declared.negotiation.Change.TheVariants.{Done, Refused}
use Rattle.session_state.specs.declared.choices.Entry.{Entry}
use Rattle.session_state.specs.NamedValues.{Choice, NamedValue, IsNamed, choice_of, choices_with, entry_of}
use Rattle.session_state.specs.Choices.{has_action, is_entry_of_station, is_of_station, kept_at, passed_at}
use Rattle.session_state.specs.Changes.{all_patterns, has_room, widened, widening}
use Rattle.session_state.proofs.SameLemmas.{has-own}

-- a list and those after the first
list-after : (lists : List (List Pattern)) (i : ℕ) → list_at (drop 1 lists) i ≡ list_at lists (suc i)
list-after [] i = refl
list-after (l ∷ lists) i = refl

pub with-length : (es : List Entry) (lists : List (List Pattern)) → length (choices_with es lists) ≡ length es
with-length [] lists = refl
with-length (e ∷ es) lists = ap suc (with-length es (drop 1 lists))

pub with-get : (es : List Entry) (lists : List (List Pattern)) (i : ℕ)
    → slice_get (choices_with es lists) i ≡ option_map (λ e. choice_of e (list_at lists i)) (slice_get es i)
with-get [] lists i = refl
with-get (e ∷ es) lists zero = refl
with-get (e ∷ es) lists (suc i) = with-get es (drop 1 lists) i
    ∙ ap (λ l. option_map (λ x. choice_of x l) (slice_get es i)) (list-after lists i)

-- the entries that the named stations have
pub with-entries : (es : List Entry) (lists : List (List Pattern)) → es ≡ map entry_of (choices_with es lists)
with-entries [] lists = refl
with-entries (e ∷ es) lists = ap (λ xs. e ∷ xs) (with-entries es (drop 1 lists))

-- one entry is replaced
pub with-entry : (es : List Entry) (lists : List (List Pattern)) (i : ℕ) (e : Entry)
    → choices_with (slice_set es i e) lists ≡ slice_set (choices_with es lists) i (choice_of e (list_at lists i))
with-entry [] lists i e = refl
with-entry (x ∷ es) lists zero e = refl
with-entry (x ∷ es) lists (suc i) e =
    ap (λ cs. choice_of x (list_at lists 0) ∷ cs) (with-entry es (drop 1 lists) i e
    ∙ ap (λ l. slice_set (choices_with es (drop 1 lists)) i (choice_of e l)) (list-after lists i))

-- one list is replaced
drop-set : (lists : List (List Pattern)) (i : ℕ) (l : List Pattern)
    → drop 1 (slice_set lists (suc i) l) ≡ slice_set (drop 1 lists) i l
drop-set [] i l = refl
drop-set (x ∷ lists) i l = refl

head-set : (lists : List (List Pattern)) (i : ℕ) (l : List Pattern)
    → list_at (slice_set lists (suc i) l) 0 ≡ list_at lists 0
head-set [] i l = refl
head-set (x ∷ lists) i l = refl

less : (lists : List (List Pattern)) (i : ℕ) → suc i < length lists → i < length (drop 1 lists)
less [] i h = absurd (omega arith)
less (x ∷ lists) i h = omega arith

pub with-list : (es : List Entry) (lists : List (List Pattern)) (i : ℕ) (l : List Pattern) (c : Choice)
    → i < length lists → slice_get (choices_with es lists) i ≡ Some c
    → choices_with es (slice_set lists i l) ≡ slice_set (choices_with es lists) i (record c { patterns = l })
with-list [] lists i l c h e = absurd cc
with-list (x ∷ es) [] zero l c h e = absurd (omega arith)
with-list (x ∷ es) (y ∷ lists) zero l c h e = ap (λ o. choice_of (entry_of (unwrap_or o c)) l ∷ choices_with es lists) e
with-list (x ∷ es) lists (suc i) l c h e =
    ap₂ (λ p cs. choice_of x p ∷ cs) (head-set lists i l) (ap (choices_with es) (drop-set lists i l)
    ∙ with-list es (drop 1 lists) i l c (less lists i h) e)

-- an entry more
pub with-push : (es : List Entry) (lists : List (List Pattern)) (e : Entry)
    → choices_with (es ++ e ∷ []) lists ≡ choices_with es lists ++ choice_of e (list_at lists (length es)) ∷ []
with-push [] lists e = refl
with-push (x ∷ es) lists e =
    ap (λ cs. choice_of x (list_at lists 0) ∷ cs) (with-push es (drop 1 lists) e
    ∙ ap (λ l. choices_with es (drop 1 lists) ++ choice_of e l ∷ []) (list-after lists (length es)))

-- ---- how many patterns there are

empty-sum : (lists : List (List Pattern)) → ((i : ℕ) → list_at lists i ≡ []) → together lists ≡ 0
empty-sum [] none = refl
empty-sum (l ∷ lists) none = let here : l ≡ [] = none 0 in let rest : together lists ≡ 0 =
    empty-sum lists (λ i. none (suc i)) in rw (here, rest) refl

-- those of all lists are those of the named stations, where the other lists are empty
pub with-all : (es : List Entry) (lists : List (List Pattern)) → ((i : ℕ) → length es ≤ i → list_at lists i ≡ [])
    → together lists ≡ all_patterns (choices_with es lists)
with-all [] lists rest = empty-sum lists (λ i. rest i (omega arith))
with-all (e ∷ es) [] rest = nothing (e ∷ es)
  where
    nothing : (xs : List Entry) → 0 ≡ all_patterns (choices_with xs [])
    nothing [] = refl
    nothing (x ∷ xs) = nothing xs
with-all (e ∷ es) (l ∷ lists) rest =
    sum_by-cons length l lists
    ∙ ap (λ n. length l + n) (with-all es lists (λ i h. rest (suc i) (omega (arith, h))))
    ∙ sym (sum_by-cons (λ c. length c.patterns) (choice_of e l) (choices_with es lists))

-- ---- what is found among them

pub any-entries : (cs : List Choice) → list_any (λ e. is_some e.action) (map entry_of cs) ≡ list_any has_action cs
any-entries [] = refl
any-entries (c ∷ cs) = ap (λ b. is_some c.action || b) (any-entries cs)

position-or-len-entries : (config : Config) (s : Station) (cs : List Choice)
    → position_or_len (is_entry_of_station config s) (map entry_of cs) ≡ position_or_len (is_of_station config s) cs
position-or-len-entries config s [] = refl
position-or-len-entries config s (c ∷ cs) =
    both (is_of_station config s c) (λ y. rw y refl) (λ n. rw n (ap (λ k. 1 + k) (position-or-len-entries config s cs)))

pub position-entries : (config : Config) (s : Station) (cs : List Choice)
    → position (is_entry_of_station config s) (map entry_of cs) ≡ position (is_of_station config s) cs
position-entries config s cs = rw (position-or-len-entries config s cs, length-map cs entry_of) refl

-- ---- what is kept of a list

other-list : (lists : List (List Pattern)) (i j : ℕ) (l : List Pattern) → i ≢ j
    → list_at (slice_set lists i l) j ≡ list_at lists j
other-list [] i j l apart = refl
other-list (x ∷ lists) zero zero l apart = absurd (apart refl)
other-list (x ∷ lists) zero (suc j) l apart = refl
other-list (x ∷ lists) (suc i) zero l apart = refl
other-list (x ∷ lists) (suc i) (suc j) l apart = other-list lists i j l (λ e. apart (ap suc e))

-- a change of one list of a named station
pub naming-list : (es : List Entry) (current : Option ℕ) (lists : List (List Pattern)) (room i : ℕ) (l : List Pattern)
    → IsNamed es current lists room → i < length es → IsNamed es current (slice_set lists i l) room
naming-list es current lists room i l is within = record {
  count = length-set lists i l ∙ is.count;
  few = is.few;
  spare = is.spare;
  within = is.within;
  rest = λ j h. other-list lists i j l (λ e. absurd (omega (arith, e, h, within))) ∙ is.rest j h;
}

-- a change of one entry
pub naming-entry : (es : List Entry) (current : Option ℕ) (lists : List (List Pattern)) (room i : ℕ) (e : Entry)
    → IsNamed es current lists room → IsNamed (slice_set es i e) current lists room
naming-entry es current lists room i e is =
    let same : length (slice_set es i e) ≡ length es = length-set es i e in
    record {
      count = is.count;
      few = omega (arith, same, is.few);
      spare = is.spare;
      within = subst (λ n. IfSome current (λ j. j < n)) (sym same) is.within;
      rest = λ j h. is.rest j (omega (arith, same, h));
    }

-- ---- named stations by their fields

abbrev pub naming : List Entry → Option ℕ → List (List Pattern) → NamedValue
naming es current lists = record { choices = choices_with es lists; current = current }

pub below : (es : List Entry) (current : Option ℕ) (lists : List (List Pattern)) (i : ℕ) (n : NamedValue)
    → naming es current lists ≡ n → i < length n.choices → i < length es
below es current lists i n e h =
    subst (λ k. i < k) (ap (λ (x : NamedValue). length x.choices) (sym e) ∙ with-length es lists) h

pub below-all : (es : List Entry) (current : Option ℕ) (lists : List (List Pattern)) (room i : ℕ) (n : NamedValue)
    → IsNamed es current lists room → naming es current lists ≡ n → i < length n.choices → i < 255
below-all es current lists room i n is e h = let b : i < length es =
    below es current lists i n e h in let f : length es ≤ 255 = is.few in omega (arith, b, f)

pub current-below : (es : List Entry) (current : Option ℕ) (lists : List (List Pattern)) (room i : ℕ) (n : NamedValue)
    → IsNamed es current lists room → naming es current lists ≡ n → current ≡ Some i → i < length n.choices
current-below es current lists room i n is e at =
    let b : i < length es = subst (λ o. IfSome o (λ j. j < length es)) at is.within in
    subst (λ k. i < k) (sym (with-length es lists) ∙ ap (λ (x : NamedValue). length x.choices) e) b

-- the patterns of a named station
some-patterns : (o : Option Entry) (l : List Pattern) (c : Choice) → option_map (λ e. choice_of e l) o ≡ Some c
    → c.patterns ≡ l
some-patterns None l c e = absurd cc
some-patterns (Some x) l c e = sym (ap (λ o. (unwrap_or o c).patterns) e)

pub patterns-at : (es : List Entry) (current : Option ℕ) (lists : List (List Pattern)) (i : ℕ) (n : NamedValue)
    (c : Choice) → naming es current lists ≡ n → slice_get n.choices i ≡ Some c → c.patterns ≡ list_at lists i
patterns-at es current lists i n c e there =
    some-patterns (slice_get es i) (list_at lists i) c
    (sym (with-get es lists i) ∙ ap (λ (x : NamedValue). slice_get x.choices i) e ∙ there)

-- what stands at a place of a list, and the station of an entry
pub there : {X : Type 0} (xs : List X) (i : ℕ) → i < length xs → (x : X) × (slice_get xs i ≡ Some x)
there [] i h = absurd (omega arith)
there (x ∷ xs) zero h = (x, refl)
there (x ∷ xs) (suc i) h = there xs i (omega arith)

pub station-there : (es : List Entry) (lists : List (List Pattern)) (i : ℕ) (e : Entry) → slice_get es i ≡ Some e
    → slice_get (choices_with es lists) i ≡ Some (choice_of e (list_at lists i))
station-there es lists i e h = with-get es lists i ∙ ap (option_map (λ x. choice_of x (list_at lists i))) h

-- ---- a new client's

empty-replicate : (n i : ℕ) → list_at (replicate n []) i ≡ []
empty-replicate zero i = refl
empty-replicate (suc n) zero = refl
empty-replicate (suc n) (suc i) = empty-replicate n i

abbrev empty-lists : ℕ → List (List Pattern)
empty-lists n = replicate n []

length-replicate : (n : ℕ) → length (empty-lists n) ≡ n
length-replicate zero = refl
length-replicate (suc n) = ap suc (length-replicate n)

pub naming-new : (es : List Entry) (lists : List (List Pattern)) (room : ℕ) (e : Entry) → es ≡ e ∷ []
    → lists ≡ replicate 255 [] → room ≡ 255 → IsNamed es (Some 0) lists room
naming-new es lists room e only empty spare =
    let one : length es ≡ 1 = ap length only in
    let all : length lists ≡ 255 = ap length empty ∙ length-replicate 255 in
    record {
      count = all;
      few = omega (arith, one);
      spare = omega (arith, spare);
      within = omega (arith, one);
      rest = λ i h. ap (λ ls. list_at ls i) empty ∙ empty-replicate 255 i;
    }

-- ---- no station in place of the only one

at-set : (lists : List (List Pattern)) (l : List Pattern) → l ≡ [] → list_at (slice_set lists 0 l) 0 ≡ []
at-set [] l e = refl
at-set (x ∷ lists) l e = e

pub naming-none : (es es' : List Entry) (current : Option ℕ) (lists lists' : List (List Pattern)) (room room' : ℕ)
    → IsNamed es current lists room → length es ≡ 1 → es' ≡ [] → lists' ≡ slice_set lists 0 [] → room' ≡ room
    → IsNamed es' None lists' room'
naming-none es es' current lists lists' room room' is one none cleared same =
    let all : length lists ≡ 255 = is.count in
    let zero_ : length es' ≡ 0 = ap length none in
    let spare : 255 ≤ room = is.spare in
    record {
      count = ap length cleared ∙ length-set lists 0 [] ∙ all;
      few = omega (arith, zero_);
      spare = omega (arith, spare, same);
      within = tt;
      rest = λ i h. ap (λ ls. list_at ls i) cleared ∙ each i;
    }
  where
    each : (i : ℕ) → list_at (slice_set lists 0 []) i ≡ []
    each zero = at-set lists [] refl
    each (suc i) = other-list lists 0 (suc i) [] (λ e. absurd (omega (arith, e))) ∙ is.rest (suc i) (omega (arith, one))

-- ---- what is written back to a vector of as many entries

refilled : (len : ℕ) (es new : List Entry) → len ≡ length es → length new ≡ length es
    → take len (new ++ drop (length new) es) ≡ new
refilled len es new all same = grind (arith, common_steps)

pub written : (len : ℕ) (es new : List Entry) (i : ℕ) (f : Entry → Entry) → len ≡ length es
    → ((e : Entry) → slice_get es i ≡ Some e → new ≡ slice_set es i (f e)) → (e : Entry) → slice_get es i ≡ Some e
    → take len (new ++ drop (length new) es) ≡ slice_set es i (f e)
written len es new i f all made e at = refilled len es new all (ap length (made e at) ∙ length-set es i (f e))
    ∙ made e at

pub written-first : (len : ℕ) (es new : List Entry) (e : Entry) → len ≡ length es → new ≡ slice_set es 0 e
    → take len (new ++ drop (length new) es) ≡ slice_set es 0 e
written-first len es new e all made = refilled len es new all (ap length made ∙ length-set es 0 e) ∙ made

-- ---- the only station is asked for something

alone-asked : (es : List Entry) (lists : List (List Pattern)) (e : Entry) → length es ≡ 1
    → choices_with (slice_set es 0 e) lists ≡ choice_of e (list_at lists 0) ∷ []
alone-asked [] lists e one = absurd (omega (arith, one))
alone-asked (x ∷ []) lists e one = refl
alone-asked (x ∷ y ∷ es) lists e one = absurd (omega (arith, one))

pub asked-alone : (es new : List Entry) (current : Option ℕ) (lists : List (List Pattern)) (n : NamedValue) (e : Entry)
    (c : Choice) → naming es current lists ≡ n → length n.choices ≡ 1 → slice_get n.choices 0 ≡ Some c
    → new ≡ slice_set es 0 e → naming new None lists ≡ record { choices = choice_of e c.patterns ∷ []; current = None }
asked-alone es new current lists n e c view one first made =
    let one' : length es ≡ 1 = sym (with-length es lists) ∙ ap (λ (x : NamedValue). length x.choices) view ∙ one in
    ap (λ xs. naming xs None lists) made
    ∙ ap (λ cs. record { choices = cs; current = None })
    (alone-asked es lists e one'
    ∙ ap (λ l. choice_of e l ∷ []) (sym (patterns-at es current lists 0 n c view first)))

-- ---- the changes of one station

pub list-changed : (es : List Entry) (current : Option ℕ) (lists new : List (List Pattern)) (room i : ℕ)
    (l : List Pattern) (n : NamedValue) (c : Choice) → IsNamed es current lists room → naming es current lists ≡ n
    → i < length n.choices → slice_get n.choices i ≡ Some c → new ≡ slice_set lists i l
    → naming es current new ≡ record n { choices = slice_set n.choices i (record c { patterns = l }) }
list-changed es current lists new room i l n c is view h at made =
    let b : i < 255 = below-all es current lists room i n is view h in
    let all : length lists ≡ 255 = is.count in
    let here : slice_get (choices_with es lists) i ≡ Some c = ap (λ (x : NamedValue). slice_get x.choices i) view
    ∙ at in
    ap (naming es current) made
    ∙ ap (λ cs. record { choices = cs; current = current }) (with-list es lists i l c (omega (arith, b, all)) here)
    ∙ ap (λ (x : NamedValue). record x { choices = slice_set x.choices i (record c { patterns = l }) }) view

pub kept-there : (es new : List Entry) (current : Option ℕ) (lists : List (List Pattern)) (i first : ℕ) (n : NamedValue)
    → naming es current lists ≡ n → i < length n.choices
    → ((e : Entry) → slice_get es i ≡ Some e → new ≡ slice_set es i (record e { first = first }))
    → naming new current lists ≡ record n { choices = kept_at i first n.choices (slice_get n.choices i) }
kept-there es new current lists i first n view h made =
    let e = there es i (below es current lists i n view h) in
    let here : slice_get (choices_with es lists) i
    ≡ Some (choice_of e.0 (list_at lists i)) = station-there es lists i e.0 e.1 in
    ap (λ xs. naming xs current lists) (made e.0 e.1)
    ∙ ap (λ cs. record { choices = cs; current = current }) (with-entry es lists i (record e.0 { first = first })
    ∙ sym (ap (kept_at i first (choices_with es lists)) here))
    ∙ ap (λ (x : NamedValue). record x { choices = kept_at i first x.choices (slice_get x.choices i) }) view

pub passed-there : (es new : List Entry) (current : Option ℕ) (lists : List (List Pattern)) (i : ℕ) (cursor : Cursor)
    (n : NamedValue) → naming es current lists ≡ n → i < length n.choices
    → ((e : Entry) → slice_get es i ≡ Some e → new ≡ slice_set es i (record e { cursor = cursor }))
    → naming new current lists ≡ record n { choices = passed_at i cursor n.choices (slice_get n.choices i) }
passed-there es new current lists i cursor n view h made =
    let e = there es i (below es current lists i n view h) in
    let here : slice_get (choices_with es lists) i
    ≡ Some (choice_of e.0 (list_at lists i)) = station-there es lists i e.0 e.1 in
    ap (λ xs. naming xs current lists) (made e.0 e.1)
    ∙ ap (λ cs. record { choices = cs; current = current }) (with-entry es lists i (record e.0 { cursor = cursor })
    ∙ sym (ap (passed_at i cursor (choices_with es lists)) here))
    ∙ ap (λ (x : NamedValue). record x { choices = passed_at i cursor x.choices (slice_get x.choices i) }) view

pub acted-there : (es new : List Entry) (current : Option ℕ) (lists : List (List Pattern)) (i : ℕ) (action : Action)
    (n : NamedValue) (c : Choice) → naming es current lists ≡ n → i < length n.choices → slice_get n.choices i ≡ Some c
    → ((e : Entry) → slice_get es i ≡ Some e → new ≡ slice_set es i (record e { action = Some action }))
    → naming new current lists ≡ record n { choices = slice_set n.choices i (record c { action = Some action }) }
acted-there es new current lists i action n c view h at made =
    let e = there es i (below es current lists i n view h) in
    let here : choice_of e.0 (list_at lists i)
    ≡ c =
    same_Some _ c (sym (station-there es lists i e.0 e.1) ∙ ap (λ (x : NamedValue). slice_get x.choices i) view
    ∙ at) in
    ap (λ xs. naming xs current lists) (made e.0 e.1)
    ∙ ap (λ cs. record { choices = cs; current = current }) (with-entry es lists i (record e.0 { action = Some action })
    ∙ ap (λ (x : Choice). slice_set (choices_with es lists) i (record x { action = Some action })) here)
    ∙ ap (λ (x : NamedValue). record x { choices = slice_set x.choices i (record c { action = Some action }) }) view

-- ---- a pattern more

room-has : (lists : List (List Pattern)) (i : ℕ) → HasRoom lists i → has_room (together lists) (list_at lists i) ≡ true
room-has lists i room =
    let own : length (list_at lists i) < 64 = room.own in
    let all : together lists < 1024 = room.all in
    let a : nat_lt (length (list_at lists i)) 64 ≡ true = grind (arith, own) in
    let b : nat_lt (together lists) 1024 ≡ true = grind (arith, all) in
    rw (a, b) refl

has-room : (lists : List (List Pattern)) (i : ℕ) → has_room (together lists) (list_at lists i) ≡ true → HasRoom lists i
has-room lists i e =
    both (nat_lt (length (list_at lists i)) 64)
    (λ a. both (nat_lt (together lists) 1024)
    (λ b. record { own = grind (arith, a); all = grind (arith, b) })
    (λ b. absurd (let f : false ≡ true = rw (a, b) at e in cc)))
    (λ a. absurd (let f : false ≡ true = rw a at e in cc))

pub added-naming : {A B : Type 0} (r : Result A B) (es : List Entry) (current : Option ℕ)
    (lists new : List (List Pattern)) (room i : ℕ) (p : Pattern)
    → OnOk r (new ≡ slice_set lists i (list_at lists i ++ p ∷ [])) → OnErr r (new ≡ lists)
    → IsNamed es current lists room → i < length es → IsNamed es current new room
added-naming (Ok u) es current lists new room i p ok err is h =
    subst (λ ls. IsNamed es current ls room) (sym ok)
    (naming-list es current lists room i (list_at lists i ++ p ∷ []) is h)
added-naming (Err u) es current lists new room i p ok err is h = subst (λ ls. IsNamed es current ls room) (sym err) is

widened-ok : {A B : Type 0} (r : Result A B) (lists new : List (List Pattern)) (i : ℕ) (p : Pattern)
    → (IsOk r ↔ HasRoom lists i) → OnOk r (new ≡ slice_set lists i (list_at lists i ++ p ∷ [])) → OnErr r (new ≡ lists)
    → new ≡ slice_set lists i (widened (together lists) (list_at lists i) p)
widened-ok (Ok u) lists new i p iff ok err = let y = room-has lists i (iff.0 refl) in rw y ok
widened-ok (Err u) lists new i p iff ok err =
    both (has_room (together lists) (list_at lists i))
    (λ y. absurd (let f : false ≡ true = iff.1 (has-room lists i y) in cc))
    (λ n. rw n (err ∙ sym (set-same lists i)))
  where
    set-same : (ls : List (List Pattern)) (k : ℕ) → slice_set ls k (list_at ls k) ≡ ls
    set-same [] k = refl
    set-same (l ∷ ls) zero = refl
    set-same (l ∷ ls) (suc k) = ap (λ xs. l ∷ xs) (set-same ls k)

-- what comes of an attempt to add one
abbrev pub change_of : {A B : Type 0} → Result A B → Change
change_of (Ok u) = Done
change_of (Err u) = Refused

pub widening-ok : {A B : Type 0} (r : Result A B) (lists : List (List Pattern)) (i : ℕ) → (IsOk r ↔ HasRoom lists i)
    → change_of r ≡ widening (together lists) (list_at lists i)
widening-ok (Ok u) lists i iff = let y = room-has lists i (iff.0 refl) in rw y refl
widening-ok (Err u) lists i iff =
    both (has_room (together lists) (list_at lists i))
    (λ y. absurd (let f : false ≡ true = iff.1 (has-room lists i y) in cc))
    (λ n. rw n refl)

-- the same of the named stations
pub all-named : (es : List Entry) (current : Option ℕ) (lists : List (List Pattern)) (room : ℕ) (n : NamedValue)
    → IsNamed es current lists room → naming es current lists ≡ n → together lists ≡ all_patterns n.choices
all-named es current lists room n is view = with-all es lists is.rest
    ∙ ap (λ (x : NamedValue). all_patterns x.choices) view

pub list-widened : {A B : Type 0} (r : Result A B) (es : List Entry) (current : Option ℕ)
    (lists new : List (List Pattern)) (room i : ℕ) (p : Pattern) (n : NamedValue) (c : Choice)
    → (IsOk r ↔ HasRoom lists i) → OnOk r (new ≡ slice_set lists i (list_at lists i ++ p ∷ [])) → OnErr r (new ≡ lists)
    → IsNamed es current lists room → naming es current lists ≡ n → i < length n.choices
    → slice_get n.choices i ≡ Some c
    → naming es current new ≡ record n {
      choices =
          slice_set n.choices i (record c { patterns = widened (all_patterns n.choices) c.patterns p });
    }
list-widened r es current lists new room i p n c iff ok err is view h at =
    list-changed es current lists new room i (widened (together lists) (list_at lists i) p) n c is view h at
    (widened-ok r lists new i p iff ok err)
    ∙ ap₂ (λ a ps. record n { choices = slice_set n.choices i (record c { patterns = widened a ps p }) })
    (all-named es current lists room n is view) (sym (patterns-at es current lists i n c view at))

pub list-widening : {A B : Type 0} (r : Result A B) (es : List Entry) (current : Option ℕ) (lists : List (List Pattern))
    (room i : ℕ) (n : NamedValue) (c : Choice) → (IsOk r ↔ HasRoom lists i) → IsNamed es current lists room
    → naming es current lists ≡ n → slice_get n.choices i ≡ Some c
    → change_of r ≡ widening (all_patterns n.choices) c.patterns
list-widening r es current lists room i n c iff is view at =
    widening-ok r lists i iff
    ∙ ap₂ widening (all-named es current lists room n is view) (sym (patterns-at es current lists i n c view at))

-- ---- which are there

-- the entries that named stations have
pub naming-entries : (es : List Entry) (current : Option ℕ) (lists : List (List Pattern)) (n : NamedValue)
    → naming es current lists ≡ n → es ≡ map entry_of n.choices
naming-entries es current lists n view =
    with-entries es lists ∙ ap (λ (x : NamedValue). map entry_of x.choices) view

-- a station that was not found is at no named station's place
pub not-named : (config : Config) (place : ℕ) (cs : List Choice)
    → position (is_of_station config (station_at config.entries place)) cs ≡ None
    → (i : ℕ) (c : Choice) → slice_get cs i ≡ Some c → c.station ≢ place
not-named config place cs none i c at same =
    let s : Station = station_at config.entries place in
    let p : Choice → Bool = is_of_station config s in
    let far : length cs ≤ position_or_len p cs = grind (arith, common_steps) in
    let within : i < length cs = slice_get_within cs i c at in
    let fails : p (get_or cs i c) ≡ false = fails_before_first p cs i c (omega arith) in
    let is : p c ≡ false = ap p (sym (get_or_from_slice_get cs i c c at)) ∙ fails in
    let own : p c ≡ true = ap (λ k. has_codes s.network s.code (station_at config.entries k)) same ∙ has-own s in
    absurd (let wrong : true ≡ false = sym own ∙ is in cc)
