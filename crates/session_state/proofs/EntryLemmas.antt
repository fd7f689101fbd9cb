-- Named stations that are found by their places, and those whose requests may have a record ahead.
use Rattle.std.proofs.Common.{◌≡◌, ◌≢◌, ℕ, ◌<◌, ◌⊎◌, inl, inr, zero, suc, Bool, true, false, List, [], ◌∷◌, ◌++◌}
use Rattle.std.proofs.Common.{length, Option, Some, None, slice_get, slice_set, unwrap_or, refl, sym, ap, ◌∙◌}
use Rattle.std.proofs.Common.{arith, get_or, nat_lt}
use Rattle.std.specs.Prelude.{◌==◌, is_some}
use Rattle.std.specs.List.{position, position_or_len}
use Rattle.std.proofs.lemmas.Bool.Decides.{nat_tests}
use Rattle.std.proofs.lemmas.List.Sums.{position_or_len_is}
use Rattle.std.proofs.lemmas.Option.{get_or_from_slice_get, slice_get-get_or, slice_get_within}
use Rattle.protocol.proofs.FoundLemmas.{both}
use Rattle.session_state.specs.declared.choices.Entry.{Entry}
use Rattle.session_state.specs.declared.choices.Ahead.{Ahead}
use Rattle.session_state.specs.declared.choices.Ahead.TheVariants.{Nobody, Only, Several}
use Rattle.session_state.specs.NamedValues.{ahead_of}
use Rattle.session_state.specs.Entries.{IsIndexed, TellsAhead, after_pass}

-- ---- lists of which one item is another

-- what is there is the new item or an old one
set-at : {X : Type 0} (xs : List X) (i : ℕ) (v : X) (j : ℕ) (x : X) → slice_get (slice_set xs i v) j ≡ Some x
    → ((j ≡ i) × (x ≡ v)) ⊎ ((j ≢ i) × (slice_get xs j ≡ Some x))
set-at [] i v j x at = absurd cc
set-at (y ∷ xs) zero v zero x at = inl (refl, ap (λ o. unwrap_or o x) (sym at))
set-at (y ∷ xs) zero v (suc j) x at = inr (λ e. omega (arith, e), at)
set-at (y ∷ xs) (suc i) v zero x at = inr (λ e. omega (arith, e), at)
set-at (y ∷ xs) (suc i) v (suc j) x at =
    elim (set-at xs i v j x at) [
      | inl here ↦ inl (ap suc here.0, here.1)
      | inr there ↦ inr (λ e. there.0 (omega (arith, e)), there.1)
    ]

-- or, behind the last, one more
push-at : {X : Type 0} (xs : List X) (v : X) (j : ℕ) (x : X) → slice_get (xs ++ v ∷ []) j ≡ Some x
    → ((j ≡ length xs) × (x ≡ v)) ⊎ (slice_get xs j ≡ Some x)
push-at [] v zero x at = inl (refl, ap (λ o. unwrap_or o x) (sym at))
push-at [] v (suc j) x at = absurd cc
push-at (y ∷ xs) v zero x at = inr at
push-at (y ∷ xs) v (suc j) x at =
    elim (push-at xs v j x at) [
      | inl here ↦ inl (ap suc here.0, here.1)
      | inr there ↦ inr there
    ]

no-ahead : (o : Option ℕ) → false ≡ is_some o → o ≡ None
no-ahead None e = refl
no-ahead (Some k) e = absurd cc

-- ---- an entry that is changed

pub indexed-set : (es : List Entry) (indexes : List ℕ) (i : ℕ) (e f : Entry) → IsIndexed es indexes
    → slice_get es i ≡ Some e → f.station ≡ e.station → IsIndexed (slice_set es i f) indexes
indexed-set es indexes i e f indexed there same = λ j k x at kept.
    elim (set-at es i f j x at) [
      | inl here ↦
          let place : x.station ≡ e.station = ap (λ (y : Entry). y.station) here.1 ∙ same in
          indexed i k e there (ap (slice_get indexes) (sym place) ∙ kept) ∙ sym here.0
      | inr other ↦ indexed j k x other.1 kept
    ]

pub tells-set : (a : Ahead) (es : List Entry) (i : ℕ) (e f : Entry) → TellsAhead a es → slice_get es i ≡ Some e
    → f.cursor ≡ e.cursor → TellsAhead a (slice_set es i f)
tells-set Nobody es i e f tells there same = λ j x at.
    elim (set-at es i f j x at) [
      | inl here ↦ ap (λ (y : Entry). ahead_of y.cursor) here.1 ∙ ap ahead_of same ∙ tells i e there
      | inr other ↦ tells j x other.1
    ]
tells-set (Only k) es i e f tells there same = λ j x apart at.
    elim (set-at es i f j x at) [
      | inl here ↦
          ap (λ (y : Entry). ahead_of y.cursor) here.1 ∙ ap ahead_of same
          ∙ tells i e (λ s. apart (here.0 ∙ s)) there
      | inr other ↦ tells j x apart other.1
    ]
tells-set Several es i e f tells there same = tt

pub tells-pass : (a : Ahead) (es : List Entry) (i : ℕ) (f : Entry) (has : Bool) → TellsAhead a es
    → has ≡ is_some (ahead_of f.cursor) → TellsAhead (after_pass a i has) (slice_set es i f)
tells-pass Nobody es i f true tells is = λ j x apart at.
    elim (set-at es i f j x at) [ inl here ↦ absurd (apart here.0) | inr other ↦ tells j x other.1 ]
tells-pass Nobody es i f false tells is = λ j x at.
    elim (set-at es i f j x at) [
      | inl here ↦ ap (λ (y : Entry). ahead_of y.cursor) here.1 ∙ no-ahead (ahead_of f.cursor) is
      | inr other ↦ tells j x other.1
    ]
tells-pass (Only k) es i f true tells is = both (k == i)
    (λ y. let same : k ≡ i = grind (arith, nat_tests) in
    rw y (λ j x apart at. elim (set-at es i f j x at) [
      | inl here ↦ absurd (apart here.0)
      | inr other ↦ tells j x (λ e. other.0 (e ∙ same)) other.1
    ]))
    (λ n. rw n tt)
tells-pass (Only k) es i f false tells is = both (k == i)
    (λ y. let same : k ≡ i = grind (arith, nat_tests) in
    rw y (λ j x at. elim (set-at es i f j x at) [
      | inl here ↦ ap (λ (z : Entry). ahead_of z.cursor) here.1 ∙ no-ahead (ahead_of f.cursor) is
      | inr other ↦ tells j x (λ e. other.0 (e ∙ same)) other.1
    ]))
    (λ n. rw n (λ j x apart at. elim (set-at es i f j x at) [
      | inl here ↦ ap (λ (z : Entry). ahead_of z.cursor) here.1 ∙ no-ahead (ahead_of f.cursor) is
      | inr other ↦ tells j x apart other.1
    ]))
tells-pass Several es i f has tells is = tt

-- ---- one more, or another in place of the only one

pub indexed-push : (es : List Entry) (indexes : List ℕ) (f : Entry) (n : ℕ) → IsIndexed es indexes
    → ((i : ℕ) (e : Entry) → slice_get es i ≡ Some e → e.station ≢ f.station) → n ≡ length es
    → IsIndexed (es ++ f ∷ []) (slice_set indexes f.station n)
indexed-push es indexes f n indexed anew is = λ j k x at kept.
    elim (push-at es f j x at) [
      | inl here ↦
          let place : x.station ≡ f.station = ap (λ (y : Entry). y.station) here.1 in
          elim (set-at indexes f.station n x.station k kept) [
            | inl set ↦ set.1 ∙ is ∙ sym here.0
            | inr other ↦ absurd (other.0 place)
          ]
      | inr old ↦
          elim (set-at indexes f.station n x.station k kept) [
            | inl set ↦ absurd (anew j x old set.0)
            | inr other ↦ indexed j k x old other.1
          ]
    ]

pub tells-push : (a : Ahead) (es : List Entry) (f : Entry) → TellsAhead a es → ahead_of f.cursor ≡ None
    → TellsAhead a (es ++ f ∷ [])
tells-push Nobody es f tells none = λ j x at.
    elim (push-at es f j x at) [
      | inl here ↦ ap (λ (y : Entry). ahead_of y.cursor) here.1 ∙ none
      | inr old ↦ tells j x old
    ]
tells-push (Only k) es f tells none = λ j x apart at.
    elim (push-at es f j x at) [
      | inl here ↦ ap (λ (y : Entry). ahead_of y.cursor) here.1 ∙ none
      | inr old ↦ tells j x apart old
    ]
tells-push Several es f tells none = tt

-- only one is there
only : (es : List Entry) (f : Entry) (j : ℕ) (x : Entry) → length es ≡ 1 → slice_get (slice_set es 0 f) j ≡ Some x
    → (j ≡ 0) × (x ≡ f)
only [] f j x one at = absurd cc
only (y ∷ []) f zero x one at = (refl, ap (λ o. unwrap_or o x) (sym at))
only (y ∷ []) f (suc j) x one at = absurd cc
only (y ∷ z ∷ es) f j x one at = absurd (omega (arith, one))

pub indexed-only : (es : List Entry) (indexes : List ℕ) (f : Entry) → length es ≡ 1
    → IsIndexed (slice_set es 0 f) (slice_set indexes f.station 0)
indexed-only es indexes f one = λ j k x at kept.
    let here = only es f j x one at in
    elim (set-at indexes f.station 0 x.station k kept) [
      | inl set ↦ set.1 ∙ sym here.0
      | inr other ↦ absurd (other.0 (ap (λ (y : Entry). y.station) here.1))
    ]

pub tells-only : (es : List Entry) (f : Entry) → length es ≡ 1 → ahead_of f.cursor ≡ None
    → TellsAhead Nobody (slice_set es 0 f)
tells-only es f one none = λ j x at.
    ap (λ (y : Entry). ahead_of y.cursor) (only es f j x one at).1 ∙ none

-- ---- by their places

same-test : (a b : ℕ) → a ≡ b → (a == b) ≡ true
same-test a b e = grind (arith, nat_tests)

other-test : (a b : ℕ) → a ≢ b → (a == b) ≡ false
other-test a b apart = grind (arith, nat_tests)

-- the only one at a place is the first there
pub only-there : (es : List Entry) (place i : ℕ) (e : Entry) → slice_get es i ≡ Some e → e.station ≡ place
    → ((j : ℕ) (x : Entry) → slice_get es j ≡ Some x → x.station ≡ place → j ≡ i)
    → Some i ≡ position (λ x. x.station == place) es
only-there es place i e at here only =
    let p : Entry → Bool = λ x. x.station == place in
    let within : i < length es = slice_get_within es i e at in
    let is : position_or_len p es ≡ i =
    position_or_len_is p es i e (omega arith)
    (λ k lt. other-test (get_or es k e).station place
    (λ same. absurd (let s : k ≡ i = only k (get_or es k e) (slice_get-get_or es k e (omega arith)) same in
    omega arith)))
    (λ _. same-test (get_or es i e).station place
    (ap (λ (x : Entry). x.station) (get_or_from_slice_get es i e e at) ∙ here)) in
    let test : nat_lt i (length es) ≡ true = grind (arith, nat_tests) in
    rw (is, test) refl

-- none is there
pub none-at : (es : List Entry) (place : ℕ) → ((j : ℕ) (x : Entry) → slice_get es j ≡ Some x → x.station ≢ place)
    → None ≡ position (λ x. x.station == place) es
none-at [] place none = refl
none-at (y ∷ es) place none =
    let p : Entry → Bool = λ x. x.station == place in
    let all : List Entry = y ∷ es in
    let is : position_or_len p all ≡ length all =
    position_or_len_is p all (length all) y (omega arith)
    (λ k lt. other-test (get_or all k y).station place (none k (get_or all k y) (slice_get-get_or all k y lt)))
    (λ lt. absurd (omega arith)) in
    let test : nat_lt (length all) (length all) ≡ false = grind (arith, nat_tests) in
    rw (is, test) refl

-- no other is there, and not that one
pub none-there : (es : List Entry) (place i : ℕ) → ((j : ℕ) (x : Entry) → slice_get es j ≡ Some x → x.station ≡ place
    → j ≡ i) → ((x : Entry) → slice_get es i ≡ Some x → x.station ≢ place)
    → None ≡ position (λ x. x.station == place) es
none-there es place i only apart =
    none-at es place (λ j x at same. apart x (ap (slice_get es) (sym (only j x at same)) ∙ at) same)

-- an item that is read by its index
pub read-at : (es : List Entry) (i : ℕ) (e : Entry) → i < length es → e ≡ get_or es i e → slice_get es i ≡ Some e
read-at es i e low is = slice_get-get_or es i e low ∙ ap (λ x. Some x) (sym is)

pub read-same : (es : List Entry) (i : ℕ) (e x : Entry) → i < length es → e ≡ get_or es i e → slice_get es i ≡ Some x
    → x ≡ e
read-same es i e x low is at = ap (λ o. unwrap_or o x) (sym at ∙ read-at es i e low is)

-- ---- none are there

nothing-at : (es : List Entry) (i : ℕ) (e : Entry) → es ≡ [] → slice_get es i ≡ Some e → ⊥
nothing-at [] i e none at = absurd cc
nothing-at (x ∷ xs) i e none at = absurd cc

pub indexed-none : (es : List Entry) (indexes : List ℕ) → es ≡ [] → IsIndexed es indexes
indexed-none es indexes none = λ i k e at kept. absurd (nothing-at es i e none at)

pub tells-none : (es : List Entry) → es ≡ [] → TellsAhead Nobody es
tells-none es none = λ j e at. absurd (nothing-at es j e none at)
