-- Numbers that are put among others, one after the other.
use Rattle.std.proofs.Common.{◌≡◌, ℕ, zero, suc, ◌+◌, ◌<◌, ◌≤◌, true, false, List, [], ◌∷◌, ◌++◌, length, inl, inr}
use Rattle.std.proofs.Common.{◌⊎◌, Option, Some, None, slice_index_or, sym, ap, subst, ◌∙◌, arith, length-append}
use Rattle.std.proofs.lemmas.List.{append-nil}
use Rattle.std.proofs.lemmas.Bool.{cases_eq, cases_lt}
use Rattle.std.proofs.lemmas.List.{get_or_append_left}
use Rattle.std.proofs.Math.Seq.{get_or-append_seam}
use Rattle.server_core.specs.declared.clients.Opened.{Opened}
use Rattle.server_core.specs.declared.marks.BitRow.{BitRow}
use Rattle.server_core.specs.Clients.{listed, owner_in, slot_in}
use Rattle.server_core.specs.Rows.{bit_of}
use Rattle.server_core.specs.Marks.{IsAmong, IsSetIn}

pub among-more : (k : ℕ) (xs ys : List ℕ) → IsAmong k xs → IsAmong k (xs ++ ys)
among-more k xs ys is =
    let n = length-append xs ys in
    let lt = is.inside in
    record {
      place = is.place;
      inside = omega (arith, n, lt);
      is = get_or_append_left xs ys 0 is.place is.inside ∙ is.is;
    }

pub among-last : (k x : ℕ) (xs : List ℕ) → x ≡ k → IsAmong k (xs ++ x ∷ [])
among-last k x xs e =
    let n = length-append xs (x ∷ []) in
    record {
      place = length xs;
      inside = omega (arith, n);
      is = get_or-append_seam xs x [] 0 ∙ e;
    }

-- The clients of the slots up to one whose bit is set are among some.
abbrev pub AllAmong : List (Option ℕ) → BitRow → ℕ → List ℕ → Type 0
AllAmong numbers row end some =
    (slot k : ℕ) → slot < end → bit_of row slot ≡ true → owner_in numbers slot ≡ Some k → IsAmong k some

-- Some are all clients whose slot's bit is set.
abbrev pub OnlyAmong : List Opened → BitRow → List ℕ → Type 0
OnlyAmong os row some = (k : ℕ) → IsAmong k some → IsSetIn os row k

among-listed : (k : ℕ) (xs : List ℕ) (owner : Option ℕ) → owner ≡ Some k → IsAmong k (xs ++ listed owner)
among-listed k xs None e = absurd cc
among-listed k xs (Some x) e = among-last k x xs (let q : Some x ≡ Some k = e in cc)

-- What is among more is among some already, or is the last one.
among-split : (k x : ℕ) (xs : List ℕ) → IsAmong k (xs ++ x ∷ []) → IsAmong k xs ⊎ (x ≡ k)
among-split k x xs is =
    let n = length-append xs (x ∷ []) in
    let lt = is.inside in
    elim (cases_lt is.place (length xs)) [
      | inl before ↦ inl (record {
        place = is.place;
        inside = before;
        is = sym (get_or_append_left xs (x ∷ []) 0 is.place before) ∙ is.is;
      })
      | inr after ↦ inr
          (sym (get_or-append_seam xs x [] 0)
          ∙ ap (slice_index_or_0 (xs ++ x ∷ [])) (let e : length xs ≡ is.place = omega (arith, n, lt, after) in e) ∙
          is.is)
    ]
  where
    slice_index_or_0 : List ℕ → ℕ → ℕ
    slice_index_or_0 ys i = slice_index_or ys i 0

module _ (numbers : List (Option ℕ)) (row : BitRow) (some : List ℕ) where
  unset : {X : Type 0} (slot : ℕ) → bit_of row slot ≡ true → bit_of row slot ≡ false → X
  unset slot is is-not = absurd (let q : true ≡ false = sym is ∙ is-not in cc)

  pub among-first : (next : ℕ) → ((slot : ℕ) → 0 ≤ slot → slot < next → bit_of row slot ≡ false)
      → AllAmong numbers row next some
  among-first next passed slot k below bit at = unset slot bit (passed slot (omega arith) below)

  pub among-next : (here next : ℕ) → AllAmong numbers row here some
      → ((slot : ℕ) → here + 1 ≤ slot → slot < next → bit_of row slot ≡ false)
      → AllAmong numbers row next (some ++ listed (owner_in numbers here))
  among-next here next so_far passed slot k below bit at =
      elim (cases_lt slot here) [
        | inl before ↦ among-more k some (listed (owner_in numbers here)) (so_far slot k before bit at)
        | inr le ↦ elim (cases_eq slot here) [
          | inl same ↦ among-listed k some (owner_in numbers here) (ap (owner_in numbers) (sym same) ∙ at)
          | inr apart ↦ unset slot bit (passed slot (omega (arith, le, apart)) below)
        ]
      ]

-- No number is among none.
pub only-none : (os : List Opened) (row : BitRow) (some : List ℕ) → some ≡ [] → OnlyAmong os row some
only-none os row some none k is =
    let lt : is.place < 0 = subst (λ (xs : List ℕ). is.place < length xs) none is.inside in absurd (omega (arith, lt))

pub only-next : (os : List Opened) (row : BitRow) (some : List ℕ) (slot : ℕ) (owner : Option ℕ) → OnlyAmong os row some
    → bit_of row slot ≡ true → ((k : ℕ) → owner ≡ Some k → slot_in os k ≡ Some slot)
    → OnlyAmong os row (some ++ listed owner)
only-next os row some slot None so_far bit has k is = so_far k (subst (IsAmong k) (append-nil some) is)
only-next os row some slot (Some x) so_far bit has k is =
    elim (among-split k x some is) [
      | inl before ↦ so_far k before
      | inr same ↦ record { slot = slot; has_slot = has k (ap Some same); is_set = bit }
    ]

pub owner-inside : (numbers : List (Option ℕ)) (slot k : ℕ) → owner_in numbers slot ≡ Some k → slot < length numbers
owner-inside [] slot k e = absurd cc
owner-inside (n ∷ ns) zero k e = omega arith
owner-inside (n ∷ ns) (suc slot) k e = let lt = owner-inside ns slot k e in omega (arith, lt)

-- Each slot that is set is one of those.
pub all-among : (numbers : List (Option ℕ)) (row : BitRow) (end : ℕ) (some : List ℕ) → length numbers ≡ end
    → AllAmong numbers row end some → (slot k : ℕ) → bit_of row slot ≡ true → owner_in numbers slot ≡ Some k
    → IsAmong k some
all-among numbers row end some counted among slot k bit at =
    among slot k (let inside = owner-inside numbers slot k at in omega (arith, inside, counted)) bit at
