-- The lists of a pool: what an insert and a cut do to each of them.
use Rattle.std.proofs.Common.{◌≡◌, ℕ, zero, suc, ◌+◌, ◌-◌, ◌<◌, ◌≤◌, ◌⊎◌, inl, inr, List, [], ◌∷◌, ◌++◌, length, get_or}
use Rattle.std.proofs.Common.{set, take, drop, slice_range, replicate, refl, sym, subst, ap, ap₂, ◌∙◌, arith}
use Rattle.std.proofs.Common.{append_assoc, length-append, length-set, zero-add}
use Rattle.std.specs.Prelude.{◌≢◌, Result, is_ok, true, if◌then◌else◌}
use Rattle.std.specs.List.{insert}
use Rattle.std.proofs.lemmas.List.{get_or-replicate, length-take-le, length-drop, take_at, drop-append-le, drop-take}
use Rattle.std.proofs.lemmas.List.{drop-drop}
use Rattle.std.proofs.lemmas.List.Edits.{length-insert}
use Rattle.std.proofs.lemmas.List.Elements.{All-from_get_or, All-get_or, All-set}
use Rattle.std.proofs.lemmas.List.Sums.{sum_by-cons}
use Rattle.std.proofs.Math.Seq.{take-append-add, drop-append-add, take-add}
use Rattle.protocol.specs.Pattern.{Pattern}
use Rattle.selector.specs.Pools.{cut, starts_from, list_at, together, total, HasRoom, IsLaidOut}

-- how many patterns lie before the list with that number
abbrev pub before : List ℕ → ℕ → ℕ
before ns i = total (take i ns)

-- ---- one list of patterns

-- what an insert leaves up to the new pattern
take_inserted : (xs ys : List Pattern) (n : ℕ) (p : Pattern) → n ≤ length xs
    → take (n + 1) (take n xs ++ p ∷ ys) ≡ take n xs ++ p ∷ []
take_inserted xs ys n p h =
    ap (λ k. take (k + 1) (take n xs ++ p ∷ ys)) (sym (length-take-le n xs h)) ∙ take-append-add (take n xs) (p ∷ ys) 1

-- and behind it
drop_inserted : (xs ys : List Pattern) (n : ℕ) (p : Pattern) → n ≤ length xs → drop (n + 1) (take n xs ++ p ∷ ys) ≡ ys
drop_inserted xs ys n p h =
    ap (λ k. drop (k + 1) (take n xs ++ p ∷ ys)) (sym (length-take-le n xs h)) ∙ drop-append-add (take n xs) (p ∷ ys) 1

-- what lies before the place of a change
take_before : (xs ys : List Pattern) (n k : ℕ) → n + k ≤ length xs → take n (take (n + k) xs ++ ys) ≡ take n xs
take_before xs ys n k h =
    ap (λ zs. take n (zs ++ ys)) (take-add n k xs) ∙ (ap (take n) (append_assoc (take n xs) (take k (drop n xs)) ys)
    ∙ take_at (take n xs) (take k (drop n xs) ++ ys) n (length-take-le n xs (omega arith)))

-- what lies behind a part of it
drop_before : (xs ys : List Pattern) (n k : ℕ) → n + k ≤ length xs
    → drop n (take (n + k) xs ++ ys) ≡ take k (drop n xs) ++ ys
drop_before xs ys n k h =
    let le : n ≤ length (take (n + k) xs) = omega (arith, length-take-le (n + k) xs h) in
    drop-append-le n (take (n + k) xs) ys le ∙ ap (λ zs. zs ++ ys) (drop-take n k xs)

-- ---- the lists

-- A list's patterns are among all.
pub before-fits : (ns : List ℕ) (i : ℕ) → i < length ns → before ns i + get_or ns i 0 ≤ total ns
before-fits [] i h = absurd (omega arith)
before-fits (n ∷ ns) zero h = omega arith
before-fits (n ∷ ns) (suc i) h = let ih : before ns i + get_or ns i 0 ≤ total ns =
    before-fits ns i (omega arith) in omega arith

-- Each list starts behind those before it.
pub starts_from-at : (at : ℕ) (ns : List ℕ) (i : ℕ) → i < length ns → get_or (starts_from at ns) i 0 ≡ at + before ns i
starts_from-at at [] i h = absurd (omega arith)
starts_from-at at (n ∷ ns) zero h = omega arith
starts_from-at at (n ∷ ns) (suc i) h = starts_from-at (at + n) ns i (omega arith) ∙ omega arith

pub length-starts_from : (at : ℕ) (ns : List ℕ) → length (starts_from at ns) ≡ length ns
length-starts_from at [] = refl
length-starts_from at (n ∷ ns) = ap suc (length-starts_from (at + n) ns)

pub length-cut : (xs : List Pattern) (ns : List ℕ) → length (cut xs ns) ≡ length ns
length-cut xs [] = refl
length-cut xs (n ∷ ns) = ap suc (length-cut (drop n xs) ns)

-- A list is its part of all patterns.
pub list_at-cut : (xs : List Pattern) (ns : List ℕ) (i : ℕ) → i < length ns
    → list_at (cut xs ns) i ≡ take (get_or ns i 0) (drop (before ns i) xs)
list_at-cut xs [] i h = absurd (omega arith)
list_at-cut xs (n ∷ ns) zero h = refl
list_at-cut xs (n ∷ ns) (suc i) h =
    list_at-cut (drop n xs) ns i (omega arith) ∙ ap (take (get_or ns i 0)) (drop-drop (before ns i) n xs)

-- The lists hold as many patterns as were counted.
pub together-cut : (xs : List Pattern) (ns : List ℕ) → total ns ≤ length xs → together (cut xs ns) ≡ total ns
together-cut xs [] h = refl
together-cut xs (n ∷ ns) h =
    sum_by-cons length (take n xs) (cut (drop n xs) ns)
    ∙ ap₂ (λ a b. a + b) (length-take-le n xs (omega arith))
    (together-cut (drop n xs) ns (omega (arith, length-drop n xs)))

-- ---- changes

-- A pattern more in a list.
pub cut-inserted : (xs : List Pattern) (ns : List ℕ) (i : ℕ) (p : Pattern) → i < length ns → total ns ≤ length xs →
    let place = before ns i + get_or ns i 0 in
    cut (take place xs ++ p ∷ drop place xs) (set ns i (get_or ns i 0 + 1))
    ≡ set (cut xs ns) i (list_at (cut xs ns) i ++ p ∷ [])
cut-inserted xs [] i p h few = absurd (omega arith)
cut-inserted xs (n ∷ ns) zero p h few =
    let le : n ≤ length xs = omega arith in
    ap (λ m. cut (take m xs ++ p ∷ drop m xs) ((n + 1) ∷ ns)) (zero-add n)
    ∙ ap₂ (λ l ls. l ∷ ls) (take_inserted xs (drop n xs) n p le)
    (ap (λ ys. cut ys ns) (drop_inserted xs (drop n xs) n p le))
cut-inserted xs (n ∷ ns) (suc i) p h few =
    let k = before ns i + get_or ns i 0 in
    let fits : k ≤ total ns = before-fits ns i (omega arith) in
    let le : n + k ≤ length xs = omega arith in
    let all : n + before ns i + get_or ns i 0 ≡ n + k = omega arith in
    let front : take n (take (n + k) xs ++ p ∷ drop (n + k) xs)
    ≡ take n xs = take_before xs (p ∷ drop (n + k) xs) n k le in
    let rest : drop n (take (n + k) xs ++ p ∷ drop (n + k) xs) ≡ take k (drop n xs) ++ p ∷ drop k (drop n xs) =
    drop_before xs (p ∷ drop (n + k) xs) n k le ∙ ap (λ ys. take k (drop n xs) ++ p ∷ ys) (sym (drop-drop k n xs)) in
    ap (λ m. cut (take m xs ++ p ∷ drop m xs) (n ∷ set ns i (get_or ns i 0 + 1))) all
    ∙ ap₂ (λ l ls. l ∷ ls) front (ap (λ ys. cut ys (set ns i (get_or ns i 0 + 1))) rest
    ∙ cut-inserted (drop n xs) ns i p (omega arith) (omega (arith, length-drop n xs)))

-- A list is emptied.
pub cut-emptied : (xs : List Pattern) (ns : List ℕ) (i : ℕ) → i < length ns → total ns ≤ length xs →
    cut (take (before ns i) xs ++ drop (before ns i + get_or ns i 0) xs) (set ns i 0) ≡ set (cut xs ns) i []
cut-emptied xs [] i h few = absurd (omega arith)
cut-emptied xs (n ∷ ns) zero h few = ap (λ m. [] ∷ cut (drop m xs) ns) (zero-add n)
cut-emptied xs (n ∷ ns) (suc i) h few =
    let b = before ns i in
    let c = get_or ns i 0 in
    let fits : b + c ≤ total ns = before-fits ns i (omega arith) in
    let le : n + b ≤ length xs = omega arith in
    let all : n + b + c ≡ n + (b + c) = omega arith in
    let front : take n (take (n + b) xs ++ drop (n + (b + c)) xs)
    ≡ take n xs = take_before xs (drop (n + (b + c)) xs) n b le in
    let rest : drop n (take (n + b) xs ++ drop (n + (b + c)) xs) ≡ take b (drop n xs) ++ drop (b + c) (drop n xs) =
    drop_before xs (drop (n + (b + c)) xs) n b le
    ∙ ap (λ ys. take b (drop n xs) ++ ys) (sym (drop-drop (b + c) n xs)) in
    ap (λ m. cut (take (n + b) xs ++ drop m xs) (n ∷ set ns i 0)) all
    ∙ ap₂ (λ l ls. l ∷ ls) front (ap (λ ys. cut ys (set ns i 0)) rest
    ∙ cut-emptied (drop n xs) ns i (omega arith) (omega (arith, length-drop n xs)))

-- how the counts change together
pub total-set : (ns : List ℕ) (i v : ℕ) → i < length ns → total (set ns i v) + get_or ns i 0 ≡ total ns + v
total-set [] i v h = absurd (omega arith)
total-set (n ∷ ns) zero v h = omega arith
total-set (n ∷ ns) (suc i) v h =
    let ih : total (set ns i v) + get_or ns i 0 ≡ total ns + v = total-set ns i v (omega arith) in omega arith

-- ---- a pool that is laid out

-- where it starts
pub start_at : (xs : List Pattern) (starts counts : List ℕ) (i : ℕ) → IsLaidOut xs starts counts → i < length counts
    → get_or starts i 0 ≡ before counts i
start_at xs starts counts i laid h = ap (λ s. get_or s i 0) laid.start
    ∙ (starts_from-at 0 counts i h ∙ zero-add (before counts i))

-- A list lies between its start and its end.
pub end_fits : (xs : List Pattern) (starts counts : List ℕ) (i : ℕ) → IsLaidOut xs starts counts → i < length counts →
    get_or starts i 0 + get_or counts i 0 ≤ length xs
end_fits xs starts counts i laid h =
    let start : get_or starts i 0 ≡ before counts i = start_at xs starts counts i laid h in
    let fits : before counts i + get_or counts i 0 ≤ total counts = before-fits counts i h in
    let all : total counts ≡ length xs = laid.count in
    omega arith

-- The patterns there are the list's.
pub part : (xs : List Pattern) (starts counts : List ℕ) (i : ℕ) → IsLaidOut xs starts counts → i < length counts →
    slice_range xs (get_or starts i 0) (get_or starts i 0 + get_or counts i 0) ≡ list_at (cut xs counts) i
part xs starts counts i laid h =
    let n : get_or starts i 0 + get_or counts i 0 - get_or starts i 0 ≡ get_or counts i 0 = omega arith in
    ap₂ (λ m s. take m (drop s xs)) n (start_at xs starts counts i laid h) ∙ sym (list_at-cut xs counts i h)

-- How many patterns a list has, as it was counted.
pub length-list_at : (xs : List Pattern) (starts counts : List ℕ) (i : ℕ) → IsLaidOut xs starts counts
    → i < length counts →
    length (list_at (cut xs counts) i) ≡ get_or counts i 0
length-list_at xs starts counts i laid h =
    let fits : before counts i + get_or counts i 0 ≤ total counts = before-fits counts i h in
    let all : total counts ≡ length xs = laid.count in
    ap length (list_at-cut xs counts i h)
    ∙ length-take-le (get_or counts i 0) (drop (before counts i) xs) (omega (arith, length-drop (before counts i) xs))

-- All lists together have the patterns that are there.
pub together-laid : (xs : List Pattern) (starts counts : List ℕ) → IsLaidOut xs starts counts
    → together (cut xs counts) ≡ length xs
together-laid xs starts counts laid =
    let all : total counts ≡ length xs = laid.count in
    together-cut xs counts (omega arith) ∙ all

pub at_most : (xs : List Pattern) (starts counts : List ℕ) (i : ℕ) → IsLaidOut xs starts counts → i < length counts
    → get_or counts i 0 ≤ 64
at_most xs starts counts i laid h = All-get_or (λ n. n ≤ 64) counts i 0 h laid.each

-- There is room where a list is not full and all are not.
pub has_room : (xs : List Pattern) (starts counts : List ℕ) (i : ℕ) → IsLaidOut xs starts counts → i < length counts →
    get_or counts i 0 ≢ 64 → length xs ≢ 1024 → HasRoom (cut xs counts) i
has_room xs starts counts i laid h own all =
    let few : get_or counts i 0 ≤ 64 = at_most xs starts counts i laid h in
    let most : length xs ≤ 1024 = laid.most in
    let mine : length (list_at (cut xs counts) i) ≡ get_or counts i 0 = length-list_at xs starts counts i laid h in
    let both : together (cut xs counts) ≡ length xs = together-laid xs starts counts laid in
    record { own = omega arith; all = omega arith }

-- A list that is full, or lists that are, have no room.
pub list_full : (xs : List Pattern) (starts counts : List ℕ) (i : ℕ) → IsLaidOut xs starts counts → i < length counts →
    get_or counts i 0 ≡ 64 → length (list_at (cut xs counts) i) ≡ 64
list_full xs starts counts i laid h full = length-list_at xs starts counts i laid h ∙ full

pub all_full : (xs : List Pattern) (starts counts : List ℕ) → IsLaidOut xs starts counts → length xs ≡ 1024
    → together (cut xs counts) ≡ 1024
all_full xs starts counts laid full = together-laid xs starts counts laid ∙ full

pub no_room : (lists : List (List Pattern)) (i : ℕ) → (length (list_at lists i) ≡ 64) ⊎ (together lists ≡ 1024)
    → HasRoom lists i → ⊥
no_room lists i (inl own) room = let r : length (list_at lists i) < 64 = room.own in omega arith
no_room lists i (inr all) room = let r : together lists < 1024 = room.all in omega arith

-- ---- a pool after a change

-- how many patterns are counted then
pub few_after : (xs : List Pattern) (starts counts : List ℕ) (i v : ℕ) → IsLaidOut xs starts counts → i < length counts
    → v ≤ 65 →
    total (set counts i v) < 65536
few_after xs starts counts i v laid h small =
    let e : total (set counts i v) + get_or counts i 0 ≡ total counts + v = total-set counts i v h in
    let all : total counts ≡ length xs = laid.count in
    let most : length xs ≤ 1024 = laid.most in
    omega arith

-- one pattern more
pub laid-inserted : (xs ys : List Pattern) (starts counts after : List ℕ) (i : ℕ) (p : Pattern)
    → IsLaidOut xs starts counts → i < length counts →
    get_or counts i 0 ≢ 64 → length xs ≢ 1024 → ys ≡ insert xs (get_or starts i 0 + get_or counts i 0) p →
    after ≡ starts_from 0 (set counts i (get_or counts i 0 + 1))
    → IsLaidOut ys after (set counts i (get_or counts i 0 + 1))
laid-inserted xs ys starts counts after i p laid h own all is placed =
    let n = get_or counts i 0 in
    let few : n ≤ 64 = at_most xs starts counts i laid h in
    let most : length xs ≤ 1024 = laid.most in
    let fits : get_or starts i 0 + n ≤ length xs = end_fits xs starts counts i laid h in
    let longer : length ys ≡ length xs + 1 = ap length is ∙ length-insert xs (get_or starts i 0 + n) p fits in
    let e : total (set counts i (n + 1)) + n ≡ total counts + (n + 1) = total-set counts i (n + 1) h in
    let counted : total counts ≡ length xs = laid.count in
    record {
      lists = length-set counts i (n + 1) ∙ laid.lists;
      start = placed;
      count = omega arith;
      each = All-set (λ m. m ≤ 64) counts i (n + 1) (omega arith) laid.each;
      most = omega arith;
    }

pub view-inserted : (xs ys : List Pattern) (starts counts : List ℕ) (i : ℕ) (p : Pattern) → IsLaidOut xs starts counts
    → i < length counts →
    ys ≡ insert xs (get_or starts i 0 + get_or counts i 0) p →
    cut ys (set counts i (get_or counts i 0 + 1)) ≡ set (cut xs counts) i (list_at (cut xs counts) i ++ p ∷ [])
view-inserted xs ys starts counts i p laid h is =
    let n = get_or counts i 0 in
    let all : total counts ≡ length xs = laid.count in
    ap (λ zs. cut zs (set counts i (n + 1))) (is ∙ ap (λ s. insert xs (s + n) p) (start_at xs starts counts i laid h))
    ∙ cut-inserted xs counts i p h (omega arith)

-- a list emptied
pub laid-emptied : (xs ys : List Pattern) (starts counts after : List ℕ) (i : ℕ) → IsLaidOut xs starts counts
    → i < length counts →
    ys ≡ take (get_or starts i 0) xs ++ drop (get_or starts i 0 + get_or counts i 0) xs →
    after ≡ starts_from 0 (set counts i 0) → IsLaidOut ys after (set counts i 0)
laid-emptied xs ys starts counts after i laid h is placed =
    let n = get_or counts i 0 in
    let s = get_or starts i 0 in
    let most : length xs ≤ 1024 = laid.most in
    let fits : s + n ≤ length xs = end_fits xs starts counts i laid h in
    let front : length (take s xs) ≡ s = length-take-le s xs (omega arith) in
    let back : length (drop (s + n) xs) ≡ length xs - (s + n) = length-drop (s + n) xs in
    let shorter : length ys ≡ length (take s xs) + length (drop (s + n) xs) = ap length is
    ∙ length-append (take s xs) (drop (s + n) xs) in
    let e : total (set counts i 0) + n ≡ total counts + 0 = total-set counts i 0 h in
    let counted : total counts ≡ length xs = laid.count in
    record {
      lists = length-set counts i 0 ∙ laid.lists;
      start = placed;
      count = omega arith;
      each = All-set (λ m. m ≤ 64) counts i 0 (omega arith) laid.each;
      most = omega arith;
    }

pub view-emptied : (xs ys : List Pattern) (starts counts : List ℕ) (i : ℕ) → IsLaidOut xs starts counts
    → i < length counts →
    ys ≡ take (get_or starts i 0) xs ++ drop (get_or starts i 0 + get_or counts i 0) xs →
    cut ys (set counts i 0) ≡ set (cut xs counts) i []
view-emptied xs ys starts counts i laid h is =
    let n = get_or counts i 0 in
    let all : total counts ≡ length xs = laid.count in
    ap (λ zs. cut zs (set counts i 0))
    (is ∙ ap (λ s. take s xs ++ drop (s + n) xs) (start_at xs starts counts i laid h))
    ∙ cut-emptied xs counts i h (omega arith)

-- ---- a pool that is new

pub laid-empty : (xs : List Pattern) → xs ≡ [] → IsLaidOut xs (replicate 255 0) (replicate 255 0)
laid-empty xs none = record {
  lists = refl;
  start = refl;
  count = ap length (sym none);
  each = All-from_get_or (λ n. n ≤ 64) (replicate 255 0) 0
      (λ i h. subst (λ n. n ≤ 64) (sym (get_or-replicate 255 i 0 0 h)) (omega arith));
  most = subst (λ ys. length ys ≤ 1024) (sym none) (omega arith);
}

-- What an insert that succeeded leaves.
pub taken_where_ok : {A B : Type 0} (r : Result A B) (xs ys : List Pattern) → is_ok r ≡ true
    → (if is_ok r then xs else ys) ≡ xs
taken_where_ok r xs ys fine = ap (λ b. if b then xs else ys) fine
