-- Networks, address by address and bit by bit.
use Rattle.std.proofs.Common.{◌≡◌, ◌≢◌, ℕ, zero, suc, ◌+◌, ◌-◌, ◌*◌, ◌/◌, ◌^◌, ◌%◌, ◌<◌, ◌≤◌, ◌==◌, Bool, true, false}
use Rattle.std.proofs.Common.{true≢false, List, [], ◌∷◌, Some, None, min, max, eqb-true, eq-eqb, refl, sym, ap}
use Rattle.std.proofs.Common.{subst, ◌∙◌, arith, ⊎_elim, inl, inr, ◌⊎◌}
use Rattle.std.specs.Prelude.{find, bit_and, bit_or, not}
use Rattle.std.specs.Int.{bit_at, bit_not, w32, leading_zeros}
use Rattle.std.specs.List.{list_any}
use Rattle.std.proofs.lemmas.Bool.{and_parts, cases_eq, cases_lt}
use Rattle.std.proofs.lemmas.Nat.{and_assoc, and_comm, or_disjoint, or_lt, pow_below, pow_pos, and_le_l, leading_top}
use Rattle.std.proofs.lemmas.Nat.{one_shl, le-div, div_below, pow-add}
use Rattle.std.proofs.lemmas.Nat.Bits.{and_pow, bit_at_and, bit_at_or, bit_at_not, bit_at-lt, bit_at-zero, bit_at_above}
use Rattle.std.proofs.lemmas.Nat.Bits.{same_from_bits, bit_at-pow_same, bit_at-pow_other}
use Rattle.protocol.proofs.FoundLemmas.{both}
use Rattle.protocol.specs.Access.{Token, is_in, allows, Agrees, HasMask}
use Rattle.config_explained.specs.Coverage.{AdmitsAll, AdmitsNone, IsBitOf, admits_all, admits_none, every, has_all}
use Rattle.config_explained.specs.Coverage.{has_all_of, is_admitted, is_refused, meets, with, without}

-- ---- what one network has

-- of addresses that one has, all or none
has_each : (n cube : Token) (a : ℕ) → has_all n cube ≡ true → is_in a cube ≡ true → is_in a n ≡ true
has_each n cube a h e =
    let parts = and_parts (bit_and n.mask cube.mask == n.mask) (bit_and n.address n.mask == bit_and cube.address n.mask) h in
    let wide : bit_and n.mask cube.mask ≡ n.mask = eqb-true _ _ parts.0 in
    let same : bit_and n.address n.mask ≡ bit_and cube.address n.mask = eqb-true _ _ parts.1 in
    let at : bit_and a cube.mask ≡ bit_and cube.address cube.mask = eqb-true _ _ e in
    let narrow : bit_and cube.mask n.mask ≡ n.mask = and_comm cube.mask n.mask ∙ wide in
    eq-eqb _ _
    (ap (bit_and a) (sym narrow) ∙ sym (and_assoc n.mask a cube.mask) ∙ ap (λ x. bit_and x n.mask) at
    ∙ and_assoc n.mask cube.address cube.mask ∙ ap (bit_and cube.address) narrow ∙ sym same)

pub meets_at : (n cube : Token) (a : ℕ) → is_in a cube ≡ true → is_in a n ≡ true → meets cube n ≡ true
meets_at n cube a e e' =
    let at : bit_and a cube.mask ≡ bit_and cube.address cube.mask = eqb-true _ _ e in
    let at' : bit_and a n.mask ≡ bit_and n.address n.mask = eqb-true _ _ e' in
    eq-eqb _ _
    (sym (and_assoc cube.mask n.address n.mask) ∙ ap (λ x. bit_and x cube.mask) (sym at')
    ∙ and_assoc cube.mask a n.mask ∙ ap (bit_and a) (and_comm n.mask cube.mask)
    ∙ sym (and_assoc n.mask a cube.mask) ∙ ap (λ x. bit_and x n.mask) at
    ∙ and_assoc n.mask cube.address cube.mask ∙ ap (bit_and cube.address) (and_comm cube.mask n.mask))

-- ---- what several have

pub all_within : (ns : List Token) (cube : Token) → list_any (has_all_of cube) ns ≡ true → AdmitsAll ns cube
all_within [] cube h a low e = absurd (true≢false (sym h))
all_within (n ∷ ns) cube h a low e =
    both (has_all n cube)
    (λ y. rw (has_each n cube a y e))
    (λ f. let more = all_within ns cube (rw f at h) a low e in both (is_in a n) (λ y. rw y) (λ g. rw g more))

pub none_met : (ns : List Token) (cube : Token) → find (meets cube) ns ≡ None → AdmitsNone ns cube
none_met [] cube h a low e = refl
none_met (n ∷ ns) cube h a low e =
    both (meets cube n)
    (λ y. absurd (let found : Some n ≡ None = rw y at h in cc))
    (λ f. let more = none_met ns cube (rw f at h) a low e in
    both (is_in a n) (λ y. absurd (true≢false (sym (meets_at n cube a e y) ∙ f))) (λ g. rw g more))

pub is_itself : (cube : Token) → is_in cube.address cube ≡ true
is_itself cube = eq-eqb _ _ refl

pub not_both : (ns : List Token) (cube : Token) → cube.address < 2 ^ 32 → AdmitsNone ns cube → AdmitsAll ns cube → ⊥
not_both ns cube low none all =
    true≢false (sym (all cube.address low (is_itself cube)) ∙ none cube.address low (is_itself cube))

-- ---- bits

-- of one agrees with the other, bit by bit
pub agrees_in : (a : ℕ) (t : Token) → is_in a t ≡ true → Agrees a t
agrees_in a t e i within one =
    let same : bit_and a t.mask ≡ bit_and t.address t.mask = eqb-true _ _ e in
    let bits : min (bit_at a i) (bit_at t.mask i)
    ≡ min (bit_at t.address i) (bit_at t.mask i) = sym (bit_at_and a t.mask i) ∙ ap (λ n. bit_at n i) same
    ∙ bit_at_and t.address t.mask i in
    let low = bit_at-lt a i in
    let low' = bit_at-lt t.address i in
    omega arith

same_low : (x y m : ℕ) → x < 2 → y < 2 → m < 2 → (m ≡ 1 → x ≡ y) → min x m ≡ min y m
same_low x y m low low' low'' same = grind arith

in_agrees : (a : ℕ) (t : Token) → HasMask t → Agrees a t → is_in a t ≡ true
in_agrees a t masked agrees =
    eq-eqb _ _ (same_from_bits (bit_and a t.mask) (bit_and t.address t.mask) (λ i.
    bit_at_and a t.mask i
    ∙ ⊎_elim
    (λ low. same_low (bit_at a i) (bit_at t.address i) (bit_at t.mask i) (bit_at-lt a i) (bit_at-lt t.address i)
    (bit_at-lt t.mask i) (agrees i low))
    (λ high. let none : bit_at t.mask i ≡ 0 = bit_at_above t.mask 32 i masked high in rw none (omega arith))
    (cases_lt i 32)
    ∙ sym (bit_at_and t.address t.mask i)))

pub below_32 : (k : ℕ) → k < 32 → 2 ^ k < 2 ^ 32
below_32 k within = pow_below k 32 within

pub or_same : (m k : ℕ) → bit_at (bit_or m (2 ^ k)) k ≡ 1
or_same m k =
    let or = bit_at_or m (2 ^ k) k in
    let pow = bit_at-pow_same k in
    let low = bit_at-lt m k in
    omega (arith, or, pow, low)

pub or_other : (m k i : ℕ) → i ≢ k → bit_at (bit_or m (2 ^ k)) i ≡ bit_at m i
or_other m k i other =
    let or = bit_at_or m (2 ^ k) i in
    let pow = bit_at-pow_other k i other in
    omega (arith, or, pow)

pub clear_same : (m k : ℕ) → k < 32 → bit_at (bit_and m (bit_not w32 (2 ^ k))) k ≡ 0
clear_same m k within =
    let and = bit_at_and m (bit_not w32 (2 ^ k)) k in
    let not = bit_at_not w32 (2 ^ k) k (below_32 k within) within in
    let pow = bit_at-pow_same k in
    omega (arith, and, not, pow)

pub clear_other : (m k i : ℕ) → k < 32 → i < 32 → i ≢ k → bit_at (bit_and m (bit_not w32 (2 ^ k))) i ≡ bit_at m i
clear_other m k i within within' other =
    let and = bit_at_and m (bit_not w32 (2 ^ k)) i in
    let not = bit_at_not w32 (2 ^ k) i (below_32 k within) within' in
    let pow = bit_at-pow_other k i other in
    let low = bit_at-lt m i in
    omega (arith, and, not, pow, low)

-- ---- a network in two halves

-- an address without the bit is in the one
pub in_without : (a k : ℕ) (n : Token) → k < 32 → HasMask n → bit_at a k ≡ 0 → is_in a n ≡ true
    → is_in a (without (2 ^ k) n) ≡ true
in_without a k n within masked clear e =
    in_agrees a (without (2 ^ k) n) (or_lt 32 n.mask (2 ^ k) masked (below_32 k within)) (λ i low one.
    ⊎_elim
    (λ same. rw same (clear ∙ sym (clear_same n.address k within)))
    (λ other. agrees_in a n e i low (sym (or_other n.mask k i other) ∙ one)
    ∙ sym (clear_other n.address k i within low other))
    (cases_eq i k))

-- one with it is in the other
pub in_with : (a k : ℕ) (n : Token) → k < 32 → HasMask n → bit_at a k ≡ 1 → is_in a n ≡ true
    → is_in a (with (2 ^ k) n) ≡ true
in_with a k n within masked set e =
    in_agrees a (with (2 ^ k) n) (or_lt 32 n.mask (2 ^ k) masked (below_32 k within)) (λ i low one.
    ⊎_elim
    (λ same. rw same (set ∙ sym (or_same n.address k)))
    (λ other. agrees_in a n e i low (sym (or_other n.mask k i other) ∙ one) ∙ sym (or_other n.address k i other))
    (cases_eq i k))

-- what is in one of them is in the network
not_it : (n : Token) (k i : ℕ) → bit_at n.mask k ≡ 0 → bit_at n.mask i ≡ 1 → i ≢ k
not_it n k i free one same = let one' : bit_at n.mask k ≡ 1 = rw same at one in omega (arith, one', free)

pub of_without : (a k : ℕ) (n : Token) → k < 32 → HasMask n → bit_at n.mask k ≡ 0 → is_in a (without (2 ^ k) n) ≡ true
    → is_in a n ≡ true
of_without a k n within masked free e =
    in_agrees a n masked (λ i low one.
    let other = not_it n k i free one in
    agrees_in a (without (2 ^ k) n) e i low (or_other n.mask k i other ∙ one)
    ∙ clear_other n.address k i within low other)

pub of_with : (a k : ℕ) (n : Token) → k < 32 → HasMask n → bit_at n.mask k ≡ 0 → is_in a (with (2 ^ k) n) ≡ true
    → is_in a n ≡ true
of_with a k n within masked free e =
    in_agrees a n masked (λ i low one.
    let other = not_it n k i free one in
    agrees_in a (with (2 ^ k) n) e i low (or_other n.mask k i other ∙ one) ∙ or_other n.address k i other)

pub bit_is : (a k : ℕ) → (bit_at a k ≡ 0) ⊎ (bit_at a k ≡ 1)
bit_is a k = let low = bit_at-lt a k in ⊎_elim (λ z. inl z) (λ nz. inr (omega (arith, low, nz))) (cases_eq (bit_at a k) 0)

-- a bit that a mask has not
abbrev pub IsFree : ℕ → Token → Type 0
IsFree bit n = (k : ℕ) × (k < 32) × (bit ≡ 2 ^ k) × (bit_at n.mask k ≡ 0)

halves_all : (ns : List Token) (n : Token) (k : ℕ) → k < 32 → HasMask n → bit_at n.mask k ≡ 0
    → AdmitsAll ns (without (2 ^ k) n) → AdmitsAll ns (with (2 ^ k) n) → AdmitsAll ns n
halves_all ns n k within masked free first second a low e =
    ⊎_elim
    (λ clear. first a low (in_without a k n within masked clear e))
    (λ set. second a low (in_with a k n within masked set e))
    (bit_is a k)

pub all_of_halves : (ns : List Token) (n : Token) (bit : ℕ) → IsFree bit n → HasMask n
    → AdmitsAll ns (without bit n) → AdmitsAll ns (with bit n) → AdmitsAll ns n
all_of_halves ns n bit (k, within, is, free) masked first second =
    halves_all ns n k within masked free (rw is at first) (rw is at second)

pub first_of_all : (ns : List Token) (n : Token) (bit : ℕ) → IsFree bit n → HasMask n → AdmitsAll ns n
    → AdmitsAll ns (without bit n)
first_of_all ns n bit (k, within, is, free) masked all =
    rw is (λ a low e. all a low (of_without a k n within masked free e))

pub second_of_all : (ns : List Token) (n : Token) (bit : ℕ) → IsFree bit n → HasMask n → AdmitsAll ns n
    → AdmitsAll ns (with bit n)
second_of_all ns n bit (k, within, is, free) masked all =
    rw is (λ a low e. all a low (of_with a k n within masked free e))

zero_times : (n : ℕ) → 0 * n ≡ 0
zero_times n = omega arith

-- its mask grows
pub mask_grows : (n : Token) (bit : ℕ) → IsFree bit n → n.mask < bit_or n.mask bit
mask_grows n bit (k, within, is, free) =
    let apart : bit_and n.mask (2 ^ k) ≡ 0 = and_pow n.mask k ∙ ap (λ x. x * 2 ^ k) free ∙ zero_times (2 ^ k) in
    let sum = or_disjoint n.mask (2 ^ k) apart in
    let some = pow_pos k in
    rw is (omega (arith, sum, some))

-- the bit of another's mask
pub is_free : (m : ℕ) (n : Token) (bit : ℕ) → HasMask n → IsBitOf bit (bit_and m (bit_not w32 n.mask)) → IsFree bit n
is_free m n bit masked b =
    let and = bit_at_and m (bit_not w32 n.mask) b.place in
    let not = bit_at_not w32 n.mask b.place masked b.below in
    let one = b.one in
    let low = bit_at-lt n.mask b.place in
    (b.place, b.below, b.is, omega (arith, and, not, one, low))

-- ---- one that is met

pub found : (ns : List Token) (cube n : Token) → find (meets cube) ns ≡ Some n → meets cube n ≡ true
found [] cube n h = absurd cc
found (m ∷ ns) cube n h =
    both (meets cube m)
    (λ y. let same : Some m ≡ Some n = rw y at h in let is : m ≡ n = cc in subst (λ x. meets cube x ≡ true) is y)
    (λ f. found ns cube n (rw f at h))

pub found_not_all : (ns : List Token) (cube n : Token) → find (meets cube) ns ≡ Some n
    → list_any (has_all_of cube) ns ≡ false → has_all n cube ≡ false
found_not_all [] cube n h none = absurd cc
found_not_all (m ∷ ns) cube n h none =
    both (has_all m cube)
    (λ y. absurd (true≢false (rw y at none)))
    (λ g.
    let rest : list_any (has_all_of cube) ns ≡ false = rw g at none in
    both (meets cube m)
    (λ y. let same : Some m ≡ Some n = rw y at h in let is : m ≡ n = cc in subst (λ x. has_all x cube ≡ false) is g)
    (λ f. found_not_all ns cube n (rw f at h) rest))

pub found_allows : (ns : List Token) (cube n : Token) (a : ℕ) → find (meets cube) ns ≡ Some n → is_in a n ≡ true
    → allows ns a ≡ true
found_allows [] cube n a h e = absurd cc
found_allows (m ∷ ns) cube n a h e =
    both (is_in a m)
    (λ y. rw y)
    (λ g. rw g (both (meets cube m)
    (λ y. let same : Some m ≡ Some n = rw y at h in let is : m ≡ n = cc in
    absurd (true≢false (sym e ∙ subst (λ x. is_in a x ≡ false) is g)))
    (λ f. found_allows ns cube n a (rw f at h) e)))

-- one that has not all of a network and has some of it has a bit that the network has not
free_bits : (m c : ℕ) → m < 2 ^ 32 → c < 2 ^ 32 → bit_and m (bit_not w32 c) ≡ 0 → bit_and m c ≡ m
free_bits m c low low' none =
    same_from_bits (bit_and m c) m (λ i.
    ⊎_elim
    (λ within.
    let and = bit_at_and m (bit_not w32 c) i in
    let not = bit_at_not w32 c i low' within in
    let zero_at : bit_at (bit_and m (bit_not w32 c)) i ≡ 0 = rw none (bit_at-zero i) in
    let and' = bit_at_and m c i in
    let small = bit_at-lt m i in
    let small' = bit_at-lt c i in
    omega (arith, and, not, zero_at, and', small, small'))
    (λ high.
    let none_at : bit_at m i ≡ 0 = bit_at_above m 32 i low high in
    let and' = bit_at_and m c i in
    omega (arith, none_at, and'))
    (cases_lt i 32))

pub has_free : (n cube : Token) → HasMask n → HasMask cube → meets cube n ≡ true → has_all n cube ≡ false
    → 0 < bit_and n.mask (bit_not w32 cube.mask)
has_free n cube masked masked' met part =
    ⊎_elim
    (λ none.
    let whole = free_bits n.mask cube.mask masked masked' none in
    let at : bit_and n.address (bit_and n.mask cube.mask) ≡ bit_and cube.address (bit_and n.mask cube.mask) =
    eqb-true _ _ met in
    let same : bit_and n.address n.mask ≡ bit_and cube.address n.mask =
    subst (λ x. bit_and n.address x ≡ bit_and cube.address x) whole at in
    let yes_all : has_all n cube ≡ true = rw (eq-eqb _ _ whole, eq-eqb _ _ same) in
    absurd (true≢false (sym yes_all ∙ part)))
    (λ some. let s = some in omega (arith, s))
    (cases_eq (bit_and n.mask (bit_not w32 cube.mask)) 0)

-- an address of both
abbrev common : Token → Token → ℕ
common cube n = bit_or (bit_and cube.address (bit_not w32 n.mask)) (bit_and n.address n.mask)

common_at : (cube n : Token) (i : ℕ) → i < 32 → HasMask n
    → bit_at (common cube n) i
    ≡ max (min (bit_at cube.address i) (1 - bit_at n.mask i)) (min (bit_at n.address i) (bit_at n.mask i))
common_at cube n i within masked =
    let or = bit_at_or (bit_and cube.address (bit_not w32 n.mask)) (bit_and n.address n.mask) i in
    let and = bit_at_and cube.address (bit_not w32 n.mask) i in
    let not = bit_at_not w32 n.mask i masked within in
    let and' = bit_at_and n.address n.mask i in
    or ∙ rw (and, and', not)

common_in : (cube n : Token) → HasMask n → is_in (common cube n) n ≡ true
common_in cube n masked =
    in_agrees (common cube n) n masked (λ i within one.
    let at = common_at cube n i within masked in
    let low = bit_at-lt n.address i in
    omega (arith, at, one, low))

common_of : (cube n : Token) → HasMask n → HasMask cube → meets cube n ≡ true → is_in (common cube n) cube ≡ true
common_of cube n masked masked' met =
    in_agrees (common cube n) cube masked' (λ i within one.
    let at = common_at cube n i within masked in
    let same : bit_and n.address (bit_and n.mask cube.mask) ≡ bit_and cube.address (bit_and n.mask cube.mask) =
    eqb-true _ _ met in
    let bits : min (bit_at n.address i) (min (bit_at n.mask i) (bit_at cube.mask i))
    ≡ min (bit_at cube.address i) (min (bit_at n.mask i) (bit_at cube.mask i)) =
    ap (min (bit_at n.address i)) (sym (bit_at_and n.mask cube.mask i))
    ∙ sym (bit_at_and n.address (bit_and n.mask cube.mask) i) ∙ ap (λ x. bit_at x i) same
    ∙ bit_at_and cube.address (bit_and n.mask cube.mask) i
    ∙ ap (min (bit_at cube.address i)) (bit_at_and n.mask cube.mask i) in
    let low = bit_at-lt n.address i in
    let low' = bit_at-lt cube.address i in
    let low'' = bit_at-lt n.mask i in
    omega (arith, at, one, bits, low, low', low''))

pub some_met : (ns : List Token) (cube n : Token) → HasMask n → HasMask cube → cube.address < 2 ^ 32
    → n.address < 2 ^ 32 → find (meets cube) ns ≡ Some n → AdmitsNone ns cube → ⊥
some_met ns cube n masked masked' low low' h none =
    let met = found ns cube n h in
    let x = common cube n in
    let small : x < 2 ^ 32 =
    or_lt 32 (bit_and cube.address (bit_not w32 n.mask)) (bit_and n.address n.mask)
    (let less = and_le_l cube.address (bit_not w32 n.mask) in omega (arith, less, low))
    (let less = and_le_l n.address n.mask in omega (arith, less, low')) in
    true≢false (sym (found_allows ns cube n x h (common_in cube n masked))
    ∙ none x small (common_of cube n masked masked' met))

-- ---- the test of all addresses

every_passes : (test : ℕ → Bool) (n : ℕ) → every test n ≡ true → (k : ℕ) → k < n → test k ≡ true
every_passes test zero h k low = absurd (omega (arith, low))
every_passes test (suc n) h k low =
    let parts = and_parts (test n) (every test n) h in
    ⊎_elim
    (λ same. rw same parts.0)
    (λ other. every_passes test n parts.1 k (omega (arith, low, other)))
    (cases_eq k n)

passes_every : (test : ℕ → Bool) (n : ℕ) → ((k : ℕ) → k < n → test k ≡ true) → every test n ≡ true
passes_every test zero each = refl
passes_every test (suc n) each =
    rw (each n (omega arith), passes_every test n (λ k low. each k (omega (arith, low))))

pub all_tested : (list : List Token) (n : Token) → AdmitsAll list n → admits_all list n ≡ true
unfolding admits_all
all_tested list n all =
    passes_every (is_admitted list n) (2 ^ 32) (λ a low.
    both (is_in a n) (λ y. rw (y, all a low y)) (λ f. rw f))

pub all_found : (list : List Token) (n : Token) → admits_all list n ≡ true → AdmitsAll list n
unfolding admits_all
all_found list n h a low e = rw e at (every_passes (is_admitted list n) (2 ^ 32) h a low)

pub none_tested : (list : List Token) (n : Token) → AdmitsNone list n → admits_none list n ≡ true
unfolding admits_none
none_tested list n none =
    passes_every (is_refused list n) (2 ^ 32) (λ a low.
    both (is_in a n) (λ y. rw (y, none a low y)) (λ f. rw f))

not_true : (b : Bool) → not b ≡ true → b ≡ false
not_true true h = absurd (true≢false (sym h))
not_true false h = refl

pub none_found : (list : List Token) (n : Token) → admits_none list n ≡ true → AdmitsNone list n
unfolding admits_none
none_found list n h a low e =
    let refused : not (allows list a) ≡ true = rw e at (every_passes (is_refused list n) (2 ^ 32) h a low) in
    not_true (allows list a) refused

is_false : (b : Bool) → (b ≡ true → ⊥) → b ≡ false
is_false true h = absurd (h refl)
is_false false h = refl

-- what the code finds
pub not_all_tested : (list : List Token) (n : Token) → (AdmitsAll list n → ⊥) → admits_all list n ≡ false
not_all_tested list n part = is_false (admits_all list n) (λ h. part (all_found list n h))

pub not_none_tested : (list : List Token) (n : Token) → (AdmitsNone list n → ⊥) → admits_none list n ≡ false
not_none_tested list n part = is_false (admits_none list n) (λ h. part (none_found list n h))

-- ---- the highest bit

power_more : (j : ℕ) → 2 ^ suc j ≡ 2 * 2 ^ j
power_more j = let same : suc j ≡ 1 + j = omega arith in ap (λ x. 2 ^ x) same ∙ pow-add 2 1 j

top_bit : (free j : ℕ) → 2 ^ j ≤ free → free < 2 ^ suc j → bit_at free j ≡ 1
top_bit free j least most =
    let double = power_more j in
    let at_least : 1 ≤ free / 2 ^ j = le-div 1 free (2 ^ j) (pow_pos j) (omega (arith, least)) in
    let below : free / 2 ^ j < 2 = div_below free (2 ^ j) 2 (pow_pos j) (omega (arith, most, double)) in
    let one : free / 2 ^ j ≡ 1 = omega (arith, at_least, below) in
    rw one (omega arith)

pub top : (free : ℕ) → 0 < free → free < 2 ^ 32 → IsBitOf (1 * 2 ^ (31 - leading_zeros w32 free) % 2 ^ 32) free
top free some low =
    let found = leading_top 32 free some low in
    let j = found.0 in
    let sum = found.1 in
    let place : 31 - leading_zeros w32 free ≡ j = omega (arith, sum) in
    let within : j < 32 = omega (arith, sum) in
    record {
      place = j;
      below = within;
      is = ap (λ x. 1 * 2 ^ x % 2 ^ 32) place ∙ one_shl j 32 within;
      one = top_bit free j found.2 found.3;
    }

pub ruleset coverage_lemmas = (all_within, none_met)

-- ---- one step of the search

-- the bit by which a network is halved: the highest of one that is met
pub halving : (ns : List Token) (n cube : Token) (bit : ℕ) → HasMask cube
    → IsBitOf bit (bit_and n.mask (bit_not w32 cube.mask)) → IsFree bit cube
halving ns n cube bit masked b = is_free n.mask cube bit masked b

pub some_free : (ns : List Token) (n cube : Token) → HasMask n → HasMask cube → find (meets cube) ns ≡ Some n
    → list_any (has_all_of cube) ns ≡ false → 0 < bit_and n.mask (bit_not w32 cube.mask)
some_free ns n cube masked masked' h part =
    has_free n cube masked masked' (found ns cube n h) (found_not_all ns cube n h part)

-- the code's numbers are below 2 ^ 32
pub mask_low : (n : Token) (address mask : ℕ) → n ≡ record { address = address; mask = mask } → mask < 2 ^ 32
    → HasMask n
mask_low n address mask is low = rw is low

pub address_low : (n : Token) (address mask : ℕ) → n ≡ record { address = address; mask = mask }
    → address < 2 ^ 32 → n.address < 2 ^ 32
address_low n address mask is low = rw is low

pub falls : (n : Token) (bit : ℕ) → IsFree bit n → HasMask n → bit_or n.mask bit < 2 ^ 32
    → 2 ^ 32 - bit_or n.mask bit < 2 ^ 32 - n.mask
falls n bit free masked below = let more = mask_grows n bit free in omega (arith, more, masked, below)
