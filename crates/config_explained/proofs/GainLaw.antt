-- The networks that gain admit the addresses that the new list admits and the old one doesn't.
use Rattle.std.proofs.Common.{◌≡◌, ◌≢◌, ◌∙◌, ℕ, zero, suc, ◌*◌, ◌<◌, ◌≤◌, ◌^◌, ◌==◌, ◌&&◌, ◌||◌, Bool, true, false}
use Rattle.std.proofs.Common.{true≢false, List, [], ◌∷◌, ◌++◌, refl, sym, ap, arith, eqb-true, eq-eqb}
use Rattle.std.proofs.Common.{◌⊎◌, ⊎_elim, inl, inr, not}
use Rattle.std.specs.Prelude.{bit_and, bit_or}
use Rattle.std.specs.Int.{bit_at, bit_not, w32}
use Rattle.std.proofs.lemmas.Bool.{cases_eq, cases_lt}
use Rattle.std.proofs.lemmas.List.Folds.{list_any-append}
use Rattle.std.proofs.lemmas.Nat.{and_assoc, and_le_l, or_lt, pow_pos}
use Rattle.std.proofs.lemmas.Nat.Bits.{and_pow, bit_at-lt, bit_at-zero, bit_at_above}
use Rattle.std.proofs.lemmas.Nat.Bits.{bit_at_and, bit_at_or, same_from_bits}
use Rattle.protocol.proofs.FoundLemmas.{both}
use Rattle.protocol.specs.Access.{HasMask, Token, allows, is_in}
use Rattle.config_explained.specs.Coverage.{AdmitsAll, AdmitsNone, admits_all, admits_none}
use Rattle.config_explained.specs.Coverage.{coverage, meets, with, without}
use Rattle.config_explained.specs.Gains.{by_gain, everything, gain_of, gains, gains_in, masks_at, masks_of}
use Rattle.config_explained.specs.declared.coverage.Coverage.{Coverage}
use Rattle.config_explained.specs.declared.coverage.Coverage.TheVariants.{Whole, Part, Nothing}
use Rattle.config_explained.proofs.CoverageLemmas.{agrees_in, all_found, all_tested, below_32}
use Rattle.config_explained.proofs.CoverageLemmas.{bit_is, clear_same, in_with}
use Rattle.config_explained.proofs.CoverageLemmas.{in_without, none_found, none_tested}
use Rattle.config_explained.proofs.CoverageLemmas.{not_all_tested, not_both, of_with}
use Rattle.config_explained.proofs.CoverageLemmas.{clear_other, is_itself, meets_at, of_without, or_other, or_same}

-- ---- the bits of masks

mask_kept : (ns : List Token) (m : ℕ) (n : Token) (i : ℕ) → bit_at m i ≡ 1 → bit_at (masks_of m n ns) i ≡ 1
mask_kept [] m n i one = one
mask_kept (t ∷ ts) m n i one =
    both (meets n t)
    (λ y. rw y (mask_kept ts (bit_or m t.mask) n i
    (let or = bit_at_or m t.mask i in let low = bit_at-lt t.mask i in omega (arith, or, one, low))))
    (λ f. rw f (mask_kept ts m n i one))

-- each bit of a mask
abbrev HasBits : ℕ → Token → Type 0
HasBits masks n = (i : ℕ) → bit_at masks i ≡ 1 → bit_at n.mask i ≡ 1

-- of two addresses in a network that has all bits of a mask, that mask admits both or none
same_in : (t n : Token) (a : ℕ) → ((i : ℕ) → bit_at t.mask i ≡ 1 → bit_at n.mask i ≡ 1) → is_in a n ≡ true
    → is_in a t ≡ is_in n.address t
same_in t n a within e =
    let narrow : bit_and n.mask t.mask ≡ t.mask =
    same_from_bits (bit_and n.mask t.mask) t.mask (λ i.
    let and = bit_at_and n.mask t.mask i in
    ⊎_elim
    (λ zero_bit. omega (arith, and, zero_bit))
    (λ one. let one' = within i one in omega (arith, and, one, one'))
    (bit_is t.mask i)) in
    let at : bit_and a n.mask ≡ bit_and n.address n.mask = eqb-true _ _ e in
    let same : bit_and a t.mask ≡ bit_and n.address t.mask =
    ap (bit_and a) (sym narrow) ∙ sym (and_assoc t.mask a n.mask) ∙ ap (λ x. bit_and x t.mask) at
    ∙ and_assoc t.mask n.address n.mask ∙ ap (bit_and n.address) narrow in
    ap (λ x. x == bit_and t.address t.mask) same

not_in : (b : Bool) → (b ≡ true → ⊥) → b ≡ false
not_in true h = absurd (h refl)
not_in false h = refl

-- none of a network's addresses is in one that it doesn't meet
not_met : (t n : Token) (a : ℕ) → meets n t ≡ false → is_in a n ≡ true → is_in a t ≡ false
not_met t n a apart e = not_in (is_in a t) (λ y. true≢false (sym (meets_at t n a e y) ∙ apart))

alike : (ns : List Token) (m : ℕ) (n : Token) (a : ℕ) → HasBits (masks_of m n ns) n → is_in a n ≡ true
    → allows ns a ≡ allows ns n.address
alike [] m n a bits e = refl
alike (t ∷ ts) m n a bits e =
    both (meets n t)
    (λ y.
    let bits' : HasBits (masks_of (bit_or m t.mask) n ts) n = rw y at bits in
    let head : is_in a t ≡ is_in n.address t =
    same_in t n a (λ i one. bits' i (mask_kept ts (bit_or m t.mask) n i
    (let or = bit_at_or m t.mask i in let low = bit_at-lt m i in omega (arith, or, one, low)))) e in
    let tail : allows ts a ≡ allows ts n.address = alike ts (bit_or m t.mask) n a bits' e in
    rw (head, tail))
    (λ f.
    let bits' : HasBits (masks_of m n ts) n = rw f at bits in
    let one = not_met t n a f e in
    let two = not_met t n n.address f (is_itself n) in
    let tail : allows ts a ≡ allows ts n.address = alike ts m n a bits' e in
    rw (one, two, tail))

-- ---- how much is admitted

whole_is : (list : List Token) (n : Token) → coverage list n ≡ Whole → AdmitsAll list n
whole_is list n h =
    both (admits_all list n)
    (λ y. all_found list n y)
    (λ f. both (admits_none list n)
    (λ y. let no : Nothing ≡ Whole = rw (f, y) at h in cc)
    (λ g. let no : Part ≡ Whole = rw (f, g) at h in cc))

nothing_is : (list : List Token) (n : Token) → coverage list n ≡ Nothing → AdmitsNone list n
nothing_is list n h =
    both (admits_all list n)
    (λ y. let no : Whole ≡ Nothing = rw y at h in cc)
    (λ f. both (admits_none list n)
    (λ y. none_found list n y)
    (λ g. let no : Part ≡ Nothing = rw (f, g) at h in cc))

is_whole : (list : List Token) (n : Token) → AdmitsAll list n → coverage list n ≡ Whole
is_whole list n all = let yes = all_tested list n all in rw yes

is_nothing : (list : List Token) (n : Token) → n.address < 2 ^ 32 → AdmitsNone list n → coverage list n ≡ Nothing
is_nothing list n low none =
    let no = not_all_tested list n (λ all. not_both list n low none all) in
    let yes = none_tested list n none in
    rw (no, yes)

-- ---- one network

-- an address that the new list admits and the old one doesn't
abbrev pub gained : (old new : List Token) → ℕ → Bool
gained old new a = allows new a && not (allows old a)

-- networks admit exactly those that a network has
pub record Admit (old new : List Token) (n : Token) (a : ℕ) (networks : List Token) : Type 0 where
  pub inside : is_in a n ≡ true → allows networks a ≡ gained old new a
  pub outside : is_in a n ≡ false → allows networks a ≡ false

no_gain : (b c : Bool) → c ≡ true → (b && not c) ≡ false
no_gain true true e = refl
no_gain true false e = absurd (true≢false (sym e))
no_gain false c e = refl

a_gain : (b c : Bool) → b ≡ true → c ≡ false → (b && not c) ≡ true
a_gain true false e f = refl
a_gain true true e f = absurd (true≢false f)
a_gain false c e f = absurd (true≢false (sym e))

by_parts : (old new : List Token) (n : Token) (a : ℕ) (halves : List Token) → a < 2 ^ 32 → (x y : Coverage)
    → coverage old n ≡ x → coverage new n ≡ y → (gain_of x y ≡ Part → Admit old new n a halves)
    → Admit old new n a (by_gain (gain_of x y) n halves)
by_parts old new n a halves low Whole y is is' cut = record {
  inside = λ e. sym (no_gain (allows new a) (allows old a) (whole_is old n is a low e));
  outside = λ e. refl;
}
by_parts old new n a halves low Part Nothing is is' cut = record {
  inside = λ e. let none = nothing_is new n is' a low e in rw none;
  outside = λ e. refl;
}
by_parts old new n a halves low Part Whole is is' cut = cut refl
by_parts old new n a halves low Part Part is is' cut = cut refl
by_parts old new n a halves low Nothing Nothing is is' cut = record {
  inside = λ e. let none = nothing_is new n is' a low e in rw none;
  outside = λ e. refl;
}
by_parts old new n a halves low Nothing Whole is is' cut = record {
  inside = λ e.
      let gain = a_gain (allows new a) (allows old a) (whole_is new n is' a low e) (nothing_is old n is a low e) in
      rw (e, gain);
  outside = λ e. rw e;
}
by_parts old new n a halves low Nothing Part is is' cut = cut refl

-- ---- its halves

or_false : (b : Bool) → (b || false) ≡ b
or_false true = refl
or_false false = refl

not_with : (a k : ℕ) (n : Token) → k < 32 → bit_at a k ≡ 0 → is_in a (with (2 ^ k) n) ≡ false
not_with a k n within clear =
    not_in (is_in a (with (2 ^ k) n)) (λ e.
    let at = agrees_in a (with (2 ^ k) n) e k within (or_same n.mask k) in
    let one = or_same n.address k in
    omega (arith, at, one, clear))

not_without : (a k : ℕ) (n : Token) → k < 32 → bit_at a k ≡ 1 → is_in a (without (2 ^ k) n) ≡ false
not_without a k n within set =
    not_in (is_in a (without (2 ^ k) n)) (λ e.
    let at = agrees_in a (without (2 ^ k) n) e k within (or_same n.mask k) in
    let none = clear_same n.address k within in
    omega (arith, at, none, set))

halves_admit : (old new : List Token) (n : Token) (a k : ℕ) (first second : List Token) → k < 32 → HasMask n
    → bit_at n.mask k ≡ 0 → Admit old new (without (2 ^ k) n) a first → Admit old new (with (2 ^ k) n) a second
    → Admit old new n a (first ++ second)
halves_admit old new n a k first second within masked free one two = record {
  inside = λ e.
      list_any-append (is_in a) first second
      ∙ ⊎_elim
      (λ clear.
      let left = one.inside (in_without a k n within masked clear e) in
      let right = two.outside (not_with a k n within clear) in
      rw (left, right) (or_false (gained old new a)))
      (λ set.
      let left = one.outside (not_without a k n within set) in
      let right = two.inside (in_with a k n within masked set e) in
      rw (left, right))
      (bit_is a k);
  outside = λ e.
      let left = one.outside (not_in (is_in a (without (2 ^ k) n)) (λ y.
      true≢false (sym (of_without a k n within masked free y) ∙ e))) in
      let right = two.outside (not_in (is_in a (with (2 ^ k) n)) (λ y.
      true≢false (sym (of_with a k n within masked free y) ∙ e))) in
      list_any-append (is_in a) first second ∙ rw (left, right);
}

-- ---- all cuts

-- a network that was cut, from a bit on, at the bits of those masks that are left there
record IsCut (old new : List Token) (k : ℕ) (n : Token) : Type 0 where
  done : (i : ℕ) → k ≤ i → bit_at (masks_at old new n) i ≡ 1 → bit_at n.mask i ≡ 1
  free : (i : ℕ) → i < k → bit_at n.mask i ≡ 0
  masked : HasMask n
  low : n.address < 2 ^ 32

passed : (old new : List Token) (k : ℕ) (n : Token) → bit_at (masks_at old new n) k ≡ 0 → IsCut old new (suc k) n
    → IsCut old new k n
passed old new k n none c = record {
  done = λ i above one.
      ⊎_elim
      (λ same. let at : i ≡ k = same in absurd (let one' : bit_at (masks_at old new n) k ≡ 1 = rw at at one in
      omega (arith, none, one')))
      (λ other. c.done i (omega (arith, above, other)) one)
      (cases_eq i k);
  free = λ i below. c.free i (omega (arith, below));
  masked = c.masked;
  low = c.low;
}

-- a network that a part of one meets meets that
meets_whole : (t n : Token) (k address : ℕ) → HasMask n
    → ((i : ℕ) → i ≢ k → i < 32 → bit_at address i ≡ bit_at n.address i) → bit_at n.mask k ≡ 0
    → meets (record { address = address; mask = bit_or n.mask (2 ^ k) }) t ≡ true → meets n t ≡ true
meets_whole t n k address masked same free met =
    let at : bit_and t.address (bit_and t.mask (bit_or n.mask (2 ^ k)))
    ≡ bit_and address (bit_and t.mask (bit_or n.mask (2 ^ k))) = eqb-true _ _ met in
    eq-eqb _ _ (same_from_bits (bit_and t.address (bit_and t.mask n.mask)) (bit_and n.address (bit_and t.mask n.mask))
    (λ i.
    let left = bit_at_and t.address (bit_and t.mask n.mask) i in
    let right = bit_at_and n.address (bit_and t.mask n.mask) i in
    let both_masks = bit_at_and t.mask n.mask i in
    ⊎_elim
    (λ clear. omega (arith, left, right, both_masks, clear))
    (λ set.
    let other : i ≢ k = λ e. (let set' : bit_at n.mask k ≡ 1 = rw e at set in omega (arith, set', free)) in
    let within : i < 32 = below_mask n i masked set in
    let bits : bit_at (bit_and t.address (bit_and t.mask (bit_or n.mask (2 ^ k)))) i
    ≡ bit_at (bit_and address (bit_and t.mask (bit_or n.mask (2 ^ k)))) i = ap (λ x. bit_at x i) at in
    let l = bit_at_and t.address (bit_and t.mask (bit_or n.mask (2 ^ k))) i in
    let r = bit_at_and address (bit_and t.mask (bit_or n.mask (2 ^ k))) i in
    let m = bit_at_and t.mask (bit_or n.mask (2 ^ k)) i in
    let o = or_other n.mask k i other in
    let s = same i other within in
    omega (arith, left, right, both_masks, bits, l, r, m, o, s, set))
    (bit_is n.mask i)))
  where
    below_mask : (n : Token) (i : ℕ) → HasMask n → bit_at n.mask i ≡ 1 → i < 32
    below_mask n i masked set =
        ⊎_elim
        (λ within. within)
        (λ above. let none = bit_at_above n.mask 32 i masked above in absurd (omega (arith, none, set)))
        (cases_lt i 32)

-- so no bit is left in a part that is not left in the whole
fewer : (ns : List Token) (m m' : ℕ) (n half : Token) (i : ℕ)
    → ((t : Token) → meets half t ≡ true → meets n t ≡ true) → (bit_at m i ≡ 1 → bit_at m' i ≡ 1)
    → bit_at (masks_of m half ns) i ≡ 1 → bit_at (masks_of m' n ns) i ≡ 1
fewer [] m m' n half i whole kept one = kept one
fewer (t ∷ ts) m m' n half i whole kept one =
    both (meets half t)
    (λ y.
    rw (whole t y) (fewer ts (bit_or m t.mask) (bit_or m' t.mask) n half i whole
    (λ has.
    let or = bit_at_or m t.mask i in
    let or' = bit_at_or m' t.mask i in
    let low' = bit_at-lt t.mask i in
    let low'' = bit_at-lt m' i in
    ⊎_elim
    (λ clear. omega (arith, or, or', low', low'', clear, has))
    (λ set. let set' = kept set in omega (arith, or', low', set'))
    (bit_is m i))
    (rw y at one)))
    (λ f.
    let rest : bit_at (masks_of m half ts) i ≡ 1 = rw f at one in
    both (meets n t)
    (λ y. rw y (fewer ts m (bit_or m' t.mask) n half i whole
    (λ has. let has' = kept has in let or' = bit_at_or m' t.mask i in let low' = bit_at-lt t.mask i in
    omega (arith, has', or', low')) rest))
    (λ g. rw g (fewer ts m m' n half i whole kept rest)))

cut_half : (old new : List Token) (k address : ℕ) (n : Token) → k < 32
    → ((i : ℕ) → i ≢ k → i < 32 → bit_at address i ≡ bit_at n.address i) → address < 2 ^ 32
    → IsCut old new (suc k) n → IsCut old new k (record { address = address; mask = bit_or n.mask (2 ^ k) })
cut_half old new k address n within same low c = record {
  done = λ i above one.
      ⊎_elim
      (λ at. let is : i ≡ k = at in rw is (or_same n.mask k))
      (λ other.
      or_other n.mask k i other
      ∙ c.done i (omega (arith, above, other))
      (fewer new (masks_of 0 half old) (masks_of 0 n old) n half i whole (fewer old 0 0 n half i whole (λ h. h)) one))
      (cases_eq i k);
  free = λ i below. or_other n.mask k i (λ e. omega (arith, below, e)) ∙ c.free i (omega (arith, below));
  masked = or_lt 32 n.mask (2 ^ k) c.masked (below_32 k within);
  low = low;
}
  where
    half : Token
    half = record { address = address; mask = bit_or n.mask (2 ^ k) }

    whole : (t : Token) → meets half t ≡ true → meets n t ≡ true
    whole t met = meets_whole t n k address c.masked same (c.free k (omega arith)) met

-- At the end a list admits all of a network or nothing.
settled : (list : List Token) (n : Token) → n.address < 2 ^ 32
    → ((b : ℕ) → is_in b n ≡ true → allows list b ≡ allows list n.address)
    → (coverage list n ≡ Whole) ⊎ (coverage list n ≡ Nothing)
settled list n low same =
    both (allows list n.address)
    (λ y. inl (is_whole list n (λ b below e. same b e ∙ y)))
    (λ f. inr (is_nothing list n low (λ b below e. same b e ∙ f)))

no_part : (x y : Coverage) → (x ≡ Whole) ⊎ (x ≡ Nothing) → (y ≡ Whole) ⊎ (y ≡ Nothing) → gain_of x y ≡ Part → ⊥
no_part Whole y p q e = cc
no_part Nothing Whole p q e = cc
no_part Nothing Nothing p q e = cc
no_part Nothing Part p q e = ⊎_elim (λ h. cc) (λ h. cc) q
no_part Part y p q e = ⊎_elim (λ h. cc) (λ h. cc) p

no_bit : (masks k : ℕ) → bit_and masks (2 ^ k) ≡ 0 → bit_at masks k ≡ 0
no_bit masks k none =
    ⊎_elim
    (λ clear. clear)
    (λ one.
    let value : bit_and masks (2 ^ k) ≡ 1 * 2 ^ k = and_pow masks k ∙ ap (λ b. b * 2 ^ k) one in
    let some = pow_pos k in
    absurd (omega (arith, value, none, some)))
    (bit_is masks k)

gains_admit : (old new : List Token) (k : ℕ) → k ≤ 32 → (n : Token) → IsCut old new k n → (a : ℕ) → a < 2 ^ 32
    → Admit old new n a (gains_in old new k n)
unfolding gains_in
gains_admit old new zero few n c a low =
    let bits : HasBits (masks_at old new n) n = λ i one. c.done i (omega arith) one in
    let bits' : HasBits (masks_of 0 n old) n = λ i one. bits i (mask_kept new (masks_of 0 n old) n i one) in
    by_parts old new n a [] low (coverage old n) (coverage new n) refl refl (λ part.
    absurd (no_part (coverage old n) (coverage new n)
    (settled old n c.low (λ b e. alike old 0 n b bits' e))
    (settled new n c.low (λ b e. alike new (masks_of 0 n old) n b bits e)) part))
gains_admit old new (suc k) few n c a low =
    let within : k < 32 = omega (arith, few) in
    both (bit_and (masks_at old new n) (2 ^ k) == 0)
    (λ y.
    let next = passed old new k n (no_bit (masks_at old new n) k (eqb-true _ _ y)) c in
    rw y (gains_admit old new k (omega (arith, few)) n next a low))
    (λ f.
    let less = and_le_l n.address (bit_not w32 (2 ^ k)) in
    let first = cut_half old new k (bit_and n.address (bit_not w32 (2 ^ k))) n within
    (λ i other below. clear_other n.address k i within below other) (omega (arith, less, c.low)) c in
    let second = cut_half old new k (bit_or n.address (2 ^ k)) n within (λ i other below. or_other n.address k i other)
    (or_lt 32 n.address (2 ^ k) c.low (below_32 k within)) c in
    let few' : k ≤ 32 = omega (arith, few) in
    rw f (by_parts old new n a
    (gains_in old new k (without (2 ^ k) n) ++ gains_in old new k (with (2 ^ k) n)) low (coverage old n)
    (coverage new n) refl refl (λ part.
    halves_admit old new n a k (gains_in old new k (without (2 ^ k) n))
    (gains_in old new k (with (2 ^ k) n)) within c.masked (c.free k (omega arith))
    (gains_admit old new k few' (without (2 ^ k) n) first a low)
    (gains_admit old new k few' (with (2 ^ k) n) second a low))))

in_everything : (a : ℕ) → is_in a everything ≡ true
in_everything a =
    eq-eqb _ _ (same_from_bits (bit_and a 0) (bit_and 0 0) (λ i.
    let one = bit_at_and a 0 i in
    let two = bit_at_and 0 0 i in
    let none = bit_at-zero i in
    omega (arith, one, two, none)))

-- the networks that gain admit an address exactly if the new list does and the old one doesn't
pub gains_allow : (old new : List Token) → masks_at old new everything < 2 ^ 32 → (a : ℕ) → a < 2 ^ 32
    → allows (gains old new) a ≡ (allows new a && not (allows old a))
gains_allow old new low a below =
    let start : IsCut old new 32 everything = record {
      done = λ i above one. let none = bit_at_above (masks_at old new everything) 32 i low above in
          absurd (omega (arith, none, one));
      free = λ i within. bit_at-zero i;
      masked = omega arith;
      low = omega arith;
    } in
    (gains_admit old new 32 (omega arith) everything start a below).inside (in_everything a)
