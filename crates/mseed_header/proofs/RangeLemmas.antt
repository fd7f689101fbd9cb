-- Numbers of a type are in its range.
use Rattle.std.proofs.Common.{◌≡◌, ℕ, suc, ◌<◌, ◌&&◌, nat_le, nat_lt, Bool, true, false, List, [], ◌∷◌, length, get_or}
use Rattle.std.proofs.Common.{ℤ, refl, ◌∙◌, w16, arith, lt-ltb}
use Rattle.std.specs.Prelude.{FitsSigned}
use Rattle.std.specs.List.{list_all}
use Rattle.std.proofs.lemmas.Int.{ints}
use Rattle.protocol.specs.Made.{Fields, is_short, is_extra, is_in_range, has_start_in_range}
use Rattle.std.proofs.lemmas.Bool.{and_parts}
use Rattle.protocol.proofs.FoundLemmas.{both}
use Rattle.mseed_header.specs.Fields.{head_in_range, rest_in_range}

all_bytes : (bs : List ℕ) → ((i : ℕ) → get_or bs i 0 < 256) → list_all (λ b. nat_lt b 256) bs ≡ true
all_bytes [] each = refl
all_bytes (b ∷ bs) each = rw (lt-ltb b 256 (each 0)) (all_bytes bs (λ i. each (suc i)))

pub of_bytes : (bs : List ℕ) → ((i : ℕ) → get_or bs i 0 < 256)
    → nat_le (length bs) 448 ≡ (nat_le (length bs) 448 && list_all (λ b. nat_lt b 256) bs)
of_bytes bs each = rw (all_bytes bs each) (both (nat_le (length bs) 448) (λ y. rw y) (λ n. rw n))

and_two : (b c d : Bool) → (b && (c && d)) ≡ (b && c && d)
and_two true c d = refl
and_two false c d = refl

and_five : (h e s l : Bool) → (h && (e && (s && l))) ≡ (h && true && true && true && true && e && s && l)
and_five true e s l = and_two e s l
and_five false e s l = refl

-- numbers that their types keep in range
pub record HaveTypes (f : Fields) : Type 0 where
  pub samples : f.samples < 65536
  pub factor : FitsSigned w16 f.factor
  pub multiplier : FitsSigned w16 f.multiplier
  pub encoding : f.encoding < 256

short : (z : ℤ) → FitsSigned w16 z → is_short z ≡ true
short z fits = grind (arith, ints)

pub in_range_by : (f : Fields) → HaveTypes f → head_in_range f ≡ true → rest_in_range f ≡ is_in_range f
in_range_by f types head =
    let same : rest_in_range f ≡ (head_in_range f && rest_in_range f) = rw head refl in
    same ∙ rw (
      lt-ltb f.samples 65536 types.samples,
      short f.factor types.factor,
      short f.multiplier types.multiplier,
      lt-ltb f.encoding 256 types.encoding,
    )
    (and_five (head_in_range f) (is_extra f.extra) (nat_le (length f.contents) 448)
    (list_all (λ b. nat_lt b 256) f.contents))

-- fields in range have a start in range
pub start_in_range : (f : Fields) → is_in_range f ≡ true → has_start_in_range f ≡ true
start_in_range f e =
    let p1 = and_parts _ _ e in
    let p2 = and_parts _ _ p1.0 in
    let p3 = and_parts _ _ p2.0 in
    let p4 = and_parts _ _ p3.0 in
    let p5 = and_parts _ _ p4.0 in
    let p6 = and_parts _ _ p5.0 in
    let p7 = and_parts _ _ p6.0 in
    (and_parts _ _ p7.0).1
