-- Four numbers between dots: a text that has a dot is none of them.
use Rattle.std.proofs.Common.{◌≡◌, ℕ, true, false, true≢false, List, [], ◌∷◌, length, nat_le, Option, Some, None, refl}
use Rattle.std.proofs.Common.{sym, ap, ◌∙◌, arith, ◌&&◌}
use Rattle.std.specs.List.{list_any}
use Rattle.std.proofs.lemmas.Bool.Decides.{nat_tests}
use Rattle.protocol.specs.Pieces.{split, cons_first}
use Rattle.protocol.specs.Time.{decimal_digit, decimal_number}
use Rattle.protocol.proofs.FoundLemmas.{both}
use Rattle.protocol.proofs.SplitLemmas.{HasPiece, some_piece}
use Rattle.std.specs.Int.{w32, from_be_bytes}
use Rattle.access_list.specs.Addresses.{is_dot, octet_of, all_four, octets_of_parts, octets_of, big_endian}

-- There are two pieces at least.
abbrev HasTwo : List (List ℕ) → Type 0
HasTwo [] = ⊥
HasTwo (p ∷ []) = ⊥
HasTwo (p ∷ q ∷ ps) = Unit {0}

two_behind : (ps : List (List ℕ)) → HasPiece ps → HasTwo ([] ∷ ps)
two_behind [] some = some
two_behind (p ∷ ps) some = tt

two_grown : (b : ℕ) (ps : List (List ℕ)) → HasTwo ps → HasTwo (cons_first b ps)
two_grown b [] two = absurd two
two_grown b (p ∷ []) two = two
two_grown b (p ∷ q ∷ ps) two = tt

dotted : (d : List ℕ) → list_any is_dot d ≡ true → HasTwo (split is_dot d)
dotted [] e = absurd (true≢false (sym e))
dotted (b ∷ bs) e =
    both (is_dot b)
    (λ y. rw y (two_behind (split is_dot bs) (some_piece is_dot bs)))
    (λ n. rw n (two_grown b (split is_dot bs) (dotted bs (rw n at e))))

whole : (d : List ℕ) → list_any is_dot d ≡ false → split is_dot d ≡ d ∷ []
whole [] e = refl
whole (b ∷ bs) e =
    both (is_dot b)
    (λ y. absurd (true≢false (rw y at e)))
    (λ n. rw (n, whole bs (rw n at e)))

dot_is_no_digit : (b : ℕ) → is_dot b ≡ true → decimal_digit b ≡ None
dot_is_no_digit b y = grind (arith, nat_tests)

no_number : (d : List ℕ) (n : ℕ) → list_any is_dot d ≡ true → decimal_number n d ≡ None
no_number [] n e = absurd (true≢false (sym e))
no_number (b ∷ bs) n e =
    both (is_dot b)
    (λ y. rw (dot_is_no_digit b y))
    (λ no. both (nat_le 48 b && nat_le b 57) (λ y. rw y (no_number bs _ (rw no at e))) (λ y. rw y))

no_octet : (d : List ℕ) → list_any is_dot d ≡ true → octet_of d ≡ None
no_octet d e = both (nat_le 1 (length d) && nat_le (length d) 3) (λ y. rw (y, no_number d 0 e)) (λ n. rw n)

no_fourth : (a b c : Option ℕ) → all_four a b c None ≡ None
no_fourth None b c = refl
no_fourth (Some a) None c = refl
no_fourth (Some a) (Some b) None = refl
no_fourth (Some a) (Some b) (Some c) = refl

too_many : (x y z : List ℕ) (ps : List (List ℕ)) → HasTwo ps → octets_of_parts (x ∷ y ∷ z ∷ ps) ≡ None
too_many x y z [] two = absurd two
too_many x y z (p ∷ []) two = absurd two
too_many x y z (p ∷ q ∷ ps) two = refl

last_octet : (x y z d : List ℕ)
    → octets_of_parts (x ∷ y ∷ z ∷ split is_dot d) ≡ all_four (octet_of x) (octet_of y) (octet_of z) (octet_of d)
last_octet x y z d =
    both (list_any is_dot d)
    (λ e. too_many x y z (split is_dot d) (dotted d e) ∙ sym (no_fourth (octet_of x) (octet_of y) (octet_of z))
    ∙ ap (all_four (octet_of x) (octet_of y) (octet_of z)) (sym (no_octet d e)))
    (λ e. ap (λ ps. octets_of_parts (x ∷ y ∷ z ∷ ps)) (whole d e))

-- the numbers of a text that is cut at its first three dots
pub octets_cut : (text x xs y ys z d : List ℕ) → split is_dot text ≡ x ∷ split is_dot xs
    → split is_dot xs ≡ y ∷ split is_dot ys → split is_dot ys ≡ z ∷ split is_dot d
    → octets_of text ≡ all_four (octet_of x) (octet_of y) (octet_of z) (octet_of d)
octets_cut text x xs y ys z d first second third =
    ap octets_of_parts (first ∙ ap (λ ps. x ∷ ps) (second ∙ ap (λ ps. y ∷ ps) third)) ∙ last_octet x y z d

-- the number of four bytes
pub bits_of : (bs : List ℕ) → length bs ≡ 4 → from_be_bytes w32 bs ≡ big_endian 0 bs
bits_of (a ∷ b ∷ c ∷ d ∷ []) e = omega arith
bits_of [] e = absurd (grind arith)
bits_of (a ∷ []) e = absurd (grind arith)
bits_of (a ∷ b ∷ []) e = absurd (grind arith)
bits_of (a ∷ b ∷ c ∷ []) e = absurd (grind arith)
bits_of (a ∷ b ∷ c ∷ d ∷ x ∷ bs) e = absurd (grind arith)

four_numbers : (a b c d : Option ℕ) (bs : List ℕ) → all_four a b c d ≡ Some bs → length bs ≡ 4
four_numbers None b c d bs e = absurd cc
four_numbers (Some a) None c d bs e = absurd cc
four_numbers (Some a) (Some b) None d bs e = absurd cc
four_numbers (Some a) (Some b) (Some c) None bs e = absurd cc
four_numbers (Some a) (Some b) (Some c) (Some d) bs e = let same : a ∷ b ∷ c ∷ d ∷ [] ≡ bs = cc in ap length (sym same)

pub four_octets : (ps : List (List ℕ)) (bs : List ℕ) → octets_of_parts ps ≡ Some bs → length bs ≡ 4
four_octets [] bs e = absurd cc
four_octets (a ∷ []) bs e = absurd cc
four_octets (a ∷ b ∷ []) bs e = absurd cc
four_octets (a ∷ b ∷ c ∷ []) bs e = absurd cc
four_octets (a ∷ b ∷ c ∷ d ∷ []) bs e = four_numbers (octet_of a) (octet_of b) (octet_of c) (octet_of d) bs e
four_octets (a ∷ b ∷ c ∷ d ∷ x ∷ ps) bs e = absurd cc
