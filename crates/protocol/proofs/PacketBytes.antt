-- What may stand in a packet, byte by byte, is what a packet is.
use Rattle.std.proofs.Common.{◌≡◌, ℕ, zero, suc, ◌+◌, ◌*◌, ◌-◌, ◌<◌, ◌≤◌, true, ◌==◌, ◌&&◌, List, [], ◌∷◌, ◌++◌, length}
use Rattle.std.proofs.Common.{nat_lt, Option, Some, None, refl, sym, ap, ◌∙◌, subst, arith, add-zero, zero-add}
use Rattle.std.proofs.Common.{length-append, eqb-true, ne_eqb, inl}
use Rattle.std.proofs.lemmas.Bool.Decides.{nat_tests}
use Rattle.std.specs.Prelude.{is_some}
use Rattle.std.proofs.lemmas.Bool.{and_parts, lt-ltb}
use Rattle.protocol.specs.Packet.{hex_digit, hex_number, number_of, IsSomePacket}
use Rattle.protocol.specs.Streams.{may_stand, may_continue, IsUnfinished}
use Rattle.protocol.proofs.Digits.{first_digit}
use Rattle.protocol.proofs.FoundLemmas.{both}

-- ---- a packet has what may stand in it
may_stand_last : (place b : ℕ) → 8 ≤ place → may_stand place b ≡ true
may_stand_last place b late = grind (arith, nat_tests)

pub contents_continue : (place : ℕ) (bs : List ℕ) → 8 ≤ place → may_continue place bs ≡ true
contents_continue place [] late = refl
contents_continue place (b ∷ bs) late =
    rw (may_stand_last place b late) (contents_continue (place + 1) bs (omega arith))

may_stand_digit : (place b k : ℕ) → 2 ≤ place → place < 8 → hex_digit b ≡ Some k → may_stand place b ≡ true
may_stand_digit place b k low high e =
    rw (ne_eqb place 0 (λ z. absurd (omega arith)), ne_eqb place 1 (λ z. absurd (omega arith)), lt-ltb place 8 high, e)

digits_continue : (place : ℕ) (ds rest : List ℕ) (n m : ℕ) → 2 ≤ place → place + length ds ≡ 8
    → hex_number n ds ≡ Some m → may_continue place (ds ++ rest) ≡ true
digits_continue place [] rest n m low size e = contents_continue place rest (omega arith)
digits_continue place (d ∷ ds) rest n m low size e =
    let first = first_digit n d ds m e in
    rw (may_stand_digit place d first.0 low (omega arith) first.1)
    (digits_continue (place + 1) ds rest (16 * n + first.0) m (omega arith) (omega arith) first.2)

hex_of_number : (ds : List ℕ) (n : ℕ) → length ds ≡ 6 → number_of ds ≡ Some n → hex_number 0 ds ≡ Some n
hex_of_number ds n six e = rw six at e

pub packet_continues : (bytes : List ℕ) → IsSomePacket bytes → may_continue 0 bytes ≡ true
packet_continues bytes (n, contents, p) =
    let size = p.six in
    subst (λ l. may_continue 0 l ≡ true) p.layout
    (digits_continue 2 p.digits contents 0 n (omega arith) (omega arith) (hex_of_number p.digits n p.six p.spelled))

-- ---- and 520 bytes that may stand in a packet are one
some_value : (o : Option ℕ) → is_some o ≡ true → (k : ℕ) × (o ≡ Some k)
some_value (Some k) e = (k, refl)
some_value None e = absurd cc

digit_of_stand : (place b : ℕ) → 2 ≤ place → place < 8 → may_stand place b ≡ true → (k : ℕ) × (hex_digit b ≡ Some k)
digit_of_stand place b low high e =
    some_value (hex_digit b)
    (rw (
      ne_eqb place 0 (λ z. absurd (omega arith)),
      ne_eqb place 1 (λ z. absurd (omega arith)),
      lt-ltb place 8 high,
    ) at e)

one_more : (n d : ℕ) (ds : List ℕ) (first : (k : ℕ) × (hex_digit d ≡ Some k))
    → ((m : ℕ) × (hex_number (16 * n + first.0) ds ≡ Some m)) → (m : ℕ) × (hex_number n (d ∷ ds) ≡ Some m)
one_more n d ds (k, e) (m, f) = (m, rw e f)

number_of_continue : (place : ℕ) (ds rest : List ℕ) (n : ℕ) → 2 ≤ place → place + length ds ≡ 8
    → may_continue place (ds ++ rest) ≡ true → (m : ℕ) × (hex_number n ds ≡ Some m)
number_of_continue place [] rest n low size e = (n, refl)
number_of_continue place (d ∷ ds) rest n low size e =
    let parts = and_parts (may_stand place d) (may_continue (place + 1) (ds ++ rest)) e in
    let first = digit_of_stand place d low (omega arith) parts.0 in
    let more = number_of_continue (place + 1) ds rest (16 * n + first.0) (omega arith) (omega arith) parts.1 in
    one_more n d ds first more

spelled : (ds : List ℕ) (m : ℕ) → length ds ≡ 6 → hex_number 0 ds ≡ Some m → number_of ds ≡ Some m
spelled ds m six e = rw six e

continued_packet : (s l : ℕ) (ds contents : List ℕ) → length ds ≡ 6 → length contents ≡ 512
    → may_continue 0 (s ∷ l ∷ ds ++ contents) ≡ true → IsSomePacket (s ∷ l ∷ ds ++ contents)
continued_packet s l ds contents six size e =
    let s_part = and_parts (s == 83) (may_continue 1 (l ∷ ds ++ contents)) e in
    let l_part = and_parts (l == 76) (may_continue 2 (ds ++ contents)) s_part.1 in
    let number = number_of_continue 2 ds contents 0 (omega arith) (omega arith) l_part.1 in
    let is_s : 83 ≡ s = sym (eqb-true s 83 s_part.0) in
    let is_l : 76 ≡ l = sym (eqb-true l 76 l_part.0) in (
      number.0,
      contents,
      record {
        digits = ds;
        six = six;
        spelled = spelled ds number.0 six number.1;
        size = size;
        layout = ap (λ x. x ∷ 76 ∷ ds ++ contents) is_s ∙ ap (λ x. s ∷ x ∷ ds ++ contents) is_l;
      },
    )

pub whole_packet : (bytes : List ℕ) → length bytes ≡ 520 → may_continue 0 bytes ≡ true → IsSomePacket bytes
whole_packet (s ∷ l ∷ a ∷ b ∷ c ∷ d ∷ e ∷ f ∷ contents) size may =
    continued_packet s l (a ∷ b ∷ c ∷ d ∷ e ∷ f ∷ []) contents refl (omega arith) may
whole_packet [] size may = absurd (omega arith)
whole_packet (a ∷ []) size may = absurd (omega arith)
whole_packet (a ∷ b ∷ []) size may = absurd (omega arith)
whole_packet (a ∷ b ∷ c ∷ []) size may = absurd (omega arith)
whole_packet (a ∷ b ∷ c ∷ d ∷ []) size may = absurd (omega arith)
whole_packet (a ∷ b ∷ c ∷ d ∷ e ∷ []) size may = absurd (omega arith)
whole_packet (a ∷ b ∷ c ∷ d ∷ e ∷ f ∷ []) size may = absurd (omega arith)
whole_packet (a ∷ b ∷ c ∷ d ∷ e ∷ f ∷ g ∷ []) size may = absurd (omega arith)

-- ---- fewer are the beginning of one
pub may_continue-append : (place : ℕ) (xs ys : List ℕ)
    → may_continue place (xs ++ ys) ≡ (may_continue place xs && may_continue (place + length xs) ys)
may_continue-append place [] ys = ap (λ p. may_continue p ys) (sym (add-zero place))
may_continue-append place (x ∷ xs) ys =
    let next : place + 1 + length xs ≡ place + length (x ∷ xs) = omega arith in
    both (may_stand place x)
    (λ y. rw y (may_continue-append (place + 1) xs ys
    ∙ ap (λ p. may_continue (place + 1) xs && may_continue p ys) next))
    (λ n. rw n)

-- what could stand at a place, and so many bytes from it on
filling : ℕ → ℕ
filling zero = 83
filling (suc zero) = 76
filling (suc (suc place)) = 48

filler : (place count : ℕ) → List ℕ
unfolding filling
filler place zero = []
filler place (suc count) = filling place ∷ filler (place + 1) count

zero_stands : (place : ℕ) → 2 ≤ place → may_stand place 48 ≡ true
zero_stands place low =
    rw (ne_eqb place 0 (λ z. absurd (omega arith)), ne_eqb place 1 (λ z. absurd (omega arith)))
    (both (nat_lt place 8) (λ y. rw y) (λ n. rw n))

filling_stands : (place : ℕ) → may_stand place (filling place) ≡ true
unfolding filling
filling_stands zero = refl
filling_stands (suc zero) = refl
filling_stands (suc (suc place)) = zero_stands (suc (suc place)) (omega arith)

filler_continues : (place count : ℕ) → may_continue place (filler place count) ≡ true
unfolding filler
filler_continues place zero = refl
filler_continues place (suc count) = rw (filling_stands place) (filler_continues (place + 1) count)

length-filler : (place count : ℕ) → length (filler place count) ≡ count
unfolding filler
length-filler place zero = refl
length-filler place (suc count) = ap suc (length-filler (place + 1) count)

some_filler : (place count : ℕ) → 0 < count → filler place count ≡ [] → ⊥
some_filler place count some e = let size = length-filler place count in let none : length (filler place count) ≡ 0 =
    ap length e in omega arith

pub begun_packet : (bytes : List ℕ) → length bytes < 520 → may_continue 0 bytes ≡ true → IsUnfinished bytes
begun_packet bytes short may =
    let count = 520 - length bytes in
    let more = filler (length bytes) count in
    let size : length (bytes ++ more) ≡ 520 = length-append bytes more
    ∙ (let s = length-filler (length bytes) count in omega arith) in
    let whole : may_continue 0 (bytes ++ more) ≡ true = may_continue-append 0 bytes more
    ∙ rw (may, zero-add (length bytes), filler_continues (length bytes) count) in
    (more, some_filler (length bytes) count (omega arith), inl (whole_packet (bytes ++ more) size whole))
