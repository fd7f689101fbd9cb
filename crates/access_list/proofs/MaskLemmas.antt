-- Every token that a text spells has a mask of 32 bits.
use Rattle.std.proofs.Common.{◌≡◌, ℕ, ◌<◌, ◌+◌, ◌-◌, true, take, drop, List, [], ◌∷◌, IfSome, option_map, arith, inl}
use Rattle.std.proofs.Common.{inr, subst, Option, Some, None}
use Rattle.std.specs.Prelude.{◌↔◌, All, IfOk, Result, Ok, Err, option_and_then, position}
use Rattle.std.proofs.lemmas.Bool.Decides.{leb_tells}
use Rattle.std.proofs.lemmas.List.Elements.{All-nil, All-cons}
use Rattle.std.proofs.Math.Pow.{pow-sub-lt}
use Rattle.std.proofs.lemmas.Nat.{pow_pos}
use Rattle.protocol.specs.Access.{Token, HasMask, IsAllowed, allows}
use Rattle.protocol.specs.Pieces.{split, without_empty}
use Rattle.protocol.specs.Time.{digits_between}
use Rattle.protocol.proofs.Masks.{access_law}
use Rattle.access_list.specs.Addresses.{is_dot, byte_of, octet_of, all_four, octets_of_parts, big_endian, address_of}
use Rattle.access_list.specs.Tokens.{ones, ones_up_to_32, leading_ones_of, or_else, mask_of, is_slash, is_separator}
use Rattle.access_list.specs.Tokens.{token_by, token_at, token_of, cons_token, tokens_of, list_of}
use Rattle.access_list.specs.declared.fault.AccessFault.{AccessFault}

abbrev IsByte : ℕ → Type 0
IsByte n = n < 256

abbrev Has32Bits : ℕ → Type 0
Has32Bits n = n < 0x100000000

byte : (k : ℕ) → IfSome (byte_of k) IsByte
byte k = elim (leb_tells k 255) [
  | inl (holds, fits) ↦ rw holds (omega (arith, fits))
  | inr (fails, more) ↦ rw fails tt
]

octet : (digits : List ℕ) → IfSome (octet_of digits) IsByte
octet digits = by (digits_between 1 3 digits)
  where
    by : (o : Option ℕ) → IfSome (option_and_then byte_of o) IsByte
    by None = tt
    by (Some k) = byte k

four : (a b c d : Option ℕ) → IfSome a IsByte → IfSome b IsByte → IfSome c IsByte → IfSome d IsByte →
    IfSome (option_map (big_endian 0) (all_four a b c d)) Has32Bits
four None b c d ha hb hc hd = tt
four (Some a) None c d ha hb hc hd = tt
four (Some a) (Some b) None d ha hb hc hd = tt
four (Some a) (Some b) (Some c) None ha hb hc hd = tt
four (Some a) (Some b) (Some c) (Some d) ha hb hc hd = omega (arith, ha, hb, hc, hd)

parts : (ps : List (List ℕ)) → IfSome (option_map (big_endian 0) (octets_of_parts ps)) Has32Bits
parts [] = tt
parts (a ∷ []) = tt
parts (a ∷ b ∷ []) = tt
parts (a ∷ b ∷ c ∷ []) = tt
parts (a ∷ b ∷ c ∷ d ∷ []) = four (octet_of a) (octet_of b) (octet_of c) (octet_of d) (octet a) (octet b) (octet c)
    (octet d)
parts (a ∷ b ∷ c ∷ d ∷ e ∷ ps) = tt

address_bits : (text : List ℕ) → IfSome (address_of text) Has32Bits
address_bits text = parts (split is_dot text)

ones_bits : (count : ℕ) → IfSome (ones_up_to_32 count) Has32Bits
ones_bits count = elim (leb_tells count 32) [
  | inl (holds, fits) ↦ rw holds (pow-sub-lt 32 (pow_pos (32 - count)))
  | inr (fails, more) ↦ rw fails tt
]

leading_ones_bits : (text : List ℕ) → IfSome (leading_ones_of text) Has32Bits
leading_ones_bits text = by (digits_between 1 2 text)
  where
    by : (o : Option ℕ) → IfSome (option_and_then ones_up_to_32 o) Has32Bits
    by None = tt
    by (Some count) = ones_bits count

mask_bits : (text : List ℕ) → IfSome (mask_of text) Has32Bits
mask_bits text = by (leading_ones_of text) (address_of text) (leading_ones_bits text) (address_bits text)
  where
    by : (o other : Option ℕ) → IfSome o Has32Bits → IfSome other Has32Bits → IfSome (or_else o other) Has32Bits
    by None other h h' = h'
    by (Some n) other h h' = h

masked : (address mask : Option ℕ) → IfSome mask Has32Bits → IfOk (token_by address mask) HasMask
masked None mask h = tt
masked (Some a) None h = tt
masked (Some a) (Some m) h = h

token_masked : (text : List ℕ) → IfOk (token_of text) HasMask
token_masked text = by (position is_slash text)
  where
    all_bits : Has32Bits (ones 32)
    all_bits = pow-sub-lt 32 (pow_pos (32 - 32))

    by : (o : Option ℕ) → IfOk (token_at text o) HasMask
    by None = masked (address_of text) (Some (ones 32)) all_bits
    by (Some slash) =
        masked (address_of (take slash text)) (mask_of (drop (slash + 1) text)) (mask_bits (drop (slash + 1) text))

one_more : (t : Result Token AccessFault) (others : Result (List Token) AccessFault) → IfOk t HasMask →
    IfOk others (All HasMask) → IfOk (cons_token t others) (All HasMask)
one_more (Err e) others h hs = tt
one_more (Ok t) (Err e) h hs = tt
one_more (Ok t) (Ok ts) h hs = All-cons HasMask t ts h hs

all_masked : (ps : List (List ℕ)) → IfOk (tokens_of ps) (All HasMask)
all_masked [] = All-nil HasMask
all_masked (p ∷ ps) = one_more (token_of p) (tokens_of ps) (token_masked p) (all_masked ps)

-- A list that a text spells allows an address exactly where one of its tokens agrees with it.
pub list_allows : (text : List ℕ) (tokens : List Token) → list_of text ≡ Ok tokens → (a : ℕ) →
    (allows tokens a ≡ true) ↔ IsAllowed tokens a
list_allows text tokens is a =
    let whole : IfOk (list_of text) (All HasMask) = all_masked (without_empty (split is_separator text)) in
    access_law tokens a (subst (λ (r : Result (List Token) AccessFault). IfOk r (All HasMask)) is whole)
