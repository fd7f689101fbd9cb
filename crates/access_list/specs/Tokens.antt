-- The list of addresses and masks that a text spells.
use Rattle.std.specs.Prelude.{ℕ, ◌+◌, ◌-◌, ◌^◌, Bool, ◌||◌, nat_le, ◌==◌, if◌then◌else◌, List, [], ◌∷◌, take, drop}
use Rattle.std.specs.Prelude.{position, Option, Some, None, option_and_then, Result, Ok, Err, false, find}
use Rattle.std.specs.Prelude.{is_err}
use Rattle.protocol.specs.Access.{Token}
use Rattle.protocol.specs.Pieces.{split, without_empty}
use Rattle.protocol.specs.Time.{digits_between}
use Rattle.access_list.specs.Addresses.{address_of}
use Rattle.access_list.specs.declared.fault.AccessFault.{AccessFault}
use Rattle.access_list.specs.declared.fault.AccessFault.TheVariants.{Address, Mask}

-- ---- masks

-- the mask of that many leading one-bits, of 32
abbrev pub ones : ℕ → ℕ
ones count = 0x100000000 - 2 ^ (32 - count)

abbrev pub ones_up_to_32 : ℕ → Option ℕ
ones_up_to_32 count = if nat_le count 32 then Some (ones count) else None

-- as many leading one-bits as a number 0 to 32 of one or two digits says
abbrev pub leading_ones_of : List ℕ → Option ℕ
leading_ones_of text = option_and_then ones_up_to_32 (digits_between 1 2 text)

abbrev pub or_else : Option ℕ → Option ℕ → Option ℕ
or_else (Some n) other = Some n
or_else None other = other

-- the mask that a text spells: a number of leading one-bits, or four numbers as those of an address
abbrev pub mask_of : List ℕ → Option ℕ
mask_of text = or_else (leading_ones_of text) (address_of text)

-- ---- tokens

abbrev pub is_slash : ℕ → Bool
is_slash b = b == 47

-- a token of what stands before a slash and what stands behind it; the first is judged first
abbrev pub token_by : Option ℕ → Option ℕ → Result Token AccessFault
token_by None mask = Err Address
token_by (Some a) None = Err Mask
token_by (Some a) (Some m) = Ok (record { address = a; mask = m })

-- by the place of the first slash; where there is none, all bits of an address count
abbrev pub token_at : List ℕ → Option ℕ → Result Token AccessFault
token_at text None = token_by (address_of text) (Some (ones 32))
token_at text (Some slash) = token_by (address_of (take slash text)) (mask_of (drop (slash + 1) text))

-- the token that a text spells, or why it spells none
abbrev pub token_of : List ℕ → Result Token AccessFault
token_of text = token_at text (position is_slash text)

-- ---- lists

-- Spaces and commas part tokens, and nothing else does.
abbrev pub is_separator : ℕ → Bool
is_separator b = b == 32 || b == 44

-- a token before others; the first fault counts
abbrev pub cons_token : Result Token AccessFault → Result (List Token) AccessFault → Result (List Token) AccessFault
cons_token (Err e) others = Err e
cons_token (Ok t) (Err e) = Err e
cons_token (Ok t) (Ok ts) = Ok (t ∷ ts)

-- the tokens that texts spell, or the first fault
abbrev pub tokens_of : List (List ℕ) → Result (List Token) AccessFault
tokens_of [] = Ok []
tokens_of (p ∷ ps) = cons_token (token_of p) (tokens_of ps)

-- the list that a text spells, or why it spells none
abbrev pub list_of : List ℕ → Result (List Token) AccessFault
list_of text = tokens_of (without_empty (split is_separator text))

-- what stands between two separators, and spells no token
abbrev pub is_refused : List ℕ → Bool
is_refused [] = false
is_refused (b ∷ bs) = is_err (token_of (b ∷ bs))

-- the first entry of a text that spells no token
abbrev pub first_refused : List ℕ → Option (List ℕ)
first_refused text = find is_refused (split is_separator text)
