-- Sequence numbers and packets: `SL`, six hexadecimal digits and a record of 512 bytes.
-- SeedLink 3, data packets. Left out: `SLINFO` packets, which answer a command that this server doesn't have.
use Rattle.std.specs.Prelude.{◌≡◌, ℕ, ◌+◌, ◌*◌, ◌-◌, ◌/◌, ◌%◌, ◌^◌, ◌&&◌, nat_le, nat_lt, if◌then◌else◌, List, [], ◌∷◌}
use Rattle.std.specs.Prelude.{◌++◌, length, Option, Some, None, option_and_then, codes}

-- ---- reading a number

-- a hexadecimal digit of either case
abbrev pub hex_digit : ℕ → Option ℕ
hex_digit b =
    if nat_le 48 b && nat_le b 57 then Some (b - 48)
    else if nat_le 65 b && nat_le b 70 then Some (b - 55)
    else if nat_le 97 b && nat_le b 102 then Some (b - 87)
    else None

-- the number that digits spell, behind those that spell n
abbrev pub hex_number : ℕ → List ℕ → Option ℕ
hex_number n [] = Some n
hex_number n (b ∷ bs) = option_and_then (λ d. hex_number (16 * n + d) bs) (hex_digit b)

-- 1 to 6 hexadecimal digits
abbrev pub number_of : List ℕ → Option ℕ
number_of bs = if nat_le 1 (length bs) && nat_le (length bs) 6 then hex_number 0 bs else None

-- ---- writing a number

-- Numbers are those below this one, and the number after the last is 0.
abbrev pub numbers : ℕ
numbers = 0x1000000

-- the number after a number
abbrev pub next_number : ℕ → ℕ
next_number n = (n + 1) % numbers

-- a hexadecimal digit in upper case
abbrev pub digit : ℕ → ℕ
digit n = if nat_lt n 10 then 48 + n else 55 + n

-- six of them
abbrev pub digits : ℕ → List ℕ
digits n = digit (n / 16 ^ 5 % 16) ∷ digit (n / 16 ^ 4 % 16) ∷ digit (n / 16 ^ 3 % 16) ∷ digit (n / 16 ^ 2 % 16) ∷
    digit (n / 16 % 16) ∷ digit (n % 16) ∷ []

-- ---- packets

-- the packet of a record with that number
abbrev pub packet : (number : ℕ) → (contents : List ℕ) → List ℕ
packet number contents = codes "SL" ++ digits number ++ contents

-- A packet in words. Its digits may be of either case.
pub record IsPacket (number : ℕ) (contents bytes : List ℕ) : Type 0 where
  pub digits : List ℕ
  pub six : length digits ≡ 6
  pub spelled : number_of digits ≡ Some number
  pub size : length contents ≡ 512
  pub layout : codes "SL" ++ digits ++ contents ≡ bytes

-- a packet of some number and record
abbrev pub IsSomePacket : List ℕ → Type 0
IsSomePacket bytes = (number : ℕ) × (contents : List ℕ) × IsPacket number contents bytes
