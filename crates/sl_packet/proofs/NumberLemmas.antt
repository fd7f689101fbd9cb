-- The numbers that a few digits spell.
use Rattle.std.proofs.Common.{ℕ, ◌^◌, ◌<◌, ◌≤◌, arith}
use Rattle.std.proofs.Math.Nat.{pow-le-pow_right}

-- at most six hexadecimal digits spell a number below 2^24
pub power_six : (i n : ℕ) → i ≤ 6 → n < 16 ^ i → n < 0x1000000
power_six i n few below = let top : 16 ^ i ≤ 16 ^ 6 = pow-le-pow_right (omega arith) few in omega arith
