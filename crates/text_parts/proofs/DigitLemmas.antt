-- Numbers of a few decimal digits.
use Rattle.std.proofs.Common.{ℕ, ◌^◌, ◌<◌, ◌≤◌, Option, None, Some, IfSome, arith}
use Rattle.std.proofs.Math.Nat.{pow-le-pow_right}

-- at most nine decimal digits spell a number below 10^9
pub power_nine : (i n : ℕ) → i ≤ 9 → n < 10 ^ i → n < 1000000000
power_nine i n few below = let top : 10 ^ i ≤ 10 ^ 9 = pow-le-pow_right (omega arith) few in omega arith

-- A number of some digits is below what more digits can spell.
pub below_more : (i j : ℕ) (r : Option ℕ) → i ≤ j → IfSome r (λ n. n < 10 ^ i) → IfSome r (λ n. n < 10 ^ j)
below_more i j None more below = tt
below_more i j (Some n) more below = let top : 10 ^ i ≤ 10 ^ j = pow-le-pow_right (omega arith) more in omega arith
