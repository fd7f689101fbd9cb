-- The days of years and months.
use Rattle.std.proofs.Common.{◌≡◌, ℕ, ◌+◌, ◌%◌, ◌≤◌, ◌==◌, arith, eqb-true}
use Rattle.std.specs.Prelude.{if◌then◌else◌}
use Rattle.std.proofs.lemmas.Bool.{eqb-false}
use Rattle.protocol.specs.Time.{days_before, is_leap, days_of_year_before}
use Rattle.protocol.proofs.FoundLemmas.{both}

pub year_law : (y : ℕ) → 1 ≤ y → days_before (y + 1) ≡ days_before y + (if is_leap y then 366 else 365)
year_law y some =
    both (y % 4 == 0)
    (λ e4. let four = eqb-true (y % 4) 0 e4 in
    both (y % 100 == 0)
    (λ e100. let hundred = eqb-true (y % 100) 0 e100 in
    both (y % 400 == 0)
    (λ e400. let fours = eqb-true (y % 400) 0 e400 in rw (e4, e100, e400) (omega arith))
    (λ n400. let fours = eqb-false (y % 400) 0 n400 in rw (e4, e100, n400) (omega arith)))
    (λ n100. let hundred = eqb-false (y % 100) 0 n100 in rw (e4, n100) (omega arith)))
    (λ n4. let four = eqb-false (y % 4) 0 n4 in rw n4 (omega arith))

pub months_law : (y : ℕ) → days_of_year_before y 13 ≡ (if is_leap y then 366 else 365)
months_law y = both (is_leap y) (λ e. rw e) (λ e. rw e)
