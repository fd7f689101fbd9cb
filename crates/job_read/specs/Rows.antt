-- Records that are added one after the other, none of which stood in a tail.
use Rattle.std.specs.Prelude.{ℕ, ◌+◌, ◌-◌, ◌^◌, Bool, ◌&&◌, min, nat_le, not, if◌then◌else◌}

-- how many they are, and with how many the row is full
pub record RowValue : Type 0 where
  pub limit : ℕ
  pub count : ℕ

-- one more, up to 2^64 - 1
abbrev pub one_more : RowValue → ℕ
one_more r = min (r.count + 1) (2 ^ 64 - 1)

-- The row is full with one more record, which was not passed over.
abbrev pub is_full : RowValue → (is_passed : Bool) → Bool
is_full r is_passed = not is_passed && nat_le r.limit (one_more r)

-- after one more record: it begins anew if that was passed over, and once it is full
abbrev pub row_after : RowValue → (is_passed : Bool) → RowValue
row_after r is_passed =
    if is_passed then record r { count = 0 } else
    (if nat_le r.limit (one_more r) then record r { count = 0 } else record r { count = one_more r })
