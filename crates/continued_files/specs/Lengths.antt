-- The length of a file that is kept beside the numbers of its records.
use Rattle.std.specs.Prelude.{ℕ, List}

-- how many records of a file
pub record LengthValue : Type 0 where
  pub name : List ℕ
  pub count : ℕ
