-- What is kept of a record or a packet of which not all bytes have come.
use Rattle.std.specs.Prelude.{ℕ, List}

-- the bytes that have come, and what became whole by the last call
pub record UnfinishedValue : Type 0 where
  pub held : List ℕ
  pub whole : List ℕ
