-- A text that is kept.
use Rattle.std.specs.Prelude.{ℕ, Bool, false, List, [], Option, None}

-- a text, whether a station was silent when it was made, and when that was, if it holds
pub record KeptValue : Type 0 where
  pub body : List ℕ
  pub is_silent : Bool
  pub made : Option ℕ

abbrev pub no_text : KeptValue
no_text = record { body = []; is_silent = false; made = None }
