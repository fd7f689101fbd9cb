-- Which line of a text is the first that makes it no script.
use Rattle.std.specs.Prelude.{◌≡◌, ◌<◌, ℕ, ◌+◌, List, length, take, None, IsSome}
use Rattle.event_script.specs.Script.{events_of_lines}

-- The lines before one, counted from 1, are a script, and with it they are none.
pub record FailsAtLine (lines : List (List ℕ)) (line : ℕ) : Type 0 where
  -- how many lines stand before it
  pub earlier : ℕ
  pub number : line ≡ earlier + 1
  pub within : earlier < length lines
  pub before : IsSome (events_of_lines (take earlier lines))
  pub fails : events_of_lines (take line lines) ≡ None
