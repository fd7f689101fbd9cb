-- What one piece of a feed gives: the record that it makes whole, if it makes one whole, and what is left of the
-- cutter. The feed is this project's own.
use Rattle.std.specs.Prelude.{◌≡◌, ℕ, List, [], ◌∷◌, ◌++◌, Option, Some, None, ⊤}
use Rattle.std.specs.Borrow.{Bor, MutBor, Fml}
use mathlib.Core.Option.{none}
use denote.Follow.{follows_so}
use Rattle.protocol.specs.Streams.{FeedRead}
use Rattle.feeder.specs.declared.cutter.FeedCutter.{FeedCutter}
use Rattle.feeder.specs.contracts.cutter.FeedCutter.{the_row}

-- a feed that is read so far
abbrev pub feed_read : (records : List (List ℕ)) (rest : List ℕ) → FeedRead
feed_read records rest = record { records = records; rest = rest }

-- the records that are lent: one or none
abbrev pub lent_records : Option (Bor (List ℕ)) → List (List ℕ)
lent_records None = []
lent_records (Some whole) = whole.now ∷ []

-- what is left over: nothing behind a record that became whole, and else all that was held and came
abbrev pub left_over : (held piece : List ℕ) → Option (Bor (List ℕ)) → List ℕ
left_over held piece None = held ++ piece
left_over held piece (Some whole) = []

-- Once the lent record is let go, the cutter holds that.
abbrev pub Leaves : MutBor FeedCutter → List ℕ → Fml
Leaves cutter left = follows_so the_row the_row cutter.ghost_name none (λ _ _. ⊤) (λ held. held ≡ left)
