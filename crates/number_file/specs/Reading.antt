-- What the text of a file of numbers says, or the first step of its reading that fails. It is TOML. Left out: other
-- keys, which are ignored.
use Rattle.std.specs.Prelude.{ℕ, List, [], ◌∷◌, ◌++◌, Option, Some, None, Result, Ok, Err, codes}
use Rattle.toml.specs.Data.{Data, Members}
use Rattle.protocol.specs.Packet.{number_of}
use Rattle.catalog.specs.Keys.{elements_at, table_in, text_at}
use Rattle.catalog.specs.Numbers.{Numbered}
use Rattle.catalog.specs.Settings.{code_of, network_of}
use Rattle.catalog.specs.Steps.{◌>>=◌, within}
use Rattle.catalog.specs.declared.fault.ConfigFault.{ConfigFault}
use Rattle.catalog.specs.declared.fault.ConfigFault.TheVariants.{Toml}

-- `next`: 1 to 6 hexadecimal digits of either case
unfoldable pub next_of : Members → Result ℕ ConfigFault
next_of members = do
  text ← text_at (codes "next") members
  within (number_of text)

-- the number that a value describes
unfoldable pub number_in : Data → Result Numbered ConfigFault
number_in d = do
  members ← table_in d
  network ← network_of members
  code ← code_of members
  next ← next_of members
  Ok (record { network = network; code = code; next = next })

-- earlier numbers, and those that values describe
abbrev pub numbers_after : List Numbered → List Data → Result (List Numbered) ConfigFault
numbers_after earlier [] = Ok earlier
numbers_after earlier (d ∷ ds) = number_in d >>= (λ n. numbers_after (earlier ++ n ∷ []) ds)

-- the numbers of a table
unfoldable pub numbers_of : Members → Result (List Numbered) ConfigFault
numbers_of members = do
  values ← elements_at (codes "station") members
  numbers_after [] values

-- the numbers of a text, by its table
abbrev pub numbers_read : Option Members → Result (List Numbered) ConfigFault
numbers_read None = Err Toml
numbers_read (Some members) = numbers_of members
