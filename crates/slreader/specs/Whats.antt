-- What a reader is given, and how much of a piece it takes.
-- SeedLink 3: the dialogue of a reader.
use Rattle.std.specs.Prelude.{◌≡◌, ◌<◌, ◌≤◌, ℕ, Option, Some, None}
use Rattle.slreader.specs.declared.came.What.{What}
use Rattle.slreader.specs.declared.came.What.TheVariants as what
use Rattle.slreader.specs.Dialogue.{Given}
use Rattle.slreader.specs.Dialogue.Given.{Hello, Refused, Packet, End}

-- what was given
abbrev pub what_value : What → Option Given
what_value what.Nothing = None
what_value what.Hello = Some Hello
what_value (what.Refused want) = Some (Refused want)
what_value (what.Packet packet) = Some (Packet packet)
what_value what.End = Some End

-- How much of a piece was read: all of it where nothing was given, else some of it.
abbrev pub Reads : ℕ → What → (size : ℕ) → Type 0
Reads used what.Nothing size = used ≡ size
Reads used what.Hello size = (0 < used) × (used ≤ size)
Reads used (what.Refused want) size = (0 < used) × (used ≤ size)
Reads used (what.Packet packet) size = (0 < used) × (used ≤ size)
Reads used what.End size = (0 < used) × (used ≤ size)
