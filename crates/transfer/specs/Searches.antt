-- How far a search through the records of a ring has come.
use Rattle.std.specs.Prelude.{ℕ}
use Rattle.station_ring.specs.Rings.{RingValue}
use Rattle.session_state.specs.NamedValues.{Choice}
use Rattle.session_state.specs.declared.choices.Cursor.{Cursor}
use Rattle.transfer.specs.declared.searching.Passed.{Passed}
use Rattle.transfer.specs.declared.searching.Passed.TheVariants.{Found, All}
use Rattle.transfer.specs.Cursors.{HasPassed, RestsAt}

-- a cursor of which only so much is known
abbrev pub at_place : (place ended : ℕ) → Cursor
at_place place ended = record { ring_place = place; ended = ended; seen = 0; stamp = 0 }

-- The request rests at the record that was found, or has passed all before the place at which the search ended.
abbrev pub IsPassed : RingValue → (next : ℕ) → Choice → (end : ℕ) → Passed → Type 0
IsPassed r next c end (Found cursor) = RestsAt r next c cursor
IsPassed r next c end (All ended) = HasPassed r next c (at_place end ended)
