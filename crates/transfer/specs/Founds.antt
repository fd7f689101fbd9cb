-- What a request finds at a place of its ring.
-- SeedLink 3, DATA, FETCH and TIME.
use Rattle.std.specs.Prelude.{ℕ, if◌then◌else◌}
use Rattle.station_ring.specs.declared.held.Held.{Held}
use Rattle.session_state.specs.NamedValues.{Choice}
use Rattle.transfer.specs.declared.wanting.Found.{Found}
use Rattle.transfer.specs.declared.wanting.Found.TheVariants.{Wanted, AfterEnd, Unwanted}
use Rattle.transfer.specs.Wanting.{wants_held}
use Rattle.transfer.specs.Cursors.{is_after_end}

-- what it finds, by the record there
abbrev pub found_of : Choice → (next : ℕ) → Held → Found
found_of c next x =
    if wants_held c next x then Wanted x.stamp else (if is_after_end c.action x then AfterEnd else Unwanted)
