-- The stations of a configuration.
use Rattle.std.specs.Prelude.{Bool, ℕ, List, is_some, position}
use Rattle.protocol.specs.Catalog.{Config, has_codes}

-- One of its stations has these codes.
abbrev pub has_station : Config → List ℕ → List ℕ → Bool
has_station config network station =
    is_some (position (λ e. has_codes network station e.station) config.entries)
