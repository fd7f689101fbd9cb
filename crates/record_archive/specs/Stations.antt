-- The stations whose records are put into an archive.
use Rattle.std.specs.Prelude.{ℕ, Bool, true, false, ◌&&◌, if◌then◌else◌, List, [], ◌∷◌}
use Rattle.std.specs.Str.{bytes_eq}
use Rattle.protocol.specs.Record.{Facts}

-- the codes of a station
pub record CodesValue : Type 0 where
  pub network : List ℕ
  pub station : List ℕ

-- a record of the station with these codes
abbrev pub is_of : Facts → CodesValue → Bool
is_of x c = bytes_eq c.network x.network && bytes_eq c.station x.station

-- a record of one of these stations
abbrev pub is_wanted : List CodesValue → Facts → Bool
is_wanted [] x = false
is_wanted (c ∷ cs) x = if is_of x c then true else is_wanted cs x
