-- The stations of a server, and what one address sees of them. SeedLink 3, CAT and STATION; seedlink's `access`, of a
-- station and of the whole server. Left out: how a configuration is written, the limits of its values, and wildcards in
-- a station's code.
use Rattle.std.specs.Prelude.{ℕ, Bool, true, false, ◌&&◌, ◌==◌, List, [], ◌∷◌, ◌++◌, Option, Some, None, filter, map}
use Rattle.std.specs.Prelude.{find, codes}
use Rattle.std.specs.Str.{bytes_eq}
use Rattle.protocol.specs.Record.{padded}
use Rattle.protocol.specs.Access.{Token, allows}
use Rattle.protocol.specs.Lines.{line_end}

-- A station's settings. The capacity is how many records are held.
pub record Station : Type 0 where
  pub network : List ℕ
  pub code : List ℕ
  pub description : List ℕ
  pub capacity : ℕ
  -- the number of the station's first record
  pub first : ℕ

-- a station with the list of addresses that may use it, where it has one of its own
pub record Entry : Type 0 where
  pub station : Station
  pub access : Option (List Token)

-- a server's settings, with the list of addresses for the stations that have none of their own
pub record Config : Type 0 where
  pub title : List ℕ
  pub max_connections : ℕ
  pub access : Option (List Token)
  pub entries : List Entry

-- the station's own list decides, without one the global list, and without either everybody is allowed
abbrev pub sees : Option (List Token) → Option (List Token) → ℕ → Bool
sees (Some own) global a = allows own a
sees None (Some global) a = allows global a
sees None None a = true

-- what one address sees
pub record View : Type 0 where
  pub title : List ℕ
  pub stations : List Station

-- the title, and the stations that the address may use, in order
abbrev pub view_of : Config → ℕ → View
view_of config a =
    record {
      title = config.title;
      stations = map (λ e. e.station) (filter (λ e. sees e.access config.access a) config.entries);
    }

-- codes are compared byte for byte
abbrev pub has_codes : List ℕ → List ℕ → Station → Bool
has_codes network code s = bytes_eq s.network network && bytes_eq s.code code

-- the first visible station of that code, of that network where one is named
abbrev pub find_station : View → List ℕ → Option (List ℕ) → Option Station
find_station v code (Some network) = find (has_codes network code) v.stations
find_station v code None = find (λ s. bytes_eq s.code code) v.stations

-- a station's line of CAT
abbrev pub station_line : Station → List ℕ
station_line s = padded 2 s.network ++ 32 ∷ padded 5 s.code ++ 32 ∷ s.description ++ line_end

-- the last line of CAT
abbrev pub end_line : List ℕ
end_line = codes "END" ++ line_end

-- the lines of CAT, in the order of the configuration
abbrev pub listing : View → List (List ℕ)
listing v = map station_line v.stations ++ end_line ∷ []

-- ---- what two configurations have in common

-- the same settings
abbrev pub is_same_station : Station → Station → Bool
is_same_station s t =
    bytes_eq s.network t.network && bytes_eq s.code t.code && bytes_eq s.description t.description
    && (s.capacity == t.capacity) && (s.first == t.first)

-- the same stations in the same order
abbrev pub are_same_stations : List Station → List Station → Bool
are_same_stations [] [] = true
are_same_stations (s ∷ ss) (t ∷ ts) = is_same_station s t && are_same_stations ss ts
are_same_stations _ _ = false

-- the same title and the same stations are seen
abbrev pub is_same_view : View → View → Bool
is_same_view v w = bytes_eq v.title w.title && are_same_stations v.stations w.stations

-- all stations, in order
abbrev pub stations_of : Config → List Station
stations_of config = map (λ e. e.station) config.entries

-- The two may differ in the lists of addresses that may use the stations, and differ in nothing else.
abbrev pub is_same_but_for_access : Config → Config → Bool
is_same_but_for_access config new =
    bytes_eq config.title new.title && (config.max_connections == new.max_connections)
    && are_same_stations (stations_of config) (stations_of new)
