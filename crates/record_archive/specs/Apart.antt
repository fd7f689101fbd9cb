-- Records of two streams are never put into one file, and the path of a file says of which station its records are.
use Rattle.std.specs.Prelude.{◌≡◌, ◌↔◌, ℕ, Bool, true, [], ◌∷◌, ◌++◌, List}
use Rattle.continued_files.specs.Names.{has_text}
use Rattle.protocol.specs.Record.{Facts, trimmed}
use Rattle.record_archive.specs.Paths.{has_place, folder_text, file_text, with_mark}

-- the path of the file of a record of a day
abbrev pub path_in : (year day : ℕ) → Facts → List ℕ
path_in year day x = folder_text year x ++ 47 ∷ file_text year day x

-- Both are of one stream.
pub record IsSameStream (x y : Facts) : Type 0 where
  pub network : x.network ≡ y.network
  pub station : x.station ≡ y.station
  pub location : trimmed x.location ≡ trimmed y.location
  pub channel : trimmed x.channel ≡ trimmed y.channel
  pub kind : x.kind ≡ y.kind

-- If two records have the same path, they are of one stream.
abbrev pub ArePutApart : Type 0
ArePutApart = (x y : Facts) (year day year' day' : ℕ) → has_place x ≡ true → has_place y ≡ true
    → path_in year day x ≡ path_in year' day' y → IsSameStream x y

-- the folders of a station, as they stand in a path after its year
abbrev pub station_folders : (network station : List ℕ) → List ℕ
station_folders network station = 47 ∷ (with_mark network 47 ++ with_mark station 47)

-- A file of that name is in the folders of a station, of whatever year.
abbrev pub is_below : (network station name : List ℕ) → Bool
is_below network station name = has_text 4 (station_folders network station) name

-- Both are of one station.
abbrev pub AreOfStation : Facts → Facts → Type 0
AreOfStation x y = (x.network ≡ y.network) × (x.station ≡ y.station)

-- A record is put into a file in the folders of a station exactly if it is of that station, of which there is a record
-- that has a place.
abbrev pub AreBelowTheirStation : Type 0
AreBelowTheirStation = (x y : Facts) (year day : ℕ) → has_place x ≡ true → has_place y ≡ true
    → is_below y.network y.station (path_in year day x) ≡ true ↔ AreOfStation x y
