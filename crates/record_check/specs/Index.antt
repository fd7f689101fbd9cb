-- Where streams stand, found by their codes and their type. The index is this project's own.
use Rattle.std.specs.Prelude.{◌≡◌, ℕ, ◌<◌, ◌≤◌, ◌==◌, Bool, true, ◌&&◌, List, length, get_or, IfSome}
use Rattle.std.specs.Prelude.{Option, Some}
use Rattle.std.specs.declared.hash.FoldHasher.{FoldHasher}
use Rattle.std.specs.declared.hash.BuildHasherDefault.{BuildHasherDefault}
use Rattle.std.specs.HashMap.{HashMap, get}
use Rattle.protocol.specs.Record.{Facts}
use Rattle.text_parts.specs.Spelling.{spelled, AreBytes}
use Rattle.record_check.specs.declared.stream_name.StreamName.{StreamName}
use Rattle.record_check.specs.Streams.{StreamValue, is_of}
use Rattle.record_check.specs.Words.{kind_letter}

-- places by names
abbrev pub StreamPlaces : Type 0
StreamPlaces = HashMap StreamName ℕ (BuildHasherDefault FoldHasher)

-- the names are the same
abbrev pub names_eq : StreamName → StreamName → Bool
names_eq x y =
    (x.network == y.network) && ((x.station == y.station) && ((x.location == y.location)
    && ((x.channel == y.channel) && (x.letter == y.letter))))

-- the name of the stream to which a record belongs
abbrev pub name_of : Facts → StreamName
name_of x =
    record {
      network = spelled x.network;
      station = spelled x.station;
      location = spelled x.location;
      channel = spelled x.channel;
      letter = kind_letter x.kind;
    }

-- a code that can be spelled as a number
pub record IsCode (text : List ℕ) : Type 0 where
  pub short : length text ≤ 7
  pub bytes : AreBytes text

-- a record whose codes are such
pub record AreCodes (x : Facts) : Type 0 where
  pub network : IsCode x.network
  pub station : IsCode x.station
  pub location : IsCode x.location
  pub channel : IsCode x.channel

-- the place of the stream to which a record belongs
abbrev pub place_in : StreamPlaces → Facts → Option ℕ
place_in places x = get names_eq places (name_of x)

-- The stream at that place has the record.
pub record IsAt (x : Facts) (streams : List StreamValue) (k : ℕ) : Type 0 where
  pub within : k < length streams
  pub has : (d : StreamValue) → is_of x (get_or streams k d) ≡ true

-- A record's name leads to the one stream that has the record, and to none if no stream does.
pub record Finds (places : StreamPlaces) (streams : List StreamValue) : Type 0 where
  pub one : (x : Facts) → AreCodes x → (k : ℕ) → (d : StreamValue) → k < length streams
      → is_of x (get_or streams k d) ≡ true → place_in places x ≡ Some k
  pub there : (x : Facts) → AreCodes x → IfSome (place_in places x) (IsAt x streams)
