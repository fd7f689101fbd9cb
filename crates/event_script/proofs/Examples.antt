-- Worked lines of scripts.
use Rattle.std.specs.Prelude.{◌≡◌, ⊤, refl, ℕ, Bool, true, false, List, [], ◌∷◌, ◌++◌, Some, None, codes}
use Rattle.std.specs.Fmt.{digits}
use Rattle.std.specs.Str.{chars, is_utf8}
use Rattle.hex.proofs.OnLiterals.{hex_on_literals}
use Rattle.toml.proofs.OnLiterals.{toml_on_literals}
use Rattle.protocol.specs.Catalog.{Station}
use Rattle.protocol.specs.World.{Handed}
use Rattle.protocol.specs.World.Event.{Open, Bytes, Take, Close, Arrive, Reload}
use Rattle.protocol.proofs.Vectors.{sample}
use Rattle.catalog.specs.Keys.{text_at, text_if_any, number_at, number_if_any, elements_at}
use Rattle.catalog.specs.Reading.{config_of, stations_of, station_values, station_of, entry_of}
use Rattle.catalog.specs.Settings.{title_of, access_of, connections_of, station_settings}
use Rattle.record_check.specs.Listing.{reading_of}
use Rattle.event_script.specs.Dialogue.{dialogue_of}
use Rattle.event_script.specs.Script.{config_told, event_of}
use Rattle.event_script.specs.Spelling.{spelled_byte}

-- ---- lines

pub hex_in_either_case : event_of (codes "bytes 12 0aFf") ≡ Some (Bytes 12 (10 ∷ 255 ∷ []))
unfolding hex_on_literals
hex_in_either_case = refl

pub odd_hex : event_of (codes "bytes 0 484") ≡ None
unfolding hex_on_literals
odd_hex = refl

pub no_hex : event_of (codes "bytes 0 ") ≡ None
no_hex = refl

pub empty_line : event_of (codes "line 0 ") ≡ Some (Bytes 0 (13 ∷ []))
empty_line = refl

pub no_line : event_of (codes "line 0") ≡ None
no_line = refl

pub line_with_spaces : event_of (codes "line 7  CAT ") ≡ Some (Bytes 7 (codes " CAT \r"))
line_with_spaces = refl

pub most : event_of (codes "take 9999999999 1000000") ≡ Some (Take 9999999999 1000000)
most = refl

pub above_most : event_of (codes "take 0 1000001") ≡ None
above_most = refl

pub eleven_digits : event_of (codes "close 00000000000") ≡ None
eleven_digits = refl

pub ten_digits : event_of (codes "close 0000000003") ≡ Some (Close 3)
ten_digits = refl

pub two_spaces : event_of (codes "take 0  1") ≡ None
two_spaces = refl

pub a_return : event_of (codes "take 0 1\r") ≡ None
a_return = refl

-- ---- records

pub arrival : event_of (codes "arrive GE APE -- BHZ 2024,60,0,0,0,0 100") ≡ Some (Arrive sample)
arrival = refl

pub leading_zeros : event_of (codes "arrive GE APE -- BHZ 0000002024,060,00,00,00,00 0100") ≡ Some (Arrive sample)
leading_zeros = refl

pub no_location : event_of (codes "arrive GE APE  BHZ 2024,60,0,0,0,0 100") ≡ None
no_location = refl

pub six_numbers : event_of (codes "arrive GE APE -- BHZ 2024,60,0,0,0,0,0 100") ≡ None
six_numbers = refl

pub day_367 : event_of (codes "arrive GE APE -- BHZ 2024,367,0,0,0,0 100") ≡ None
day_367 = refl

pub many_samples : event_of (codes "arrive GE APE -- BHZ 2024,60,0,0,0,0 65536") ≡ None
many_samples = refl

pub short_record : event_of (codes "arrive-hex 0a0a") ≡ None
unfolding hex_on_literals
short_record = refl

-- ---- configurations

-- what an example unfolds to compute what keys hold, and the configuration of a text
unfoldable keys_on_literals : ⊤
unfolding title_of access_of connections_of station_settings text_at text_if_any number_at number_if_any elements_at
keys_on_literals = tt

unfoldable stations_on_literals : ⊤
unfolding keys_on_literals config_of stations_of station_values station_of entry_of
stations_on_literals = tt

unfoldable config_on_literals : ⊤
unfolding hex_on_literals toml_on_literals stations_on_literals is_utf8 chars config_told
config_on_literals = tt

-- one station
abbrev small : Station
small = record { network = codes "GE"; code = codes "A"; description = []; capacity = 1; first = 0 }

-- the text has a title and that station
pub reload : event_of (codes "reload 7469746c653d2254220a5b5b73746174696f6e5d5d0a6e6574"
    ++ codes "776f726b3d224745220a636f64653d2241220a646573637269" ++ codes "7074696f6e3d22220a63617061636974793d310a")
    ≡ Some (Reload (record {
      title = codes "T";
      max_connections = 100;
      access = None;
      entries = record { station = small; access = None } ∷ [];
    }))
unfolding config_on_literals
reload = refl

-- no TOML: `a`
pub no_document : event_of (codes "reload 61") ≡ None
unfolding config_on_literals
no_document = refl

-- no UTF-8
pub no_text : event_of (codes "reload ff") ≡ None
unfolding config_on_literals
no_text = refl

pub no_configuration : event_of (codes "reload ") ≡ None
no_configuration = refl

-- ---- dialogues

-- what an example unfolds to compute a dialogue
unfoldable dialogue_on_literals : ⊤
unfolding digits reading_of spelled_byte
dialogue_on_literals = tt

-- what a take of the first client was handed
abbrev took : List ℕ → Bool → Handed
took bytes ended = record { client = 0; bytes = bytes; ended = ended }

pub lines_of_a_client : dialogue_of (Open 0x0a000007 ∷ Open 0xac100009 ∷ Bytes 0 (codes "HELLO\r")
    ∷ Bytes 1 (codes "HEL") ∷ Bytes 1 (0 ∷ 171 ∷ codes "\\\n\r") ∷ Close 1 ∷ []) []
    ≡ codes "0 open 10.0.0.7\n1 open 172.16.0.9\n0 > HELLO\n1 >> HEL\n1 > \\x00\\xab\\\\\\n\n1 close\n"
unfolding dialogue_on_literals
lines_of_a_client = refl

pub lines_of_takes : dialogue_of (Take 0 4 ∷ Take 0 3 ∷ Take 0 1 ∷ Take 0 1 ∷ [])
    (took (codes "OK\r\n") false ∷ took (codes "END") false ∷ took [] false ∷ took [] true ∷ [])
    ≡ codes "0 < OK\n0 << END\n0 nothing\n0 end\n"
unfolding dialogue_on_literals
lines_of_takes = refl

pub line_of_an_arrival : dialogue_of (Arrive sample ∷ []) []
    ≡ codes "arrive GE APE -- BHZ D 17091648000000 17091648010000 100\n"
unfolding dialogue_on_literals
line_of_an_arrival = refl

pub line_of_a_packet : dialogue_of (Take 0 520 ∷ []) (took (codes "SLFFFFFE" ++ sample) false ∷ [])
    ≡ codes "0 packet FFFFFE GE APE -- BHZ D 17091648000000 17091648010000 100\n"
unfolding dialogue_on_literals
line_of_a_packet = refl

pub line_of_no_record : dialogue_of (Arrive (codes "000001X") ∷ []) [] ≡ codes "arrive refused 2 Quality\n"
unfolding dialogue_on_literals
line_of_no_record = refl
