-- Scripts: a text that spells a list of events, a line an event, and the text of what each take is handed.
use Rattle.std.specs.Prelude.{ℕ, ◌+◌, Bool, true, nat_le, ◌==◌, if◌then◌else◌, List, [], ◌∷◌, ◌++◌, length, take, drop}
use Rattle.std.specs.Prelude.{position, pos, Option, Some, None, option_map, option_and_then, codes}
use Rattle.std.specs.List.{slice_split}
use Rattle.std.specs.Result.{result_ok}
use Rattle.std.specs.Str.{bytes_eq, is_utf8}
use Rattle.protocol.specs.Time.{digits_between}
use Rattle.protocol.specs.declared.record.ByteOrder.TheVariants.{Big}
use Rattle.protocol.specs.Made.{Fields, made}
use Rattle.protocol.specs.Catalog.{Config}
use Rattle.protocol.specs.World.{Event}
use Rattle.protocol.specs.World.Event.{Open, Bytes, Take, Close, Arrive, Reload}
use Rattle.access_list.specs.Addresses.{address_of}
use Rattle.hex.specs.Hex.{decode_of}
use Rattle.toml.specs.Parse.{parse_document}
use Rattle.catalog.specs.Reading.{config_read}

-- ---- numbers and bytes

-- a number of 1 to 10 decimal digits
abbrev pub decimal_of : List ℕ → Option ℕ
decimal_of digits = digits_between 1 10 digits

-- what a take may ask for at most
abbrev pub most_taken : ℕ
most_taken = 1000000

-- a number that a take may have
abbrev pub up_to_most : ℕ → Option ℕ
up_to_most n = if nat_le n most_taken then Some n else None

-- how many bytes a take asks for
abbrev pub count_of : List ℕ → Option ℕ
count_of digits = option_and_then up_to_most (decimal_of digits)

-- the bytes of one or more pairs of hexadecimal digits of either case
abbrev pub hex_of : List ℕ → Option (List ℕ)
hex_of digits = if nat_le 1 (length digits) then result_ok (decode_of digits) else None

-- the 512 bytes of a record
abbrev pub whole_record : List ℕ → Option (List ℕ)
whole_record bytes = if length bytes == 512 then Some bytes else None

-- the bytes of a record by pairs of hexadecimal digits
abbrev pub hex_record_of : List ℕ → Option (List ℕ)
hex_record_of digits = option_and_then whole_record (hex_of digits)

-- ---- lines

-- What stands before a separator, and what stands behind it.
pub record ScriptCut : Type 0 where
  pub front : List ℕ
  pub rest : List ℕ

-- by the place of a separator, where there is one
abbrev pub cut_at : List ℕ → Option ℕ → Option ScriptCut
cut_at text None = None
cut_at text (Some place) = Some (record { front = take place text; rest = drop (place + 1) text })

-- a text cut at its first separator; none where it has none
abbrev pub cut_by : ℕ → List ℕ → Option ScriptCut
cut_by separator text = cut_at text (position (λ b. b == separator) text)

-- a text cut at its first space
abbrev pub cut_of : List ℕ → Option ScriptCut
cut_of text = cut_by 32 text

-- A client's number, and what stands behind the space that follows it.
pub record Addressed : Type 0 where
  pub client : ℕ
  pub rest : List ℕ

-- with a client's number, where that is one
abbrev pub addressed_by : List ℕ → Option ℕ → Option Addressed
addressed_by rest None = None
addressed_by rest (Some client) = Some (record { client = client; rest = rest })

-- a cut text whose front is a client's number
abbrev pub addressed_in : ScriptCut → Option Addressed
addressed_in cut = addressed_by cut.rest (decimal_of cut.front)

-- a text that begins with a client's number and a space
abbrev pub addressed_of : List ℕ → Option Addressed
addressed_of text = option_and_then addressed_in (cut_of text)

-- bytes C HEX
abbrev pub bytes_in : Addressed → Option Event
bytes_in x = option_map (Bytes x.client) (hex_of x.rest)

-- line C TEXT: the text, and a carriage return
abbrev pub line_in : Addressed → Event
line_in x = Bytes x.client (x.rest ++ 13 ∷ [])

-- take C N
abbrev pub take_in : Addressed → Option Event
take_in x = option_map (Take x.client) (count_of x.rest)

-- ---- records by their fields

-- Six parts of a text.
pub record Six : Type 0 where
  pub first : List ℕ
  pub second : List ℕ
  pub third : List ℕ
  pub fourth : List ℕ
  pub fifth : List ℕ
  pub sixth : List ℕ

-- six parts, where there are as many
abbrev pub six_in : List (List ℕ) → Option Six
six_in (a ∷ b ∷ c ∷ d ∷ e ∷ f ∷ []) =
    Some (record { first = a; second = b; third = c; fourth = d; fifth = e; sixth = f })
six_in _ = None

-- the parts of a text that has five separators
abbrev pub six_of : ℕ → List ℕ → Option Six
six_of separator text = six_in (slice_split (λ b. b == separator) text)

-- The numbers of a start, in range or not.
pub record Start : Type 0 where
  pub year : ℕ
  -- of the year
  pub day : ℕ
  pub hour : ℕ
  pub minute : ℕ
  pub second : ℕ
  -- in units of 0.0001 s
  pub fraction : ℕ

-- of six numbers, where all are there
abbrev pub start_with : (year day hour minute second fraction : Option ℕ) → Option Start
start_with (Some y) (Some d) (Some h) (Some m) (Some s) (Some f) =
    Some (record { year = y; day = d; hour = h; minute = m; second = s; fraction = f })
start_with _ _ _ _ _ _ = None

-- of what stands between commas
abbrev pub start_in : Six → Option Start
start_in parts =
    start_with (decimal_of parts.first) (decimal_of parts.second) (decimal_of parts.third) (decimal_of parts.fourth)
    (decimal_of parts.fifth) (decimal_of parts.sixth)

-- Y,D,H,M,S,F
abbrev pub start_of : List ℕ → Option Start
start_of text = option_and_then start_in (six_of 44 text)

-- a word is not empty
abbrev pub word_of : List ℕ → Option (List ℕ)
word_of text = if nat_le 1 (length text) then Some text else None

-- the location's code: `--` is the empty one
abbrev pub location_of : List ℕ → Option (List ℕ)
location_of word = if bytes_eq word (codes "--") then Some [] else word_of word

-- The fields of which a line says the codes, the start and the count of samples. The others are the same for each line:
-- the sequence number 1, the quality D, 100 samples a second, the encoding 11, big order, no further blockette and no
-- data.
abbrev pub fields_told : (network station location channel : List ℕ) → Start → (samples : ℕ) → Fields
fields_told network station location channel start samples =
    record {
      sequence = 1;
      quality = 68;
      station = station;
      location = location;
      channel = channel;
      network = network;
      year = start.year;
      day = start.day;
      hour = start.hour;
      minute = start.minute;
      second = start.second;
      fraction = start.fraction;
      samples = samples;
      factor = pos 100;
      multiplier = pos 1;
      encoding = 11;
      order = Big;
      extra = None;
      contents = [];
    }

-- the fields, where the location, the start and the count of samples are there
abbrev pub fields_with : (network station channel : List ℕ) → Option (List ℕ) → Option Start → Option ℕ → Option Fields
fields_with network station channel (Some location) (Some start) (Some samples) =
    Some (fields_told network station location channel start samples)
fields_with network station channel _ _ _ = None

-- NET STA LOC CHA Y,D,H,M,S,F SAMPLES, cut into words
abbrev pub fields_in : Six → Option Fields
fields_in words = fields_with words.first words.second words.fourth (location_of words.third) (start_of words.fifth)
    (decimal_of words.sixth)

-- the fields that a text tells
abbrev pub fields_of : List ℕ → Option Fields
fields_of text = option_and_then fields_in (six_of 32 text)

-- the record that is made of the fields that a text tells
abbrev pub record_of : List ℕ → Option (List ℕ)
record_of text = option_and_then made (fields_of text)

-- ---- configurations

-- the configuration that a text in UTF-8 is; none where its reading is refused
unfoldable pub config_told : List ℕ → Option Config
config_told text = if is_utf8 text then result_ok (config_read (parse_document text)) else None

-- the configuration whose text pairs of hexadecimal digits spell
abbrev pub hex_config_of : List ℕ → Option Config
hex_config_of digits = option_and_then config_told (hex_of digits)

-- ---- events

-- the event of a line that begins with that name and a space, by what stands behind it
abbrev pub named_event : List ℕ → List ℕ → Option Event
named_event name rest =
    if bytes_eq name (codes "open") then option_map Open (address_of rest)
    else if bytes_eq name (codes "bytes") then option_and_then bytes_in (addressed_of rest)
    else if bytes_eq name (codes "line") then option_map line_in (addressed_of rest)
    else if bytes_eq name (codes "take") then option_and_then take_in (addressed_of rest)
    else if bytes_eq name (codes "close") then option_map Close (decimal_of rest)
    else if bytes_eq name (codes "arrive") then option_map Arrive (record_of rest)
    else if bytes_eq name (codes "arrive-hex") then option_map Arrive (hex_record_of rest)
    else if bytes_eq name (codes "reload") then option_map Reload (hex_config_of rest)
    else None

-- the event of a cut line
abbrev pub event_in : ScriptCut → Option Event
event_in cut = named_event cut.front cut.rest

-- The event of a line, without its end: `open ADDRESS`, `bytes C HEX`, `line C TEXT`, `take C N`, `close C`, `arrive
-- NET STA LOC CHA Y,D,H,M,S,F SAMPLES`, `arrive-hex HEX` or `reload HEX`. C is the number of a client, counted in the
-- order of the lines `open` from 0.
abbrev pub event_of : List ℕ → Option Event
event_of line = option_and_then event_in (cut_of line)

-- ---- scripts

-- an empty line, or one that begins with `#`
abbrev pub is_skipped : List ℕ → Bool
is_skipped [] = true
is_skipped (b ∷ bs) = b == 35

-- an event before others, where all are there
abbrev pub cons_event : Option Event → Option (List Event) → Option (List Event)
cons_event (Some e) (Some es) = Some (e ∷ es)
cons_event _ _ = None

-- the events of lines; none where a line is no event
abbrev pub events_of_lines : List (List ℕ) → Option (List Event)
events_of_lines [] = Some []
events_of_lines (l ∷ ls) = if is_skipped l then events_of_lines ls else cons_event (event_of l) (events_of_lines ls)

-- what ends a line
abbrev pub is_line_feed : ℕ → Bool
is_line_feed b = b == 10

-- The events of a text. Each line ends with a line feed, which the last may lack: what follows the last line feed is an
-- empty line then, and so none.
abbrev pub events_of : List ℕ → Option (List Event)
events_of text = events_of_lines (slice_split is_line_feed text)
