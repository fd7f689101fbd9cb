-- What a line of a script is, in words.
use Rattle.std.specs.Prelude.{◌≡◌, ◌≤◌, ◌↔◌, ◌⊎◌, ℕ, List, [], ◌∷◌, ◌++◌, length, pos, Some, None, Ok, codes}
use Rattle.std.specs.List.{join_with_byte}
use Rattle.std.specs.Str.{IsUtf8}
use Rattle.protocol.specs.declared.record.ByteOrder.TheVariants.{Big}
use Rattle.protocol.specs.Made.{Fields, made}
use Rattle.protocol.specs.Catalog.{Config}
use Rattle.protocol.specs.World.{Event}
use Rattle.protocol.specs.World.Event.{Open, Bytes, Take, Close, Arrive, Reload}
use Rattle.access_list.specs.Addresses.{address_of}
use Rattle.toml.specs.Parse.{parse_document}
use Rattle.catalog.specs.Reading.{config_read}
use Rattle.event_script.specs.Script.{count_of, decimal_of, event_of, hex_of}

-- The words of a line `arrive`, and its start in numbers.
pub record ArriveWords : Type 0 where
  pub network : List ℕ
  pub station : List ℕ
  pub location : List ℕ
  pub channel : List ℕ
  pub year : List ℕ
  pub day : List ℕ
  pub hour : List ℕ
  pub minute : List ℕ
  pub second : List ℕ
  pub fraction : List ℕ
  pub samples : List ℕ

-- Y,D,H,M,S,F: one comma stands between two numbers.
abbrev pub start_text : ArriveWords → List ℕ
start_text w = join_with_byte 44 (w.year ∷ w.day ∷ w.hour ∷ w.minute ∷ w.second ∷ w.fraction ∷ [])

-- NET STA LOC CHA Y,D,H,M,S,F SAMPLES
abbrev pub arrive_text : ArriveWords → List ℕ
arrive_text w = join_with_byte 32 (w.network ∷ w.station ∷ w.location ∷ w.channel ∷ start_text w ∷ w.samples ∷ [])

-- A word is that of a location's code: `--` of the empty one, and else the code itself.
abbrev pub IsLocationWord : List ℕ → List ℕ → Type 0
IsLocationWord word code = ((word ≡ codes "--") × (code ≡ [])) ⊎ ((1 ≤ length word) × (code ≡ word))

-- What the words tell of the fields of a record, and what is the same for each line.
pub record Tells (w : ArriveWords) (f : Fields) : Type 0 where
  pub network : f.network ≡ w.network
  pub station : f.station ≡ w.station
  pub location : IsLocationWord w.location f.location
  pub channel : f.channel ≡ w.channel
  pub year : decimal_of w.year ≡ Some f.year
  pub day : decimal_of w.day ≡ Some f.day
  pub hour : decimal_of w.hour ≡ Some f.hour
  pub minute : decimal_of w.minute ≡ Some f.minute
  pub second : decimal_of w.second ≡ Some f.second
  pub fraction : decimal_of w.fraction ≡ Some f.fraction
  pub samples : decimal_of w.samples ≡ Some f.samples
  pub sequence : f.sequence ≡ 1
  pub quality : f.quality ∷ [] ≡ codes "D"
  pub factor : f.factor ≡ pos 100
  pub multiplier : f.multiplier ≡ pos 1
  pub encoding : f.encoding ≡ 11
  pub order : f.order ≡ Big
  pub extra : f.extra ≡ None
  pub contents : f.contents ≡ []

-- The table of lines: which line is which event. One space stands between two words.
pub data IsLine : List ℕ → Event → Type 0 where
  -- open ADDRESS
  open_line : (address : List ℕ) (a : ℕ) → address_of address ≡ Some a → IsLine (codes "open" ++ 32 ∷ address) (Open a)
  -- bytes C HEX
  bytes_line : (client digits bytes : List ℕ) (c : ℕ) → decimal_of client ≡ Some c → hex_of digits ≡ Some bytes →
      IsLine (codes "bytes" ++ 32 ∷ (client ++ 32 ∷ digits)) (Bytes c bytes)
  -- line C TEXT
  text_line : (client text : List ℕ) (c : ℕ) → decimal_of client ≡ Some c →
      IsLine (codes "line" ++ 32 ∷ (client ++ 32 ∷ text)) (Bytes c (text ++ 13 ∷ []))
  -- take C N
  take_line : (client digits : List ℕ) (c n : ℕ) → decimal_of client ≡ Some c → count_of digits ≡ Some n →
      IsLine (codes "take" ++ 32 ∷ (client ++ 32 ∷ digits)) (Take c n)
  -- close C
  close_line : (client : List ℕ) (c : ℕ) → decimal_of client ≡ Some c → IsLine (codes "close" ++ 32 ∷ client) (Close c)
  -- arrive NET STA LOC CHA Y,D,H,M,S,F SAMPLES
  arrive_line : (w : ArriveWords) (f : Fields) (bytes : List ℕ) → Tells w f → made f ≡ Some bytes →
      IsLine (codes "arrive" ++ 32 ∷ arrive_text w) (Arrive bytes)
  -- arrive-hex HEX
  arrive_hex_line : (digits bytes : List ℕ) → hex_of digits ≡ Some bytes → length bytes ≡ 512 →
      IsLine (codes "arrive-hex" ++ 32 ∷ digits) (Arrive bytes)
  -- reload HEX
  reload_line : (digits text : List ℕ) (config : Config) → hex_of digits ≡ Some text → IsUtf8 text →
      config_read (parse_document text) ≡ Ok config → IsLine (codes "reload" ++ 32 ∷ digits) (Reload config)

-- what is read of a line is the event that it is by the table, and a line that is in no row has no event
abbrev pub ReadsByTheTable : Type 0
ReadsByTheTable = (line : List ℕ) (e : Event) → (event_of line ≡ Some e) ↔ IsLine line e
