-- A template that is filled: its own text as it stands, and each value escaped.
use Rattle.std.specs.Prelude.{ℕ, Bool, true, nat_lt, ◌==◌, if◌then◌else◌, List, [], ◌∷◌, ◌++◌, flat_map}
use Rattle.std.specs.Prelude.{codes, length}
use Rattle.std.specs.Option.{is_some}
use Rattle.status_page.specs.declared.escape.Language.{Language}
use Rattle.status_page.specs.declared.place.Place.{Place}
use Rattle.status_page.specs.declared.template.Piece.{Piece}
use Rattle.status_page.specs.declared.template.Piece.TheVariants.{Text, Value, TextOrNull}
use Rattle.status_page.specs.declared.template.Chosen.{Chosen}
use Rattle.status_page.specs.declared.template.Chosen.TheVariants.{All, Silent, Holding}
use Rattle.status_page.specs.declared.template.StationRows.{StationRows}
use Rattle.status_page.specs.declared.template.Section.{Section}
use Rattle.status_page.specs.declared.template.Section.TheVariants.{Once, Stations, Clients, Refusals, Away, AwayAtAll}
use Rattle.status_page.specs.declared.template.Section.TheVariants.{Buckets, StationList, ClientList}
use Rattle.status_page.specs.declared.value.StatusValue.{StatusValue}
use Rattle.status_page.specs.declared.value.StationStatus.{StationStatus}
use Rattle.status_page.specs.declared.value.ClientStatus.{ClientStatus}
use Rattle.status_page.specs.declared.value.NamedCount.{NamedCount}
use Rattle.status_page.specs.declared.value.TurnBucket.{TurnBucket}
use Rattle.status_page.specs.Escapes.{escaped}
use Rattle.status_page.specs.Places.{bucket_text, client_text, count_text, server_text, station_text}
use Rattle.status_page.specs.Values.{is_silent}

-- a value of JSON that may be missing: in double quotes, or `null` if it is empty
abbrev pub text_or_null : Language → List ℕ → List ℕ
text_or_null language bytes =
    if length bytes == 0 then codes "null" else codes "\"" ++ escaped language bytes ++ codes "\""

-- a piece, by the value at each place
abbrev pub piece_text : Language → (Place → List ℕ) → Piece → List ℕ
piece_text language value (Text t) = t.now
piece_text language value (Value place) = escaped language (value place)
piece_text language value (TextOrNull place) = text_or_null language (value place)

-- a row of such pieces
abbrev pub row_text : Language → List Piece → (Place → List ℕ) → List ℕ
row_text language pieces value = flat_map (piece_text language value) pieces

-- A station has a row.
abbrev pub is_chosen : Chosen → StationStatus → Bool
is_chosen All s = true
is_chosen Silent s = is_silent s
is_chosen Holding s = is_some s.last

abbrev pub station_row : Language → StationRows → StationStatus → List ℕ
station_row language rows s =
    if is_chosen rows.chosen s then row_text language rows.pieces.now (station_text s) else []

abbrev pub station_rows : Language → StationRows → List StationStatus → List ℕ
station_rows language rows ss = flat_map (station_row language rows) ss

unfoldable pub client_row : Language → List Piece → ClientStatus → List ℕ
client_row language pieces c = row_text language pieces (client_text c)

abbrev pub client_rows : Language → List Piece → List ClientStatus → List ℕ
client_rows language pieces cs = flat_map (client_row language pieces) cs

-- all stations, with a comma between two of them
unfoldable pub later_station : Language → List Piece → StationStatus → List ℕ
later_station language pieces s = codes "," ++ row_text language pieces (station_text s)

abbrev pub station_list : Language → List Piece → List StationStatus → List ℕ
station_list language pieces [] = []
station_list language pieces (s ∷ ss) =
    row_text language pieces (station_text s) ++ flat_map (later_station language pieces) ss

-- all clients, with a comma between two of them
unfoldable pub later_client : Language → List Piece → ClientStatus → List ℕ
later_client language pieces c = codes "," ++ client_row language pieces c

abbrev pub client_list : Language → List Piece → List ClientStatus → List ℕ
client_list language pieces [] = []
client_list language pieces (c ∷ cs) = client_row language pieces c ++ flat_map (later_client language pieces) cs

unfoldable pub count_row : Language → List Piece → NamedCount → List ℕ
count_row language pieces n = row_text language pieces (count_text n)

abbrev pub count_rows : Language → List Piece → List NamedCount → List ℕ
count_rows language pieces ns = flat_map (count_row language pieces) ns

-- a count has a row if it is not 0
abbrev pub counted_row : Language → List Piece → NamedCount → List ℕ
counted_row language pieces n = if nat_lt 0 n.count then count_row language pieces n else []

abbrev pub counted_rows : Language → List Piece → List NamedCount → List ℕ
counted_rows language pieces ns = flat_map (counted_row language pieces) ns

unfoldable pub bucket_row : Language → List Piece → TurnBucket → List ℕ
bucket_row language pieces b = row_text language pieces (bucket_text b)

abbrev pub bucket_rows : Language → List Piece → List TurnBucket → List ℕ
bucket_rows language pieces bs = flat_map (bucket_row language pieces) bs

-- a section: once for the server, or a row for each of a list
abbrev pub section_text : Language → StatusValue → Section → List ℕ
section_text language v (Once pieces) = row_text language pieces.now (server_text v)
section_text language v (Stations rows) = station_rows language rows v.stations.now
section_text language v (Clients pieces) = client_rows language pieces.now v.clients.now
section_text language v (StationList pieces) = station_list language pieces.now v.stations.now
section_text language v (ClientList pieces) = client_list language pieces.now v.clients.now
section_text language v (Refusals pieces) = count_rows language pieces.now v.refusals.now
section_text language v (Away pieces) = count_rows language pieces.now v.away.now
section_text language v (AwayAtAll pieces) = counted_rows language pieces.now v.away.now
section_text language v (Buckets pieces) = bucket_rows language pieces.now v.turns.buckets.now

-- a template, filled
abbrev pub filled : Language → StatusValue → (template : List Section) → List ℕ
filled language v template = flat_map (section_text language v) template

-- ---- the texts of a template

abbrev pub own_text : Piece → List (List ℕ)
own_text (Text t) = t.now ∷ []
own_text (Value place) = []
own_text (TextOrNull place) = codes "null" ∷ codes "\"" ∷ []

abbrev pub texts_of : List Piece → List (List ℕ)
texts_of pieces = flat_map own_text pieces

abbrev pub section_texts : Section → List (List ℕ)
section_texts (Once pieces) = texts_of pieces.now
section_texts (Stations rows) = texts_of rows.pieces.now
section_texts (Clients pieces) = texts_of pieces.now
section_texts (StationList pieces) = codes "," ∷ texts_of pieces.now
section_texts (ClientList pieces) = codes "," ∷ texts_of pieces.now
section_texts (Refusals pieces) = texts_of pieces.now
section_texts (Away pieces) = texts_of pieces.now
section_texts (AwayAtAll pieces) = texts_of pieces.now
section_texts (Buckets pieces) = texts_of pieces.now

-- the texts of a template itself
abbrev pub own_texts : List Section → List (List ℕ)
own_texts template = flat_map section_texts template
