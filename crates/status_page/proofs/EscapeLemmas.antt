-- A template that is filled, piece by piece.
use Rattle.std.proofs.Common.{◌≡◌, ◌⊎◌, inl, inr, ℕ, ◌==◌, ◌||◌, nat_lt, Bool, true}
use Rattle.std.proofs.Common.{false, List, [], ◌∷◌, ◌++◌, refl, ap}
use Rattle.std.proofs.Common.{length, if◌then◌else◌, flat_map, append_assoc, append-nil, sym, ◌∙◌, ap₂, subst}
use Rattle.std.specs.Prelude.{codes}
use Rattle.status_page.specs.declared.escape.Language.{Language}
use Rattle.status_page.specs.declared.escape.Language.TheVariants as language
use Rattle.status_page.specs.declared.place.Place.{Place}
use Rattle.status_page.specs.declared.template.Piece.{Piece}
use Rattle.status_page.specs.declared.template.Piece.TheVariants.{Text, Value, TextOrNull}
use Rattle.status_page.specs.declared.template.Section.{Section}
use Rattle.status_page.specs.declared.template.Section.TheVariants.{Once, Stations, Clients, Refusals, Away, Buckets}
use Rattle.status_page.specs.declared.template.Section.TheVariants.{AwayAtAll, StationList, ClientList}
use Rattle.status_page.specs.declared.value.ClientStatus.{ClientStatus}
use Rattle.status_page.specs.declared.value.StationStatus.{StationStatus}
use Rattle.status_page.specs.declared.value.StatusValue.{StatusValue}
use Rattle.status_page.specs.Escapes.{AreAll, IsEscape, IsEscaped, IsHarmless, IsOneOf, IsPiece, escaped, escaped_byte}
use Rattle.status_page.specs.Escapes.{html_byte, joined, json_byte, label_byte, shown_byte}
use Rattle.status_page.specs.Places.{bucket_text, client_text, count_text, server_text, station_text}
use Rattle.status_page.specs.Templates.{filled, is_chosen, own_text, own_texts, piece_text, row_text, section_text}
use Rattle.status_page.specs.Templates.{bucket_row, client_list, client_row, count_row, later_client, later_station}
use Rattle.status_page.specs.Templates.{section_texts, station_list, text_or_null, texts_of}

-- by whether a test holds
choose : (P : List ℕ → Type 0) (c : Bool) (x y : List ℕ) → (c ≡ true → P x) → (c ≡ false → P y)
    → P (if c then x else y)
choose P true x y f g = f refl
choose P false x y f g = g refl

-- ---- one byte

-- an escape, or a byte that means nothing
abbrev IsByte : Language → List ℕ → Type 0
IsByte l piece = IsEscape l piece ⊎ ((b : ℕ) × (piece ≡ b ∷ []) × IsHarmless l b)

html_is : (b : ℕ) → IsByte language.Html (html_byte b)
html_is b =
    choose (IsByte language.Html) (b == 38) _ _ (λ _. inl (inl refl)) (λ n38.
    choose (IsByte language.Html) (b == 60) _ _ (λ _. inl (inr (inl refl))) (λ n60.
    choose (IsByte language.Html) (b == 62) _ _ (λ _. inl (inr (inr (inl refl)))) (λ n62.
    choose (IsByte language.Html) (b == 34) _ _ (λ _. inl (inr (inr (inr (inl refl))))) (λ n34.
    choose (IsByte language.Html) (b == 39) _ _ (λ _. inl (inr (inr (inr (inr (inl refl)))))) (λ n39.
    inr (b, refl, (n38, n60, n62, n34, n39)))))))

label_is : (b : ℕ) → IsByte language.Metrics (label_byte b)
label_is b =
    choose (IsByte language.Metrics) (b == 92) _ _ (λ _. inl (inl refl)) (λ n92.
    choose (IsByte language.Metrics) (b == 34) _ _ (λ _. inl (inr (inl refl))) (λ n34.
    choose (IsByte language.Metrics) (b == 10) _ _ (λ _. inl (inr (inr (inl refl)))) (λ n10.
    inr (b, refl, (n92, n34, n10)))))

shown_is : (b : ℕ) → IsByte language.Plain (shown_byte b)
shown_is b =
    choose (IsByte language.Plain) (nat_lt b 32 || (b == 127)) _ _ (λ _. inr (63, refl, refl)) (λ other. inr (b, refl, other))

json_is : (b : ℕ) → IsByte language.Json (json_byte b)
json_is b =
    choose (IsByte language.Json) (b == 34) _ _ (λ _. inl (inl (inl refl))) (λ n34.
    choose (IsByte language.Json) (b == 92) _ _ (λ _. inl (inl (inr (inl refl)))) (λ n92.
    choose (IsByte language.Json) (nat_lt b 32 || nat_lt 126 b) _ _ (λ _. inl (inr (b, refl))) (λ printable.
    inr (b, refl, (n34, n92, printable)))))

byte_is : (l : Language) (b : ℕ) → IsByte l (escaped_byte l b)
byte_is language.Html b = html_is b
byte_is language.Metrics b = label_is b
byte_is language.Plain b = shown_is b
byte_is language.Json b = json_is b

-- ---- texts one after the other

joined_append : (xs ys : List (List ℕ)) → joined (xs ++ ys) ≡ joined xs ++ joined ys
joined_append [] ys = refl
joined_append (x ∷ xs) ys = ap (λ t. x ++ t) (joined_append xs ys) ∙ sym (append_assoc x (joined xs) (joined ys))

all_append : (P : List ℕ → Type 0) (xs ys : List (List ℕ)) → AreAll P xs → AreAll P ys → AreAll P (xs ++ ys)
all_append P [] ys _ ok = ok
all_append P (x ∷ xs) ys (first, rest) ok = (first, all_append P xs ys rest ok)

-- both of two texts
both : (l : Language) (own : List (List ℕ)) (a b : List ℕ) → IsEscaped l own a → IsEscaped l own b
    → IsEscaped l own (a ++ b)
both l own a b (ps, is, ok) (qs, is', ok') =
    (ps ++ qs, ap₂ (λ x y. x ++ y) is is' ∙ sym (joined_append ps qs), all_append (IsPiece l own) ps qs ok ok')

-- an empty one
none : (l : Language) (own : List (List ℕ)) → IsEscaped l own []
none l own = ([], refl, tt)

-- the texts of each element of a list
each : {A : Type 0} (l : Language) (own : List (List ℕ)) (f : A → List ℕ) → ((x : A) → IsEscaped l own (f x))
    → (xs : List A) → IsEscaped l own (flat_map f xs)
each l own f ok [] = none l own
each l own f ok (x ∷ xs) = both l own (f x) (flat_map f xs) (ok x) (each l own f ok xs)

-- a value
value_is : (l : Language) (own : List (List ℕ)) (bytes : List ℕ) → IsEscaped l own (escaped l bytes)
value_is l own [] = none l own
value_is l own (b ∷ bytes) =
    both l own (escaped_byte l b) (escaped l bytes)
    (escaped_byte l b ∷ [], sym (append-nil (escaped_byte l b)), (inr (byte_is l b), tt)) (value_is l own bytes)

-- ---- more texts of a template

more_left : (xs ys : List (List ℕ)) (t : List ℕ) → IsOneOf xs t → IsOneOf (xs ++ ys) t
more_left [] ys t never = absurd never
more_left (x ∷ xs) ys t is = elim is [ inl same ↦ inl same | inr later ↦ inr (more_left xs ys t later) ]

more_right : (xs ys : List (List ℕ)) (t : List ℕ) → IsOneOf ys t → IsOneOf (xs ++ ys) t
more_right [] ys t is = is
more_right (x ∷ xs) ys t is = inr (more_right xs ys t is)

weaker : (P Q : List ℕ → Type 0) → ((t : List ℕ) → P t → Q t) → (ts : List (List ℕ)) → AreAll P ts → AreAll Q ts
weaker P Q f [] _ = tt
weaker P Q f (t ∷ ts) (first, rest) = (f t first, weaker P Q f ts rest)

piece_of_more : (l : Language) (own more : List (List ℕ)) → ((t : List ℕ) → IsOneOf own t → IsOneOf more t)
    → (t : List ℕ) → IsPiece l own t → IsPiece l more t
piece_of_more l own more f t is = elim is [ inl own_one ↦ inl (f t own_one) | inr byte ↦ inr byte ]

with_more : (l : Language) (own more : List (List ℕ)) → ((t : List ℕ) → IsOneOf own t → IsOneOf more t)
    → (text : List ℕ) → IsEscaped l own text → IsEscaped l more text
with_more l own more f text (ps, is, ok) =
    (ps, is, weaker (IsPiece l own) (IsPiece l more) (piece_of_more l own more f) ps ok)

-- ---- rows, sections and templates

-- a text of the template's own
own_is : (l : Language) (own : List (List ℕ)) (t : List ℕ) → IsOneOf own t → IsEscaped l own t
own_is l own t is = (t ∷ [], sym (append-nil t), (inl is, tt))

or_null_is : (l : Language) (bytes : List ℕ) → IsEscaped l (codes "null" ∷ codes "\"" ∷ []) (text_or_null l bytes)
or_null_is l bytes =
    let own : List (List ℕ) = codes "null" ∷ codes "\"" ∷ [] in
    choose (IsEscaped l own) (length bytes == 0) _ _ (λ _. own_is l own (codes "null") (inl refl))
    (λ _. both l own (codes "\"") (escaped l bytes ++ codes "\"") (own_is l own (codes "\"") (inr (inl refl)))
    (both l own (escaped l bytes) (codes "\"") (value_is l own bytes) (own_is l own (codes "\"") (inr (inl refl)))))

piece_is : (l : Language) (value : Place → List ℕ) (piece : Piece) → IsEscaped l (own_text piece) (piece_text l value piece)
piece_is l value (Text t) = (t.now ∷ [], sym (append-nil t.now), (inl (inl refl), tt))
piece_is l value (Value place) = value_is l [] (value place)
piece_is l value (TextOrNull place) = or_null_is l (value place)

row_is : (l : Language) (value : Place → List ℕ) (pieces : List Piece)
    → IsEscaped l (texts_of pieces) (row_text l pieces value)
row_is l value [] = none l []
row_is l value (p ∷ pieces) =
    let all : List (List ℕ) = own_text p ++ texts_of pieces in
    both l all (piece_text l value p) (row_text l pieces value)
    (with_more l (own_text p) all (more_left (own_text p) (texts_of pieces)) _ (piece_is l value p))
    (with_more l (texts_of pieces) all (more_right (own_text p) (texts_of pieces)) _ (row_is l value pieces))

chosen_row : (l : Language) (own : List (List ℕ)) (c : Bool) (text : List ℕ) → IsEscaped l own text
    → IsEscaped l own (if c then text else [])
chosen_row l own c text is = choose (IsEscaped l own) c text [] (λ _. is) (λ _. none l own)

-- a row, where a comma is a text of the template too
row_in_list : (l : Language) (value : Place → List ℕ) (pieces : List Piece)
    → IsEscaped l (codes "," ∷ texts_of pieces) (row_text l pieces value)
row_in_list l value pieces =
    with_more l (texts_of pieces) (codes "," ∷ texts_of pieces) (λ t is. inr is) _ (row_is l value pieces)

-- a comma and a row
later_is : (l : Language) (value : Place → List ℕ) (pieces : List Piece)
    → IsEscaped l (codes "," ∷ texts_of pieces) (codes "," ++ row_text l pieces value)
later_is l value pieces =
    let own : List (List ℕ) = codes "," ∷ texts_of pieces in
    both l own (codes ",") (row_text l pieces value) (own_is l own (codes ",") (inl refl)) (row_in_list l value pieces)

stations_are : (l : Language) (pieces : List Piece) (ss : List StationStatus)
    → IsEscaped l (codes "," ∷ texts_of pieces) (station_list l pieces ss)
unfolding later_station
stations_are l pieces [] = none l (codes "," ∷ texts_of pieces)
stations_are l pieces (s ∷ ss) =
    let own : List (List ℕ) = codes "," ∷ texts_of pieces in
    both l own (row_text l pieces (station_text s)) (flat_map (later_station l pieces) ss)
    (row_in_list l (station_text s) pieces)
    (each l own (later_station l pieces) (λ x. later_is l (station_text x) pieces) ss)

clients_are : (l : Language) (pieces : List Piece) (cs : List ClientStatus)
    → IsEscaped l (codes "," ∷ texts_of pieces) (client_list l pieces cs)
unfolding client_row later_client
clients_are l pieces [] = none l (codes "," ∷ texts_of pieces)
clients_are l pieces (c ∷ cs) =
    let own : List (List ℕ) = codes "," ∷ texts_of pieces in
    both l own (row_text l pieces (client_text c)) (flat_map (later_client l pieces) cs)
    (row_in_list l (client_text c) pieces)
    (each l own (later_client l pieces) (λ x. later_is l (client_text x) pieces) cs)

section_is : (l : Language) (v : StatusValue) (section : Section)
    → IsEscaped l (section_texts section) (section_text l v section)
unfolding client_row count_row bucket_row
section_is l v (Once pieces) = row_is l (server_text v) pieces.now
section_is l v (Stations rows) =
    each l (texts_of rows.pieces.now) _ (λ s. chosen_row l _ (is_chosen rows.chosen s) _
    (row_is l (station_text s) rows.pieces.now)) v.stations.now
section_is l v (Clients pieces) = each l _ _ (λ c. row_is l (client_text c) pieces.now) v.clients.now
section_is l v (StationList pieces) = stations_are l pieces.now v.stations.now
section_is l v (ClientList pieces) = clients_are l pieces.now v.clients.now
section_is l v (Refusals pieces) = each l _ _ (λ n. row_is l (count_text n) pieces.now) v.refusals.now
section_is l v (Away pieces) = each l _ _ (λ n. row_is l (count_text n) pieces.now) v.away.now
section_is l v (AwayAtAll pieces) =
    each l (texts_of pieces.now) _ (λ n. chosen_row l _ (nat_lt 0 n.count) _ (row_is l (count_text n) pieces.now)) v.away.now
section_is l v (Buckets pieces) = each l _ _ (λ b. row_is l (bucket_text b) pieces.now) v.turns.buckets.now

-- a whole template
pub filled_is : (l : Language) (v : StatusValue) (template : List Section)
    → IsEscaped l (own_texts template) (filled l v template)
filled_is l v [] = none l []
filled_is l v (s ∷ template) =
    let all : List (List ℕ) = section_texts s ++ own_texts template in
    both l all (section_text l v s) (filled l v template)
    (with_more l (section_texts s) all (more_left (section_texts s) (own_texts template)) _ (section_is l v s))
    (with_more l (own_texts template) all (more_right (section_texts s) (own_texts template)) _ (filled_is l v template))
