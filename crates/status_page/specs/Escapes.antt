-- How a value stands in a text, and what is then true of the text: it is made of the texts of its template, of escapes
-- and of single bytes that mean nothing in its language. HTML: character references. Prometheus, text format 0.0.4:
-- values of labels. JSON: strings of RFC 8259, section 7.
use Rattle.std.specs.Prelude.{◌≡◌, ◌⊎◌, ℕ, ◌==◌, ◌||◌, nat_lt, false, if◌then◌else◌, List, [], ◌∷◌, ◌++◌, codes}
use Rattle.std.specs.Prelude.{◌+◌, ◌/◌, ◌%◌, flat_map}
use Rattle.status_page.specs.declared.escape.Language.{Language}
use Rattle.status_page.specs.declared.escape.Language.TheVariants.{Html, Metrics, Plain, Json}

-- a byte as HTML has it: `&` is 38, `<` is 60, `>` is 62, `"` is 34, `'` is 39
abbrev pub html_byte : ℕ → List ℕ
html_byte b =
    if b == 38 then codes "&amp;" else if b == 60 then codes "&lt;" else if b == 62 then codes "&gt;"
    else if b == 34 then codes "&quot;" else if b == 39 then codes "&#39;" else b ∷ []

-- a byte of the value of a label: `\` is 92, `"` is 34, LF is 10, `n` is 110
abbrev pub label_byte : ℕ → List ℕ
label_byte b =
    if b == 92 then 92 ∷ 92 ∷ [] else if b == 34 then 92 ∷ 34 ∷ [] else if b == 10 then 92 ∷ 110 ∷ [] else b ∷ []

-- a byte that is shown: what controls a terminal is `?`, 63
abbrev pub shown_byte : ℕ → List ℕ
shown_byte b = if nat_lt b 32 || (b == 127) then 63 ∷ [] else b ∷ []

-- a hexadecimal digit: `0` is 48, `a` is 97
abbrev pub hex_digit : ℕ → ℕ
hex_digit n = if nat_lt n 10 then 48 + n else 87 + n

-- a byte by its number, as `\u001b`
abbrev pub numbered : ℕ → List ℕ
numbered b = codes "\\u00" ++ (hex_digit (b / 16) ∷ hex_digit (b % 16) ∷ [])

-- a byte of a string of JSON: `"` is 34, `\` is 92; printable ASCII is 32 to 126
abbrev pub json_byte : ℕ → List ℕ
json_byte b =
    if b == 34 then 92 ∷ 34 ∷ [] else if b == 92 then 92 ∷ 92 ∷ []
    else if nat_lt b 32 || nat_lt 126 b then numbered b else b ∷ []

abbrev pub escaped_byte : Language → ℕ → List ℕ
escaped_byte Html b = html_byte b
escaped_byte Metrics b = label_byte b
escaped_byte Plain b = shown_byte b
escaped_byte Json b = json_byte b

-- a value
abbrev pub escaped : Language → List ℕ → List ℕ
escaped language bytes = flat_map (escaped_byte language) bytes

-- ---- what no value can say

-- the escapes of a language
abbrev pub escapes : Language → List (List ℕ)
escapes Html = codes "&amp;" ∷ codes "&lt;" ∷ codes "&gt;" ∷ codes "&quot;" ∷ codes "&#39;" ∷ []
escapes Metrics = (92 ∷ 92 ∷ []) ∷ (92 ∷ 34 ∷ []) ∷ (92 ∷ 110 ∷ []) ∷ []
escapes Plain = []
escapes Json = (92 ∷ 34 ∷ []) ∷ (92 ∷ 92 ∷ []) ∷ []

-- A byte means nothing there: in HTML it is none of the five, in a label no backslash, double quote or LF, in plain text
-- it controls no terminal, and in a string of JSON it is printable ASCII, and no double quote or backslash.
abbrev pub IsHarmless : Language → ℕ → Type 0
IsHarmless Html b =
    ((b == 38) ≡ false) × ((b == 60) ≡ false) × ((b == 62) ≡ false) × ((b == 34) ≡ false) × ((b == 39) ≡ false)
IsHarmless Metrics b = ((b == 92) ≡ false) × ((b == 34) ≡ false) × ((b == 10) ≡ false)
IsHarmless Plain b = (nat_lt b 32 || (b == 127)) ≡ false
IsHarmless Json b = ((b == 34) ≡ false) × ((b == 92) ≡ false) × ((nat_lt b 32 || nat_lt 126 b) ≡ false)

-- It is one of some texts.
abbrev pub IsOneOf : List (List ℕ) → List ℕ → Type 0
IsOneOf [] piece = ⊥
IsOneOf (t ∷ ts) piece = (piece ≡ t) ⊎ IsOneOf ts piece

-- an escape of a language; in JSON also a byte by its number
abbrev pub IsEscape : Language → List ℕ → Type 0
IsEscape Html piece = IsOneOf (escapes Html) piece
IsEscape Metrics piece = IsOneOf (escapes Metrics) piece
IsEscape Plain piece = IsOneOf (escapes Plain) piece
IsEscape Json piece = IsOneOf (escapes Json) piece ⊎ ((b : ℕ) × (piece ≡ numbered b))

-- a piece of a text: one of the template's own texts, an escape, or a byte that means nothing
abbrev pub IsPiece : Language → (own : List (List ℕ)) → List ℕ → Type 0
IsPiece language own piece =
    IsOneOf own piece ⊎ (IsEscape language piece ⊎ ((b : ℕ) × (piece ≡ b ∷ []) × IsHarmless language b))

-- That is so of each element.
abbrev pub AreAll : {X : Type 0} → (X → Type 0) → List X → Type 0
AreAll P [] = Unit {0}
AreAll P (x ∷ xs) = P x × AreAll P xs

-- texts, one after the other
abbrev pub joined : List (List ℕ) → List ℕ
joined [] = []
joined (t ∷ ts) = t ++ joined ts

-- A text is such pieces, one after the other: nothing in it but the template's own texts means anything.
abbrev pub IsEscaped : Language → (own : List (List ℕ)) → List ℕ → Type 0
IsEscaped language own text =
    (pieces : List (List ℕ)) × (text ≡ joined pieces) × AreAll (IsPiece language own) pieces
