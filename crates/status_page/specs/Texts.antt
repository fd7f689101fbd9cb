-- The texts of numbers, moments and lengths of time.
use Rattle.std.specs.Prelude.{ℕ, ℤ, pos, negsuc, ◌+◌, ◌-◌, ◌*◌, ◌/◌, ◌%◌, nat_lt, if◌then◌else◌, List, [], ◌∷◌, ◌++◌}
use Rattle.std.specs.Prelude.{codes, decimal, flat_map, slice_index, Option, Some, None}
use Rattle.sl_time.specs.Written.{moment_text}
use Rattle.status_page.specs.declared.value.LastRecord.{LastRecord}
use Rattle.status_page.specs.Values.{busiest}

-- a number and what follows it
abbrev pub number_and : ℕ → List ℕ → List ℕ
number_and n unit = decimal n ++ unit

-- a length of time, in a unit that suits it
abbrev pub age_text : ℕ → List ℕ
age_text n =
    if nat_lt n 120 then number_and n (codes " s") else if nat_lt n 7200 then number_and (n / 60) (codes " min")
    else if nat_lt n 172800 then number_and (n / 3600) (codes " h") else number_and (n / 86400) (codes " d")

-- the decimal digit of a number for a power of ten, as a byte: `0` is 48
abbrev pub digit_at : (number power : ℕ) → ℕ
digit_at number power = 48 + number / power % 10

-- the last six decimal digits of a number
abbrev pub six_digits : ℕ → List ℕ
six_digits n =
    digit_at n 100000 ∷ digit_at n 10000 ∷ digit_at n 1000 ∷ digit_at n 100 ∷ digit_at n 10 ∷ digit_at n 1 ∷ []

-- microseconds as seconds with six decimals
abbrev pub micros_text : ℕ → List ℕ
micros_text n = number_and (n / 1000000) (codes ".") ++ six_digits n

-- a tick in whole seconds since 1970; 0 before that
abbrev pub unix_seconds : ℤ → List ℕ
unix_seconds (pos n) = decimal (n / 10000)
unix_seconds (negsuc n) = decimal 0

-- a moment, if it is known
abbrev pub known_text : Option ℤ → List ℕ
known_text None = []
known_text (Some moment) = moment_text moment

-- since when it serves, `-` if the clock did not say so
abbrev pub since_text : Option ℤ → List ℕ
since_text None = codes "-"
since_text (Some began) = moment_text began

-- from when to when a record goes
abbrev pub span_text : LastRecord → List ℕ
span_text r = moment_text r.start ++ codes " - " ++ moment_text r.stop

-- from when to when the last record goes, when it begins, and when it ends, if there is one
abbrev pub last_text : Option LastRecord → List ℕ
last_text None = codes "-"
last_text (Some r) = span_text r

abbrev pub start_text : Option LastRecord → List ℕ
start_text None = codes "-"
start_text (Some r) = moment_text r.start

-- the same, with nothing if there is none
abbrev pub start_known : Option LastRecord → List ℕ
start_known None = []
start_known (Some r) = moment_text r.start

abbrev pub stop_text : Option LastRecord → List ℕ
stop_text None = []
stop_text (Some r) = moment_text r.stop

abbrev pub stop_seconds : Option LastRecord → List ℕ
stop_seconds None = []
stop_seconds (Some r) = unix_seconds r.stop

-- an address of four bytes, as `10.0.0.7`
abbrev pub address_text : List ℕ → List ℕ
address_text a =
    number_and (slice_index a 0) (codes ".") ++ number_and (slice_index a 1) (codes ".")
    ++ number_and (slice_index a 2) (codes ".") ++ decimal (slice_index a 3)

-- SVG: one bar of a path, whose highest has 20 units for so many records
abbrev pub bar_text : (most count : ℕ) → List ℕ
bar_text most count = codes "V" ++ number_and (20 - count * 20 / most) (codes "h1")

-- the bars of minutes, the busiest of which has the highest
abbrev pub bars_text : List ℕ → List ℕ
bars_text minutes = flat_map (bar_text (busiest minutes)) minutes
