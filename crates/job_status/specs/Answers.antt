-- What a status port answered. HTTP/1.1: a head and a body. The codes and the table are this project's own.
use Rattle.std.specs.Prelude.{◌≡◌, ℕ, Bool, true, ◌&&◌, ◌==◌, if◌then◌else◌, List, codes, decimal, drop, length}
use Rattle.std.specs.List.{list_any, starts_with}
use Rattle.std.specs.Str.{bytes_eq, str_eq_ignore_ascii_case}
use Rattle.httparse.specs.declared.spans.HeaderSpan.{HeaderSpan}
use Rattle.httparse.specs.Grammar.{Field, ReadsResponse, ResponseHead, field_value, status_code}
use Rattle.httparse.specs.Spans.{span_bytes}

-- the code by which it tells whether a station is silent
abbrev pub code_by : (is_silent : Bool) → ℕ
code_by is_silent = if is_silent then 503 else 200

-- A field says that so many bytes follow the head: its name is in letters of any case.
unfoldable pub is_length : (size : ℕ) → (name value : List ℕ) → Bool
is_length size name value = str_eq_ignore_ascii_case name (codes "Content-Length") && bytes_eq value (decimal size)

-- Some field says so, by where the names and the values are.
abbrev pub length_in : (size : ℕ) → (bytes : List ℕ) → List HeaderSpan → Bool
length_in size bytes spans = list_any (λ s. is_length size (span_bytes bytes s.name) (span_bytes bytes s.value)) spans

-- Some field says so.
abbrev pub any_length : (size : ℕ) → List Field → Bool
any_length size fields = list_any (λ f. is_length size f.name (field_value f)) fields

-- The head of a status port's table stands in a body, after an empty line.
abbrev pub HasTables : List ℕ → Type 0
HasTables body = (at : ℕ) × (starts_with ◌==◌ (drop at body) (codes "\n\nNET\tSTATION\tSTATE\t") ≡ true)

-- By a head, a body is all of a status port's answer, which tells whether a station is silent.
pub record IsAnswer (head : ResponseHead) (rest body : List ℕ) (is_silent : Bool) : Type 0 where
  pub code : status_code head ≡ code_by is_silent
  pub whole : body ≡ rest
  pub size : any_length (length body) head.fields ≡ true
  pub tables : HasTables body

-- Bytes are the head of a response and then such a body.
abbrev pub Answers : (bytes body : List ℕ) (is_silent : Bool) → Type 0
Answers bytes body is_silent =
    (head : ResponseHead) × ReadsResponse bytes head body × IsAnswer head body body is_silent
