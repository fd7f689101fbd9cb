-- By which name a server was asked: a browser tells the name that led it here in the field Host.
use Rattle.std.specs.Prelude.{ℕ, Bool, ◌&&◌, ◌||◌, ◌==◌, not, List, Option, None, Some, codes, take}
use Rattle.std.specs.Char.{is_ascii_digit}
use Rattle.std.specs.List.{list_all, list_any, position, starts_with}
use Rattle.std.specs.Str.{str_eq_ignore_ascii_case}
use Rattle.httparse.specs.declared.spans.HeaderSpan.{HeaderSpan}
use Rattle.httparse.specs.Grammar.{Field, field_value}
use Rattle.httparse.specs.Spans.{span_bytes}

-- a byte of an address or of a port behind it: a digit, a dot or a colon
abbrev pub is_address_byte : ℕ → Bool
is_address_byte b = is_ascii_digit b || b == 46 || b == 58

-- a host without its port: what stands before the first colon
abbrev pub up_to : Option ℕ → List ℕ → List ℕ
up_to None host = host
up_to (Some end) host = take end host

abbrev pub colon_in : List ℕ → Option ℕ
colon_in host = position (λ b. b == 58) host

abbrev pub before_port : List ℕ → List ℕ
before_port host = up_to (colon_in host) host

-- an address, or one of IPv6 in brackets, localhost, or the name that was named as the server's, with a port or
-- without one
abbrev pub is_own_host : (name : List ℕ) → List ℕ → Bool
is_own_host name host =
    list_all is_address_byte host || starts_with ◌==◌ host (codes "[")
    || str_eq_ignore_ascii_case (before_port host) (codes "localhost") || str_eq_ignore_ascii_case (before_port host) name

-- a field with another name than that
unfoldable pub is_foreign : (name : List ℕ) → (field value : List ℕ) → Bool
is_foreign name field value = str_eq_ignore_ascii_case field (codes "Host") && not (is_own_host name value)

-- There is such a field, by where its name and its value are.
abbrev pub foreign_in : (name : List ℕ) → (bytes : List ℕ) → List HeaderSpan → Bool
foreign_in name bytes spans =
    list_any (λ s. is_foreign name (span_bytes bytes s.name) (span_bytes bytes s.value)) spans

-- There is such a field.
abbrev pub any_foreign : (name : List ℕ) → List Field → Bool
any_foreign name fields = list_any (λ f. is_foreign name f.name (field_value f)) fields
