-- A connection to the status port: the bytes of a request, and an answer that is sent piece by piece.
-- HTTP/1.1: one request a connection. The limits are this project's own.
use Rattle.std.specs.Prelude.{ℕ, ◌-◌, ◌++◌, min, nat_le, Bool, List, [], length, take}

-- a connection: when it began, the bytes that came, and what is still to be sent
pub record ExchangeValue : Type 0 where
  pub since : ℕ
  pub head : List ℕ
  pub rest : List ℕ

-- one that begins
abbrev pub begun : ℕ → ExchangeValue
begun now = record { since = now; head = []; rest = [] }

-- one to which bytes came: as many of them are kept as a head may still have
abbrev pub with_bytes : List ℕ → ExchangeValue → ExchangeValue
with_bytes bytes e =
    record e { head = e.head ++ take (min (length bytes) (4096 - length e.head)) bytes }

-- five seconds have passed since it began
abbrev pub is_late : ℕ → ExchangeValue → Bool
is_late now e = nat_le 5000 (now - e.since)
