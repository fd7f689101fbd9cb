-- An address with a port, as a text spells it.
-- Endpoints are this project's own.
use Rattle.std.specs.Prelude.{ℕ, ◌+◌, ◌==◌, Bool, nat_lt, if◌then◌else◌, List, take, drop, position, Option, Some, None}
use Rattle.std.specs.Prelude.{option_and_then}
use Rattle.std.specs.Net.Addr.{ipv4_bits}
use Rattle.protocol.specs.Time.{digits_between}
use Rattle.access_list.specs.Addresses.{address_of}
use Rattle.job_base.specs.declared.endpoint.Endpoint.{Endpoint}

abbrev pub small_enough : ℕ → Option ℕ
small_enough n = if nat_lt 65535 n then None else Some n

-- a port: 0 to 65535, of one to five digits
abbrev pub port_of : List ℕ → Option ℕ
port_of text = option_and_then small_enough (digits_between 1 5 text)

-- both, where both are there
abbrev pub both_of : Option ℕ → Option ℕ → Option (ℕ × ℕ)
both_of (Some address) (Some port) = Some (address, port)
both_of _ _ = None

abbrev pub is_colon : ℕ → Bool
is_colon b = b == 58

-- by the place of the first colon
abbrev pub endpoint_at : List ℕ → Option ℕ → Option (ℕ × ℕ)
endpoint_at text None = None
endpoint_at text (Some colon) = both_of (address_of (take colon text)) (port_of (drop (colon + 1) text))

-- the address, as a number of 32 bits, and the port that a text spells
abbrev pub endpoint_of : List ℕ → Option (ℕ × ℕ)
endpoint_of text = endpoint_at text (position is_colon text)

-- an endpoint of the code, in the same form
abbrev pub endpoint_value : Endpoint → ℕ × ℕ
endpoint_value e = (ipv4_bits e.address, e.port)
