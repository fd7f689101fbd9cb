-- What a read from the system gives, and what a write to it takes.
use Rattle.std.specs.Prelude.{◌≡◌, ℕ, ◌≤◌, List, [], length}
use Rattle.ports_socket.specs.declared.socket_io.Receipt.{Receipt}
use Rattle.ports_socket.specs.declared.socket_io.Receipt.TheVariants.{Bytes}
use Rattle.ports_socket.specs.declared.socket_io.SendOutcome.{SendOutcome}
use Rattle.ports_socket.specs.declared.socket_io.SendOutcome.TheVariants.{Took}

-- 1 to so many bytes, or none
abbrev pub IsReceived : Receipt → ℕ → Type 0
IsReceived (Bytes count) most = (1 ≤ count) × (count ≤ most)
IsReceived _ most = Unit {0}

-- All bytes that were read are there.
abbrev pub IsFilled : Receipt → List ℕ → Type 0
IsFilled (Bytes count) bytes = length bytes ≡ count
IsFilled _ bytes = bytes ≡ []

-- at most so many bytes, or none
abbrev pub IsSent : SendOutcome → ℕ → Type 0
IsSent (Took count) most = count ≤ most
IsSent _ most = Unit {0}
