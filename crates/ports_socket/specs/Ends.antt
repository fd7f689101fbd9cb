-- When the end of what a client sends is told.
-- Ports are this project's own. Left out: whether the peer has closed its connection or will still read from it.
use Rattle.std.specs.Prelude.{◌≡◌, ℕ, ◌+◌, ◌<◌, ◌≤◌, Option, Some, None, Result, Ok, Err}
use Rattle.ports.specs.declared.answers.Put.{Put}
use Rattle.ports.specs.declared.answers.Put.TheVariants.{Took, Later}
use Rattle.ports.specs.declared.answers.PortFault.{PortFault}
use Rattle.ports_socket.specs.declared.inflow.PeerEnd.{PeerEnd}

-- after how many polls the end was found first, if now it was found after so many
abbrev pub first_found : Option ℕ → ℕ → ℕ
first_found None polls = polls
first_found (Some found) polls = found

-- nothing moved since the last poll but one, after so many polls
abbrev pub IsBefore : Option ℕ → ℕ → Type 0
IsBefore None polls = Unit {0}
IsBefore (Some moved) polls = moved + 2 ≤ polls

-- it was found before the last poll
abbrev pub IsFoundBefore : Option ℕ → ℕ → Type 0
IsFoundBefore None polls = ⊥
IsFoundBefore (Some found) polls = found < polls

-- the end was found before the last poll, and nothing moved since the one before that
abbrev pub IsPast : PeerEnd → ℕ → Type 0
IsPast end polls = IsFoundBefore end.found polls × IsBefore end.moved polls

-- A write that took bytes is noted, after so many polls.
abbrev pub IsNoted : Result Put PortFault → PeerEnd → ℕ → Type 0
IsNoted (Ok (Took count)) end polls = end.moved ≡ Some polls
IsNoted (Ok Later) end polls = Unit {0}
IsNoted (Err fault) end polls = Unit {0}
