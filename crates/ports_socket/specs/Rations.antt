-- What a client's port gives between two polls.
-- Ports are this project's own. Left out: what the system holds for a port.
use Rattle.std.specs.Prelude.{◌==◌, ℕ, if◌then◌else◌}
use Rattle.ports_socket.specs.declared.inflow.Ration.{Ration}

-- how many bytes were given since the last poll, after so many polls
abbrev pub given_since : Ration → ℕ → ℕ
given_since ration polls = if ration.polls == polls then ration.given else 0
