-- Which numbers the ports have that are told of.
-- Ports are this project's own. Left out: whether the system reports what happened.
use Rattle.std.specs.Prelude.{◌≡◌, ℕ, ◌+◌, List, Result, Ok, Err}
use Rattle.std.specs.List.{Contains}
use Rattle.ports.specs.declared.answers.Happening.{Happening}
use Rattle.ports.specs.declared.answers.Happening.TheVariants.{Joined, JoinedFeed, Readable, Writable, Quiet}
use Rattle.ports.specs.declared.answers.PortFault.{PortFault}

-- A new port has the next number, which counts the ports that joined before; so no number is given twice. Readable and
-- Writable are told of open ports alone. Before the call `before` ports had joined and after it `after` have, and the
-- open ones are those after the call.
abbrev pub TellsOpenPorts : (before after : ℕ) → (open_ports : List ℕ) → Result Happening PortFault → Type 0
TellsOpenPorts before after open_ports (Ok (Joined port address)) = (port ≡ before) × (after ≡ before + 1)
TellsOpenPorts before after open_ports (Ok (JoinedFeed port)) = (port ≡ before) × (after ≡ before + 1)
TellsOpenPorts before after open_ports (Ok (Readable port)) = Contains open_ports port × (after ≡ before)
TellsOpenPorts before after open_ports (Ok (Writable port)) = Contains open_ports port × (after ≡ before)
TellsOpenPorts before after open_ports (Ok Quiet) = after ≡ before
TellsOpenPorts before after open_ports (Err fault) = after ≡ before
