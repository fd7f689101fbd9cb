-- Whose connection is taken next, and how many join between two polls.
-- Ports are this project's own. Left out: how many connections wait.
use Rattle.std.specs.Prelude.{◌≡◌, ℕ, ◌+◌, ◌≤◌, false, Result, Ok}
use Rattle.ports.specs.declared.answers.Happening.{Happening}
use Rattle.ports.specs.declared.answers.Happening.TheVariants.{Joined, JoinedFeed}
use Rattle.ports.specs.declared.answers.PortFault.{PortFault}
use Rattle.ports_socket.specs.declared.peer.PeerKind.{PeerKind}
use Rattle.ports_socket.specs.declared.peer.PeerKind.TheVariants.{Client, Feed}
use Rattle.ports_socket.specs.declared.listeners.Accepted.{Accepted}
use Rattle.ports_socket.specs.declared.listeners.Accepted.TheVariants.{Connection, Nothing, Refused}
use Rattle.ports_socket.specs.declared.listeners.Listener.{Listener}
use Rattle.ports_socket.specs.declared.listeners.Listeners.{Listeners}

-- the other kind
abbrev pub other_kind : PeerKind → PeerKind
other_kind Client = Feed
other_kind Feed = Client

-- where connections of a kind wait
abbrev pub listener_of : Listeners → PeerKind → Listener
listener_of listeners Client = listeners.clients
listener_of listeners Feed = listeners.feeds

-- A listener gave a connection of its kind, or has none that waits.
abbrev pub GivesOf : PeerKind → Listener → Accepted → Type 0
GivesOf kind listener (Connection of_kind stream address) = of_kind ≡ kind
GivesOf kind listener Nothing = listener.is_ready ≡ false
GivesOf kind listener Refused = Unit {0}

-- A connection is of the kind whose turn it is, or none of that kind waits.
abbrev pub PassesOver : Listeners → (first kind : PeerKind) → Type 0
PassesOver listeners Client Client = Unit {0}
PassesOver listeners Feed Feed = Unit {0}
PassesOver listeners Client Feed = listeners.clients.is_ready ≡ false
PassesOver listeners Feed Client = listeners.feeds.is_ready ≡ false

-- A fact of the kind of a connection, if one was taken.
abbrev pub IfConnection : Accepted → (PeerKind → Type 0) → Type 0
IfConnection (Connection kind stream address) P = P kind
IfConnection Nothing P = Unit {0}
IfConnection Refused P = Unit {0}

-- A connection is taken by turns, and then it is the other kind's turn.
abbrev pub TakesTurns : (before after : Listeners) → Accepted → Type 0
TakesTurns before after (Connection kind stream address) =
    PassesOver after before.first kind × (after.first ≡ other_kind kind)
TakesTurns before after Nothing = after.first ≡ before.first
TakesTurns before after Refused = after.first ≡ before.first

-- how many ports join by an answer
abbrev pub joins_by : Result Happening PortFault → ℕ
joins_by (Ok (Joined port address)) = 1
joins_by (Ok (JoinedFeed port)) = 1
joins_by _ = 0

-- At most sixteen ports join between two polls: their count goes on by one with each, and only with a poll does it
-- begin anew. By `polls` and `polls'` polls were made before and after the call, and by `joins` and `joins'` ports have
-- joined since the last of them.
pub record RationsJoins (polls joins polls' joins' : ℕ) (answer : Result Happening PortFault) : Type 0 where
  pub few : joins' ≤ 16
  pub rising : (polls ≤ polls') × (polls' ≤ polls + 1)
  pub same_poll : polls' ≡ polls → joins' ≡ joins + joins_by answer
  pub next_poll : polls' ≡ polls + 1 → joins' ≡ joins_by answer

-- No poll was made, or one: then the count of those that joined since the last one begins anew, and so does that of
-- those that were turned away.
pub record IsPolled (polls joins polls' joins' : ℕ) : Type 0 where
  pub rising : (polls ≤ polls') × (polls' ≤ polls + 1)
  pub same_poll : polls' ≡ polls → joins' ≡ joins
  pub next_poll : polls' ≡ polls + 1 → joins' ≡ 0
