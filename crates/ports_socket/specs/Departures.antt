-- Which connections are turned away before they join, and why.
-- Ports are this project's own. Left out: connections that the system refuses.
use Rattle.std.specs.Prelude.{◌≡◌, ℕ, ◌+◌, List, length}
use Rattle.std.specs.List.{All}
use Rattle.std.specs.declared.net.ipv4_addr.Ipv4Addr.{Ipv4Addr}
use Rattle.protocol.specs.Reading.{Not}
use Rattle.ports_logged.specs.declared.visit.Away.{Away}
use Rattle.ports.specs.declared.decisions.AwayReason.{AwayReason}
use Rattle.ports.specs.declared.decisions.AwayReason.TheVariants.{MaxConnections, Feeds, Memory, FeedFrom, PerAddress}
use Rattle.ports_socket.specs.declared.admission.Admission.{Admission}
use Rattle.ports_socket.specs.declared.peer.PeerKind.{PeerKind}
use Rattle.ports_socket.specs.declared.peer.PeerKind.TheVariants.{Client, Feed}
use Rattle.ports_socket.specs.declared.peer.Peer.{Peer}
use Rattle.ports_socket.specs.declared.sockets.joining.Taken.{Taken}
use Rattle.ports_socket.specs.declared.sockets.joining.Taken.TheVariants as taken
use Rattle.ports_socket.specs.Admissions.{HasPlace, IsAdmitted, IsFeeder}

-- why a connection of a kind is turned away
abbrev pub away_of : PeerKind → Ipv4Addr → Away
away_of Client address = record { address = address; reason = PerAddress }
away_of Feed address = record { address = address; reason = FeedFrom }

-- A reason holds for an address while those ports are open: feeds are not taken from it, or it has as many clients as
-- it may have; or else it may join, and there was nothing by which it could be held.
abbrev pub IsReason : Admission → List Peer → Ipv4Addr → AwayReason → Type 0
IsReason admission opened address FeedFrom = Not (IsFeeder admission.feed_from address)
IsReason admission opened address PerAddress = Not (HasPlace admission.per_address opened address)
IsReason admission opened address MaxConnections = ⊥
IsReason admission opened address Feeds = ⊥
IsReason admission opened address Memory = (kind : PeerKind) × IsAdmitted admission opened kind address

-- Each of these connections was turned away for a reason that holds for its address.
abbrev pub HaveReasons : Admission → List Peer → List Away → Type 0
HaveReasons admission opened away = All (λ one. IsReason admission opened one.address one.reason) away

-- A fact of a connection that was turned away, if it was.
abbrev pub IfAway : Taken → (Away → Type 0) → Type 0
IfAway (taken.Joined happening) P = Unit {0}
IfAway (taken.Away away) P = P away
IfAway taken.Nothing P = Unit {0}

-- All connections that were turned away are told: those that were counted by the call. By `polls` and `polls'` polls
-- were made before and after it, and by `away` and `away'` connections were turned away since the last of them.
pub record TellsAway (polls away polls' away' : ℕ) (told : List Away) : Type 0 where
  pub same_poll : polls' ≡ polls → away' ≡ away + length told
  pub next_poll : polls' ≡ polls + 1 → away' ≡ length told
