-- Who may ask the status port, and of whom it holds a connection.
use Rattle.std.specs.Prelude.{◌≡◌, ℕ, ◌/◌, ◌^◌, ◌==◌, Bool, true, List, Option, Some, None, IfSome}
use Rattle.std.specs.Net.Addr.{ipv4_bits}
use Rattle.protocol.specs.Access.{Token, allows}
use Rattle.status_ports.specs.declared.door.Askers.{Askers}
use Rattle.status_ports.specs.declared.door.Visitor.{Visitor}
use Rattle.status_ports.specs.declared.door.Arrival.{Arrival}
use Rattle.status_ports.specs.declared.slot.Slot.{Slot}
use Rattle.status_ports.specs.declared.door.Arrival.TheVariants.{Nobody, Refused, Welcome}

-- who may ask: from where, and by which name besides addresses and localhost
pub record AskersValue : Type 0 where
  pub list : Option (List Token)
  pub name : List ℕ

abbrev pub askers_of : Askers → AskersValue
askers_of a = record { list = a.list; name = a.name.items }

-- by a list if there is one, or else by this machine alone: 127.0.0.0/8
abbrev pub may_ask : Option (List Token) → (address : ℕ) → Bool
may_ask None address = address / 2 ^ 24 == 127
may_ask (Some list) address = allows list address

-- Somebody may ask, by his address.
abbrev pub IsAllowed : AskersValue → Visitor → Type 0
IsAllowed a v = may_ask a.list (ipv4_bits v.from) ≡ true

-- Whoever is welcome may ask.
abbrev pub LetsIn : AskersValue → Arrival → Type 0
LetsIn a Nobody = Unit {0}
LetsIn a Refused = Unit {0}
LetsIn a (Welcome v) = IsAllowed a v

-- Whoever holds a place may ask.
abbrev pub IsHeldFor : AskersValue → Slot → Type 0
IsHeldFor a slot = IfSome slot.visitor (IsAllowed a)
