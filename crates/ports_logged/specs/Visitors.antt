-- Who is connected.
-- Ports are this project's own.
use Rattle.std.specs.Prelude.{◌≡◌, ℕ, ◌+◌, ◌-◌, ◌/◌, ◌^◌, ◌<◌, ◌≤◌, ◌==◌, ◌&&◌, nat_lt, not, Bool, if◌then◌else◌}
use Rattle.std.specs.Prelude.{true, false, List, [], ◌∷◌, ◌++◌, length, min, slice_index_or, Option, Some, None}
use Rattle.std.specs.List.{filter}
use Rattle.ports.specs.declared.decisions.Party.{Party}
use Rattle.ports.specs.declared.decisions.Party.TheVariants.{Client}
use Rattle.ports_logged.specs.declared.traffic.Traffic.{Traffic}
use Rattle.ports_logged.specs.declared.visitor.Visitor.{Visitor}

-- for how many there is room, the last port that was added, and who is there
pub record VisitorsValue : Type 0 where
  pub room : ℕ
  pub last : Option ℕ
  pub present : List Visitor

-- a count with more, which stays at the largest
abbrev pub counted : ℕ → ℕ → ℕ
counted n more = min (n + more) (2 ^ 64 - 1)

-- so many bytes that a port gave, so many that it took, and a record that it gave and that was refused
abbrev pub giving : ℕ → Traffic
giving n = record { given = n; taken = 0; refused = 0; cuts = 0; lost = 0 }

abbrev pub taking : ℕ → Traffic
taking n = record { given = 0; taken = n; refused = 0; cuts = 0; lost = 0 }

abbrev pub refusing : Traffic
refusing = record { given = 0; taken = 0; refused = 1; cuts = 0; lost = 0 }

-- a new configuration that cut a port's client
abbrev pub cutting : Traffic
cutting = record { given = 0; taken = 0; refused = 0; cuts = 1; lost = 0 }

-- so many records that a port's client lost
abbrev pub losing : ℕ → Traffic
losing n = record { given = 0; taken = 0; refused = 0; cuts = 0; lost = n }

-- so much, and so much more
abbrev pub joined_traffic : Traffic → Traffic → Traffic
joined_traffic t more = record {
  given = counted t.given more.given;
  taken = counted t.taken more.taken;
  refused = counted t.refused more.refused;
  cuts = counted t.cuts more.cuts;
  lost = counted t.lost more.lost;
}

-- who has just come, at a time
abbrev pub fresh : (port : ℕ) → Party → (since : ℕ) → Visitor
fresh port party since = record { port = port; party = party; since = since; traffic = giving 0 }

-- a port is above the last one
abbrev pub is_next : Option ℕ → ℕ → Bool
is_next None port = true
is_next (Some last) port = nat_lt last port

-- one more, if its port is above all that were added and there is room for it
abbrev pub with_visitor : Visitor → VisitorsValue → VisitorsValue
with_visitor visitor v =
    if is_next v.last visitor.port && nat_lt (length v.present) v.room
    then record v { last = Some visitor.port; present = v.present ++ visitor ∷ [] } else v

-- somebody is at a port
abbrev pub is_at : ℕ → Visitor → Bool
is_at port visitor = visitor.port == port

-- with more traffic, where it is at that port
abbrev pub with_traffic : (port : ℕ) → Traffic → Visitor → Visitor
with_traffic port more visitor =
    if visitor.port == port then record visitor { traffic = joined_traffic visitor.traffic more } else visitor

-- how many whole records somebody gave
abbrev pub records_given : Option Visitor → ℕ
records_given None = 0
records_given (Some v) = v.traffic.given / 512

-- Somebody is there who was not cut yet.
abbrev pub is_uncut : Option Visitor → Bool
is_uncut None = false
is_uncut (Some v) = v.traffic.cuts == 0

-- all but those at a port
abbrev pub without : ℕ → List Visitor → List Visitor
without port visitors = filter (λ v. not (v.port == port)) visitors

-- All ports are above one.
abbrev pub AreAbove : ℕ → List Visitor → Type 0
AreAbove n [] = Unit {0}
AreAbove n (v ∷ vs) = (n < v.port) × AreAbove n vs

-- All ports are at most one; without one there is nobody.
abbrev pub AreAtMost : ℕ → List Visitor → Type 0
AreAtMost n [] = Unit {0}
AreAtMost n (v ∷ vs) = (v.port ≤ n) × AreAtMost n vs

abbrev pub AreUpTo : Option ℕ → List Visitor → Type 0
AreUpTo None vs = vs ≡ []
AreUpTo (Some last) vs = AreAtMost last vs

-- The ports rise.
abbrev pub Rise : List Visitor → Type 0
Rise [] = Unit {0}
Rise (v ∷ vs) = AreAbove v.port vs × Rise vs

-- who is there where nobody is
abbrev pub nobody : Visitor
nobody = record { port = 0; party = Client; since = 0; traffic = giving 0 }

-- the port at a place
abbrev pub port_at : List Visitor → ℕ → ℕ
port_at vs i = let v : Visitor = slice_index_or vs i nobody in v.port

-- Whoever is at a place is at that port.
pub record IsVisitorAt (vs : List Visitor) (port at : ℕ) : Type 0 where
  pub inside : at < length vs
  pub has_port : port_at vs at ≡ port

-- A port would be at a place: lower ones before it, and higher ones from it on.
pub record IsGapFor (vs : List Visitor) (port at : ℕ) : Type 0 where
  pub inside : at ≤ length vs
  pub lower_before : (j : ℕ) → j < at → port_at vs j < port
  pub higher_after : (j : ℕ) → at ≤ j → j < length vs → port < port_at vs j
