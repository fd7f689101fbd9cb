-- What each decision on a port says of visits, and what goes over a port.
-- Ports are this project's own. Left out: connections that the system refuses.
use Rattle.std.specs.Prelude.{ℕ, ◌/◌, nat_lt, if◌then◌else◌, List, [], ◌∷◌, map, find, Option, Some, None, Result, Ok}
use Rattle.std.specs.declared.net.ipv4_addr.Ipv4Addr.{Ipv4Addr}
use Rattle.ports.specs.declared.answers.Got.{Got}
use Rattle.ports.specs.declared.answers.Got.TheVariants.{Bytes}
use Rattle.ports.specs.declared.answers.PortFault.{PortFault}
use Rattle.ports.specs.declared.decisions.Decision.{Decision}
use Rattle.ports.specs.declared.decisions.Decision.TheVariants.{Begins, Cut, LetIn, Lost, NoStation, Reads, TurnedAway}
use Rattle.ports.specs.declared.decisions.Decision.TheVariants.{Ends, Refused, Sent}
use Rattle.ports.specs.declared.decisions.Party.{Party}
use Rattle.ports.specs.declared.decisions.Party.TheVariants.{Client, Feed}
use Rattle.ports.specs.declared.present.PresentClient.{PresentClient}
use Rattle.ports_logged.specs.declared.traffic.Traffic.{Traffic}
use Rattle.ports_logged.specs.declared.visit.Visit.{Visit}
use Rattle.ports_logged.specs.declared.visit.Visit.TheVariants as visit
use Rattle.ports_logged.specs.declared.visitor.Visitor.{Visitor}
use Rattle.ports_logged.specs.Visitors.{VisitorsValue, cutting, fresh, is_at, is_uncut, losing, records_given}
use Rattle.ports_logged.specs.Visitors.{refusing}
use Rattle.ports_logged.specs.Visitors.{with_traffic, with_visitor, without}

-- ---- what goes over a port

-- more at a port
abbrev pub counted_at : (port : ℕ) → Traffic → VisitorsValue → VisitorsValue
counted_at port more v = record v { present = map (with_traffic port more) v.present }

-- how many bytes a read gave
abbrev pub count_of_read : Result Got PortFault → ℕ
count_of_read (Ok (Bytes n)) = n
count_of_read _ = 0

-- ---- what is decided of a port

-- who is there then, at a time
abbrev pub decided_visitors : (port : ℕ) → Decision → (now : ℕ) → VisitorsValue → VisitorsValue
decided_visitors port (LetIn party) now v = with_visitor (fresh port party now) v
decided_visitors port (TurnedAway reason) now v = v
decided_visitors port (Ends ending) now v = record v { present = without port v.present }
decided_visitors port (Refused refusal) now v = counted_at port refusing v
decided_visitors port (NoStation codes) now v = v
decided_visitors port (Reads codes mode) now v = v
decided_visitors port Begins now v = v
decided_visitors port (Sent codes packets) now v = v
decided_visitors port (Lost records) now v = counted_at port (losing records) v
decided_visitors port Cut now v = counted_at port cutting v

-- what is noted of whoever was at a port, whose connection came from an address: of a client the bytes that it took,
-- the records that it lost and whether it was cut, of a feed the whole records that it gave
abbrev pub over_by : Party → Ipv4Addr → Visitor → Visit
over_by Client address v = visit.Close v.port address v.traffic.taken v.traffic.lost (nat_lt 0 v.traffic.cuts)
over_by Feed address v = visit.FeedOver v.port address (v.traffic.given / 512) v.traffic.refused

abbrev pub over_of : Ipv4Addr → Visitor → Visit
over_of address v = over_by v.party address v

abbrev pub over_if : Ipv4Addr → Option Visitor → List Visit
over_if address None = []
over_if address (Some v) = over_of address v ∷ []

abbrev pub opened_by : Party → (port : ℕ) → Ipv4Addr → Visit
opened_by Client port address = visit.Open port address
opened_by Feed port address = visit.Feed port address

-- what is noted then, of a port whose connection came from an address
abbrev pub decided_notes : (port : ℕ) → Decision → Ipv4Addr → VisitorsValue → List Visit
decided_notes port (LetIn party) address v = opened_by party port address ∷ []
decided_notes port (TurnedAway reason) address v = visit.Away (record { address = address; reason = reason }) ∷ []
decided_notes port (Ends ending) address v = over_if address (find (is_at port) v.present)
decided_notes port (Refused refusal) address v =
    visit.Refused port (records_given (find (is_at port) v.present)) refusal ∷ []
decided_notes port (NoStation codes) address v = visit.NoStation port address codes ∷ []
decided_notes port (Reads codes mode) address v = visit.Reads port address codes mode ∷ []
decided_notes port Begins address v = visit.Begins port address ∷ []
decided_notes port (Sent codes packets) address v = visit.Packets port address codes packets ∷ []
decided_notes port (Lost records) address v = []
decided_notes port Cut address v =
    if is_uncut (find (is_at port) v.present) then visit.Cut port address ∷ [] else []

-- ---- who is at a port

abbrev pub present_of : Ipv4Addr → Option Visitor → Option PresentClient
present_of address None = None
present_of address (Some v) = Some (record { address = address; since = v.since; bytes = v.traffic.taken })
