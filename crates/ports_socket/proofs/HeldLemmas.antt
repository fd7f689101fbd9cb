-- What the open connections hold after a call on one of them, by what is kept under its key.
use Rattle.std.proofs.Common.{◌≡◌, ℕ, zero, suc, ◌-◌, true, List, [], ◌∷◌, ◌++◌, length, take, Some, None, Result}
use Rattle.std.proofs.Common.{refl, sym, ap, subst, ◌∙◌, arith}
use Rattle.std.specs.List.{Contains, remove}
use Rattle.std.proofs.lemmas.List.{length-map, length_push, map_push}
use Rattle.ports.specs.declared.answers.Got.{Got}
use Rattle.ports.specs.declared.answers.PortFault.{PortFault}
use Rattle.ports.specs.declared.answers.Put.{Put}
use Rattle.slab.specs.Slab.{Slab, Updates, get, with_value}
use Rattle.ports_socket.specs.declared.connection.Connection.{Connection}
use Rattle.ports_socket.specs.declared.connections.ConnectionPlace.{ConnectionPlace}
use Rattle.ports_socket.specs.declared.kept_connection.KeptConnection.{KeptConnection}
use Rattle.ports_socket.specs.Connections.{OnlySends, ReadsFrom, WritesTo, ahead_in, numbers, socket_of, sockets_of}
use Rattle.ports_socket.specs.Connections.{value_of, values}
use Rattle.ports_socket.specs.Places.{IsTable, connections_at}
use Rattle.ports_socket.specs.Reads.{GivesInOrder}
use Rattle.ports_socket.specs.Waiting.{HaveGone, TakesInOrder, waiting_in}
use Rattle.ports_socket.proofs.ConnectionLemmas.{IsChanged, contains-at, reads-set, sends-set, sockets-set, values-set}
use Rattle.ports_socket.proofs.ConnectionLemmas.{writes-set}
use Rattle.ports_socket.proofs.TableLemmas.{IsLast, IsWritten, joined, last, left, left-table, length-there, rise-there}
use Rattle.ports_socket.proofs.TableLemmas.{written, written-table, wrote, wrote-same}

-- ---- one that is open

module _ (slots : Slab KeptConnection) (ps : List ConnectionPlace) (key : ℕ) (h : KeptConnection) (table : IsTable slots ps)
    (kept : get slots key ≡ Some h) (opened : h.is_open ≡ true) where
  -- the number of one that is kept, and not shut, is among those of the open ones
  pub open-contains : Contains (numbers (values (connections_at slots ps))) h.connection.number
  open-contains =
      let same : Updates slots slots key (Some h) = record { changed = kept; others = λ other differs. refl } in
      let w = written slots slots key h h kept same ps opened table in
      contains-at h.connection.number (connections_at slots ps) w.at w.place

  module _ (n : ℕ) (number : h.connection.number ≡ n) (d : Connection)
      (socket : socket_of d ≡ socket_of h.connection) where
    abbrev new : Slab KeptConnection
    new = with_value slots key (record h { connection = d })

    abbrev before : List Connection
    before = connections_at slots ps

    pub kept-table : IsTable new ps
    kept-table =
        written-table slots new key h (record h { connection = d }) kept
        (wrote slots key h (record h { connection = d }) kept) ps opened opened (ap (λ s. s.0) socket) table

    one : IsWritten h.connection.number before (connections_at new ps) h.connection d
    one = written slots new key h (record h { connection = d }) kept
        (wrote slots key h (record h { connection = d }) kept) ps opened table

    changes : IsChanged h.connection.number before one.at h.connection d
    changes = record {
      rise = rise-there slots ps table;
      place = one.place;
      read = one.read;
      socket = socket;
    }

    pub kept-sockets : sockets_of (values (connections_at new ps)) ≡ sockets_of (values before)
    kept-sockets = ap (λ l. sockets_of (values l)) one.is
        ∙ sockets-set h.connection.number before one.at h.connection d changes

    pub kept-values : value_of d ≡ value_of h.connection → values (connections_at new ps) ≡ values before
    kept-values same = ap values one.is
        ∙ values-set h.connection.number before one.at h.connection d changes same

    pub kept-sends : HaveGone (waiting_in h.connection.unsent) (waiting_in d.unsent) → d.ahead ≡ h.connection.ahead
        → OnlySends (values before) (values (connections_at new ps))
    kept-sends gone ahead =
        subst (λ (l : List Connection). OnlySends (values before) (values l)) (sym one.is)
        (sends-set h.connection.number before one.at h.connection d changes gone ahead)

    pub kept-writes : (bytes : List ℕ) (answer : Result Put PortFault)
        → TakesInOrder (waiting_in h.connection.unsent) bytes answer (waiting_in d.unsent)
        → d.ahead ≡ h.connection.ahead → WritesTo n bytes answer (values before) (values (connections_at new ps))
    kept-writes bytes answer takes ahead =
        subst (λ m. WritesTo m bytes answer (values before) (values (connections_at new ps))) number
        (subst (λ (l : List Connection). WritesTo h.connection.number bytes answer (values before) (values l))
        (sym one.is)
        (writes-set h.connection.number before one.at h.connection d bytes answer changes takes ahead))

    pub kept-reads : (answer : Result Got PortFault) (given : List ℕ)
        → GivesInOrder (ahead_in h.connection.ahead) given (ahead_in d.ahead) → d.unsent ≡ h.connection.unsent
        → ReadsFrom n answer given (values before) (values (connections_at new ps))
    kept-reads answer given gives unsent =
        subst (λ m. ReadsFrom m answer given (values before) (values (connections_at new ps))) number
        (subst (λ (l : List Connection). ReadsFrom h.connection.number answer given (values before) (values l))
        (sym one.is)
        (reads-set h.connection.number before one.at h.connection d answer given changes gives unsent))

-- ---- what is written as it was, and what joins and leaves

pub unchanged : (slots : Slab KeptConnection) (ps : List ConnectionPlace) (key : ℕ) (h : KeptConnection)
    → get slots key ≡ Some h
    → values (connections_at (with_value slots key h) ps) ≡ values (connections_at slots ps)
unchanged slots ps key h kept = ap (λ s. values (connections_at s ps)) (wrote-same slots key h kept)

values-last : (k : ℕ) (cs : List Connection) → length cs ≡ suc k → values (remove cs k) ≡ take k (values cs)
values-last k [] is = absurd (omega (arith, is))
values-last zero (c ∷ []) is = refl
values-last zero (c ∷ d ∷ ds) is = absurd (omega (arith, is))
values-last (suc k) (c ∷ cs) is = ap (λ l. value_of c ∷ l) (values-last k cs (omega (arith, is)))

-- the last of them went
pub popped-values : (slots new : Slab KeptConnection) (ps front : List ConnectionPlace) (p : ConnectionPlace)
    → IsTable slots ps
    → ps ≡ front ++ p ∷ [] → Updates slots new p.key None
    → values (connections_at new front)
    ≡ take (length (values (connections_at slots ps)) - 1) (values (connections_at slots ps))
popped-values slots new ps front p table parts updates =
    let end : IsLast ps front p = subst (λ (l : List ConnectionPlace). IsLast l front p) (sym parts) (last front p) in
    let cs = connections_at slots ps in
    let long : length cs ≡ suc (length front) =
    length-there slots ps table.there ∙ ap length parts ∙ omega (arith, length_push front p) in
    let counted : length (values cs) - 1 ≡ length front =
    omega (arith, length-map cs (λ (x : Connection). value_of x), long) in
    ap (λ l. values (connections_at new l)) (sym end.left)
    ∙ ap values (left slots new ps (length front) p None table end.inside end.read updates)
    ∙ values-last (length front) cs long
    ∙ ap (λ k. take k (values cs)) (sym counted)

pub popped-table : (slots new : Slab KeptConnection) (ps front : List ConnectionPlace) (p : ConnectionPlace)
    → IsTable slots ps
    → ps ≡ front ++ p ∷ [] → Updates slots new p.key None → IsTable new front
popped-table slots new ps front p table parts updates =
    let end : IsLast ps front p = subst (λ (l : List ConnectionPlace). IsLast l front p) (sym parts) (last front p) in
    subst (IsTable new) end.left (left-table slots new ps (length front) p None table end.inside end.read updates tt)

pub joined-values : (slots new : Slab KeptConnection) (ps : List ConnectionPlace) (key : ℕ) (c : Connection) (h : KeptConnection) → IsTable slots ps
    → get slots key ≡ None → Updates slots new key (Some h) → h.connection ≡ c
    → values (connections_at new (ps ++ record { number = c.number; key = key } ∷ []))
    ≡ values (connections_at slots ps) ++ value_of c ∷ []
joined-values slots new ps key c h table vacant updates is =
    ap values (joined slots new ps key c.number h table vacant updates (ap (λ (x : Connection). x.number) is))
    ∙ map_push (λ (x : Connection). value_of x) (connections_at slots ps) h.connection
    ∙ ap (λ (x : Connection). values (connections_at slots ps) ++ value_of x ∷ []) is
