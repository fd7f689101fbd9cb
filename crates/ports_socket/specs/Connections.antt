-- What the connections of ports hold: the bytes that wait to be sent, and those that were read ahead.
-- Ports are this project's own. Left out: whether the bytes that wait no longer went to the system, and what comes from
-- it.
use Rattle.std.specs.Prelude.{◌≡◌, ◌≢◌, ℕ, ◌==◌, ◌++◌, not, if◌then◌else◌, List, [], ◌∷◌, filter, map, Option}
use Rattle.std.specs.Prelude.{Some, None, Result, Ok, Err}
use Rattle.std.specs.List.{Contains}
use Rattle.mio.specs.declared.net.stream.TcpStream.{TcpStream}
use Rattle.ports.specs.declared.answers.Got.{Got}
use Rattle.ports.specs.declared.answers.Got.TheVariants.{Closed}
use Rattle.ports.specs.declared.answers.Happening.{Happening}
use Rattle.ports.specs.declared.answers.Happening.TheVariants.{Joined, JoinedFeed, Readable, Writable, Quiet}
use Rattle.ports.specs.declared.answers.PortFault.{PortFault}
use Rattle.ports.specs.declared.answers.Put.{Put}
use Rattle.ports.specs.declared.answers.Put.TheVariants.{Later}
use Rattle.ports_socket.specs.declared.connection.Connection.{Connection}
use Rattle.ports_socket.specs.Reads.{GivesInOrder}
use Rattle.ports_socket.specs.Waiting.{HaveGone, TakesInOrder, room_in, waiting_in}

-- a connection: its number and socket, the bytes that wait to be sent, for how many there is room beside them, and the
-- bytes that were read ahead
pub record ConnectionValue : Type 0 where
  pub number : ℕ
  pub stream : TcpStream
  pub waiting : List ℕ
  pub room : ℕ
  pub ahead : List ℕ

-- the bytes that were read ahead
abbrev pub ahead_in : Option (List ℕ) → List ℕ
ahead_in None = []
ahead_in (Some ahead) = ahead

abbrev pub value_of : Connection → ConnectionValue
value_of c = record {
  number = c.number;
  stream = c.stream;
  waiting = waiting_in c.unsent;
  room = room_in c.unsent;
  ahead = ahead_in c.ahead;
}

abbrev pub values : List Connection → List ConnectionValue
values connections = map (λ c. value_of c) connections

-- whose socket it is
abbrev pub socket_of : Connection → ℕ × TcpStream
socket_of c = (c.number, c.stream)

-- which socket each port has
abbrev pub sockets_of : List ConnectionValue → List (ℕ × TcpStream)
sockets_of connections = map (λ c. (c.number, c.stream)) connections

-- the numbers of connections
abbrev pub numbers : List ConnectionValue → List ℕ
numbers connections = map (λ s. s.0) (sockets_of connections)

-- the connections but one
abbrev pub all_but : ℕ → List ConnectionValue → List ConnectionValue
all_but number connections = filter (λ c. not (c.number == number)) connections

-- some bytes that the connection with a number holds; none if there is no such connection
abbrev pub held_at : (ConnectionValue → List ℕ) → ℕ → List ConnectionValue → List ℕ
held_at held number [] = []
held_at held number (c ∷ cs) = if c.number == number then held c else held_at held number cs

-- the bytes that wait to be sent at a port, and those that were read ahead from it
abbrev pub waiting_at : ℕ → List ConnectionValue → List ℕ
waiting_at port connections = held_at (λ c. c.waiting) port connections

abbrev pub ahead_at : ℕ → List ConnectionValue → List ℕ
ahead_at port connections = held_at (λ c. c.ahead) port connections

-- for how many bytes a port has room; none if there is no such port
abbrev pub room_at : ℕ → List ConnectionValue → ℕ
room_at port [] = 0
room_at port (c ∷ cs) = if c.number == port then c.room else room_at port cs

-- At each port only the first of the bytes that waited are gone, and what was read ahead stays.
pub record OnlySends (before after : List ConnectionValue) : Type 0 where
  pub waiting : (port : ℕ) → HaveGone (waiting_at port before) (waiting_at port after)
  pub ahead : (port : ℕ) → ahead_at port after ≡ ahead_at port before

-- A write to a port took the first so many bytes, or none, and they wait at that port, in order. At all others only the
-- first of the bytes that waited are gone. A port that is not open takes none.
pub record WritesTo (port : ℕ) (bytes : List ℕ) (answer : Result Put PortFault) (before after : List ConnectionValue)
    : Type 0 where
  pub takes : TakesInOrder (waiting_at port before) bytes answer (waiting_at port after)
  pub others : (other : ℕ) → other ≢ port → HaveGone (waiting_at other before) (waiting_at other after)
  pub ahead : (any : ℕ) → ahead_at any after ≡ ahead_at any before
  pub closed : ¬ (Contains (numbers before) port) → answer ≡ Ok Later

-- A read of a port gave the first of what was read ahead from that port, and then what came from the system. What was
-- read ahead from all others stays, and nothing new waits to be sent. A port that is not open is over.
pub record ReadsFrom (port : ℕ) (answer : Result Got PortFault) (given : List ℕ) (before after : List ConnectionValue)
    : Type 0 where
  pub gives : GivesInOrder (ahead_at port before) given (ahead_at port after)
  pub others : (other : ℕ) → other ≢ port → ahead_at other after ≡ ahead_at other before
  pub waiting : (any : ℕ) → HaveGone (waiting_at any before) (waiting_at any after)
  pub closed : ¬ (Contains (numbers before) port) → answer ≡ Ok Closed

-- A port has a new connection, which holds nothing, and all others are as they were.
pub record Opens (port : ℕ) (before after : List ConnectionValue) : Type 0 where
  pub stream : TcpStream
  pub is : after
      ≡ before ++ record { number = port; stream = stream; waiting = []; room = 0; ahead = [] } ∷ []

-- By an answer a port joined, with a socket of its own, or none did; all others keep theirs.
abbrev pub KeepsSockets : Result Happening PortFault → (before after : List (ℕ × TcpStream)) → Type 0
KeepsSockets (Ok (Joined port address)) before after = (stream : TcpStream) × (after ≡ before ++ (port, stream) ∷ [])
KeepsSockets (Ok (JoinedFeed port)) before after = (stream : TcpStream) × (after ≡ before ++ (port, stream) ∷ [])
KeepsSockets (Ok (Readable port)) before after = after ≡ before
KeepsSockets (Ok (Writable port)) before after = after ≡ before
KeepsSockets (Ok Quiet) before after = after ≡ before
KeepsSockets (Err fault) before after = after ≡ before
