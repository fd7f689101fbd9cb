-- What connections hold, from one step of a call to the next.
use Rattle.std.proofs.Common.{◌≡◌, ℕ, ◌-◌, ◌==◌, Bool, true, false, if◌then◌else◌, List, [], ◌∷◌, ◌++◌}
use Rattle.std.proofs.Common.{length, map, take, Result, Ok, refl, sym, ap, subst, ◌∙◌, arith}
use Rattle.std.specs.List.{Contains}
use Rattle.std.proofs.lemmas.List.{append-nil, length_push, map_push, take_at}
use Rattle.mio.specs.declared.net.stream.TcpStream.{TcpStream}
use Rattle.std.specs.declared.net.ipv4_addr.Ipv4Addr.{Ipv4Addr}
use Rattle.ports.specs.declared.answers.Got.{Got}
use Rattle.ports.specs.declared.answers.Got.TheVariants.{Closed}
use Rattle.ports.specs.declared.answers.PortFault.{PortFault}
use Rattle.ports.specs.declared.answers.Put.{Put}
use Rattle.ports.specs.declared.answers.Put.TheVariants.{Later}
use Rattle.ports_socket.specs.declared.peer.PeerKind.{PeerKind}
use Rattle.ports_socket.specs.declared.peer.PeerKind.TheVariants.{Client, Feed}
use Rattle.ports_socket.specs.Connections.{ConnectionValue, KeepsSockets, OnlySends, Opens, ReadsFrom, WritesTo}
use Rattle.ports_socket.specs.Connections.{ahead_at, held_at, numbers, sockets_of, waiting_at}
use Rattle.ports_socket.specs.Peers.{happening_of}
use Rattle.ports_socket.specs.Reads.{GivesInOrder}
use Rattle.ports_socket.proofs.WaitingLemmas.{gone_none, gone_over, taken_after, taken_before}

pub sends_none : (a : List ConnectionValue) → OnlySends a a
sends_none a = record { waiting = λ m. gone_none _ _ refl; ahead = λ m. refl }

pub sends_on : (a b c : List ConnectionValue) → OnlySends a b → OnlySends b c → OnlySends a c
sends_on a b c first second = record {
  waiting = λ m. gone_over (waiting_at m a) (waiting_at m b) (waiting_at m c) (first.waiting m) (second.waiting m);
  ahead = λ m. second.ahead m ∙ first.ahead m;
}

pub ruleset sends = (sends_none, sends_on)

-- the ports that are open have the same numbers if they have the same sockets
open-as : (n : ℕ) (a b : List ConnectionValue) → sockets_of b ≡ sockets_of a → Contains (numbers b) n
    → Contains (numbers a) n
open-as n a b same there =
    subst (λ ns. Contains ns n) (ap (λ (l : List (ℕ × TcpStream)). map (λ s. s.0) l) same) there

pub writes_on : (n : ℕ) (bytes : List ℕ) (answer : Result Put PortFault) (a b c : List ConnectionValue)
    → OnlySends a b → sockets_of b ≡ sockets_of a → WritesTo n bytes answer b c → WritesTo n bytes answer a c
writes_on n bytes answer a b c first same second = record {
  takes = taken_after (waiting_at n a) (waiting_at n b) bytes answer (waiting_at n c) (first.waiting n) second.takes;
  others = λ m other.
      gone_over (waiting_at m a) (waiting_at m b) (waiting_at m c) (first.waiting m) (second.others m other);
  ahead = λ m. second.ahead m ∙ first.ahead m;
  closed = λ none. second.closed (λ there. none (open-as n a b same there));
}

-- and the same where what waits is sent after the write
pub writes_then : (n : ℕ) (bytes : List ℕ) (answer : Result Put PortFault) (a b c : List ConnectionValue)
    → WritesTo n bytes answer a b → OnlySends b c → WritesTo n bytes answer a c
writes_then n bytes answer a b c first second = record {
  takes = taken_before (waiting_at n a) bytes answer (waiting_at n b) (waiting_at n c) first.takes (second.waiting n);
  others = λ m other.
      gone_over (waiting_at m a) (waiting_at m b) (waiting_at m c) (first.others m other) (second.waiting m);
  ahead = λ m. second.ahead m ∙ first.ahead m;
  closed = first.closed;
}

pub reads_on : (n : ℕ) (answer : Result Got PortFault) (given : List ℕ) (a b c : List ConnectionValue)
    → OnlySends a b → sockets_of b ≡ sockets_of a → ReadsFrom n answer given b c → ReadsFrom n answer given a c
reads_on n answer given a b c first same second = record {
  gives = subst (λ l. GivesInOrder l given (ahead_at n c)) (first.ahead n) second.gives;
  others = λ m other. second.others m other ∙ first.ahead m;
  waiting = λ m. gone_over (waiting_at m a) (waiting_at m b) (waiting_at m c) (first.waiting m) (second.waiting m);
  closed = λ none. second.closed (λ there. none (open-as n a b same there));
}

-- a port that is not open gives nothing, and takes nothing
pub reads_nothing : (n : ℕ) (a b : List ConnectionValue) → OnlySends a b → ReadsFrom n (Ok Closed) [] a b
reads_nothing n a b sent = record {
  gives = record { received = []; in_order = sent.ahead n ∙ sym (append-nil (ahead_at n a)) };
  others = λ m other. sent.ahead m;
  waiting = sent.waiting;
  closed = λ none. refl;
}

pub writes_nothing : (n : ℕ) (bytes : List ℕ) (a b : List ConnectionValue) → OnlySends a b
    → WritesTo n bytes (Ok Later) a b
writes_nothing n bytes a b sent = record {
  takes = sent.waiting n;
  others = λ m other. sent.waiting m;
  ahead = sent.ahead;
  closed = λ none. refl;
}

-- ---- a new connection

if-none : (b : Bool) (l : List ℕ) → l ≡ [] → (if b then l else []) ≡ []
if-none true l e = e
if-none false l e = refl

-- it holds nothing
held-push : (held : ConnectionValue → List ℕ) (m : ℕ) (a : List ConnectionValue) (v : ConnectionValue) → held v ≡ []
    → held_at held m (a ++ v ∷ []) ≡ held_at held m a
held-push held m [] v none = if-none (v.number == m) (held v) none
held-push held m (x ∷ xs) v none = ap (λ l. if (x.number == m) then held x else l) (held-push held m xs v none)

pub opens_sends : (n : ℕ) (a b : List ConnectionValue) → Opens n a b → OnlySends a b
opens_sends n a b h = record {
  waiting = λ m. gone_none _ _ (ap (waiting_at m) h.is ∙ held-push (λ v. v.waiting) m a _ refl);
  ahead = λ m. ap (ahead_at m) h.is ∙ held-push (λ v. v.ahead) m a _ refl;
}

socket-push : (n : ℕ) (a b : List ConnectionValue) (h : Opens n a b)
    → sockets_of b ≡ sockets_of a ++ (n, h.stream) ∷ []
socket-push n a b h = ap sockets_of h.is ∙ map_push (λ (v : ConnectionValue). (v.number, v.stream)) a _

-- it has a socket of its own
pub opens_socket : (kind : PeerKind) (n : ℕ) (address : Ipv4Addr) (a b : List ConnectionValue) → Opens n a b
    → KeepsSockets (Ok (happening_of kind n address)) (sockets_of a) (sockets_of b)
opens_socket Client n address a b h = (h.stream, socket-push n a b h)
opens_socket Feed n address a b h = (h.stream, socket-push n a b h)

-- what is left without the last one
pub front_of_push : (a b : List ConnectionValue) (v : ConnectionValue) → b ≡ a ++ v ∷ [] → take (length b - 1) b ≡ a
front_of_push a b v e =
    let long : length (a ++ v ∷ []) - 1 ≡ length a = omega (arith, length_push a v) in
    ap (λ (l : List ConnectionValue). take (length l - 1) l) e
    ∙ ap (λ k. take k (a ++ v ∷ [])) long ∙ take_at a (v ∷ []) (length a) refl
