use Rattle.std.proofs.Common.{rules, ◌≡◌, ◌∙◌, ℕ, List, arith, get_or, sym, subst, ap, true}
use Rattle.std.proofs.lemmas.List.{get_or_default}
use Rattle.std.specs.Net.Addr.{ipv4_bits}
use Rattle.std.specs.List.{remove}
use Rattle.ports_socket.specs.Hosts.{CountsClients, CountsOut, is_client_of}
use Rattle.ports_socket.specs.Peers.{AreBelow, IsGapFor, IsPeerAt, PeersValue, Rise, no_peer, without}
use Rattle.ports_socket.specs.declared.admission.Admission.{Admission}
use Rattle.ports_socket.specs.declared.peer.Peer.{Peer}
use Rattle.ports_socket.proofs.HostLemmas.{counted-there, counts-remove, own-address}
use Rattle.ports_socket.proofs.PeerLemmas.{below-remove, rise-remove, without-absent, without-found}
use Rattle.ports_socket.proofs.peers.Peers.remove.Goals as goal

abbrev with_opened : Admission → ℕ → List Peer → PeersValue
with_opened admission joined opened = record { admission = admission; joined = joined; opened = opened }

pub invariant_of-self : goal.invariant_of-self
invariant_of-self c =
    let ps = c.self.inside.opened.items in
    let found : IsPeerAt ps c.args.number c.in-Ok.at = rw c.as_slice.ensures.value at c.in-Ok.ensures.found in
    let gone : c.remove-gone.result ≡ get_or ps c.in-Ok.at no_peer =
    c.remove-gone.ensures.value ∙ get_or_default ps c.in-Ok.at c.remove-gone.result no_peer found.inside in
    let less : CountsOut (get_or ps c.in-Ok.at no_peer) c.self.inside.hosts c.count_out.new.hosts =
    subst (λ p. CountsOut p c.self.inside.hosts c.count_out.new.hosts) gone c.count_out.ensures in
    let items : c.remove-gone.new.self.items ≡ remove ps c.in-Ok.at = search rules in (
      subst (λ (l : List Peer). Rise l) (sym items) (rise-remove _ c.in-Ok.at c.self.invariant.0),
      subst (λ (l : List Peer). AreBelow c.self.inside.joined l) (sym items)
          (below-remove c.self.inside.joined _ c.in-Ok.at c.self.invariant.1),
      subst (λ (l : List Peer). CountsClients c.count_out.new.hosts l) (sym items)
          (counts-remove c.self.inside.hosts c.count_out.new.hosts ps c.in-Ok.at c.self.invariant.2 found.inside less),
    )

pub count_out-requires : goal.count_out-requires
count_out-requires c = λ is_client.
    let ps = c.self.inside.opened.items in
    let found : IsPeerAt ps c.args.number c.in-Ok.at = rw c.as_slice.ensures.value at c.in-Ok.ensures.found in
    let gone : c.remove-gone.result ≡ get_or ps c.in-Ok.at no_peer =
    c.remove-gone.ensures.value ∙ get_or_default ps c.in-Ok.at c.remove-gone.result no_peer found.inside in
    let a : ℕ = ipv4_bits c.remove-gone.result.address in
    let yes : is_client_of a (get_or ps c.in-Ok.at no_peer) ≡ true =
    subst (λ p. is_client_of a p ≡ true) gone (own-address c.remove-gone.result is_client) in
    let some = counted-there a ps c.in-Ok.at found.inside yes in
    omega (arith, some, c.self.invariant.2 a)

pub returns-in-Ok : goal.returns-in-Ok
returns-in-Ok c =
    let xs = c.self.inside.opened.items in
    let found : IsPeerAt xs c.args.number c.in-Ok.at = rw c.as_slice.ensures.value at c.in-Ok.ensures.found in
    let items : c.remove-gone.new.self.items ≡ remove xs c.in-Ok.at = search rules in
    let left : c.remove-gone.new.self.items ≡ without c.args.number xs =
    items ∙ sym (without-found c.args.number xs c.in-Ok.at c.self.invariant.0 found) in
    rw (← c.self.view_is)
    (ap (with_opened c.self.inside.admission c.self.inside.joined) left)

pub returns-in_default : goal.returns-in_default
returns-in_default c =
    let xs = c.self.inside.opened.items in
    let gap : IsGapFor xs c.args.number c.in_default.field-0 =
    rw c.as_slice.ensures.value at c.in_default.ensures.absent in
    rw (← c.self.view_is)
    (ap (with_opened c.self.inside.admission c.self.inside.joined)
    (sym (without-absent c.args.number xs c.in_default.field-0 gap)))
