use Rattle.std.proofs.Common.{rules, ◌≡◌, ◌+◌, ◌++◌, ◌∷◌, [], List, refl, sym, subst}
use Rattle.ports_socket.specs.Peers.{AreBelow, Rise}
use Rattle.ports_socket.specs.Hosts.{CountsClients, CountsIn}
use Rattle.ports_socket.specs.declared.peer.Peer.{Peer}
use Rattle.ports_socket.proofs.HostLemmas.{counts-push}
use Rattle.ports_socket.proofs.PeerLemmas.{below-push, rise-push}
use Rattle.ports_socket.proofs.peers.Peers.add.Goals as goal

pub invariant_of-self-in-Ok : goal.invariant_of-self-in-Ok
invariant_of-self-in-Ok c =
    let p : Peer =
    record { number = c.self.inside.joined; kind = c.args.kind; address = c.args.address } in
    let ps = c.self.inside.opened.items in
    let items : c.push_reserved.new.self.items ≡ ps ++ p ∷ [] = search rules in
    let counted : CountsIn p c.self.inside.hosts c.count_in.new.hosts = search rules in (
      subst (λ (l : List Peer). Rise l) (sym items) (rise-push _ p c.self.invariant.0 c.self.invariant.1),
      subst (λ (l : List Peer). AreBelow (c.self.inside.joined + 1) l) (sym items)
          (below-push c.self.inside.joined _ p c.self.invariant.1 refl),
      subst (λ (l : List Peer). CountsClients c.count_in.new.hosts l) (sym items)
          (counts-push p c.self.inside.hosts c.count_in.new.hosts ps c.self.invariant.2 counted),
    )

pub invariant_of-self : goal.invariant_of-self
invariant_of-self c =
    let items : c.reserve.new.self.items ≡ c.self.inside.opened.items = search rules in
    subst (λ (l : List Peer). Rise l × AreBelow c.self.inside.joined l × CountsClients c.self.inside.hosts l)
    (sym items) c.self.invariant

pub invariant_of-self-in-Err : goal.invariant_of-self-in-Err
invariant_of-self-in-Err c =
    let items : c.reserve.new.self.items ≡ c.self.inside.opened.items = search rules in
    let hosts : c.count_in.new.hosts ≡ c.self.inside.hosts = search rules in (
      subst (λ (l : List Peer). Rise l) (sym items) c.self.invariant.0,
      subst (λ (l : List Peer). AreBelow c.self.inside.joined l) (sym items) c.self.invariant.1,
      subst (λ (l : List Peer). CountsClients c.count_in.new.hosts l) (sym items)
          (subst (λ h. CountsClients h c.self.inside.opened.items) (sym hosts) c.self.invariant.2),
    )
