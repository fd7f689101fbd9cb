use Rattle.std.proofs.Common.{◌≡◌, ◌∙◌, ap, get_or, sym}
use Rattle.std.proofs.lemmas.List.{get_or_default}
use Rattle.ports_socket.specs.Peers.{IsGapFor, IsPeerAt, address_or, no_peer}
use Rattle.ports_socket.specs.declared.peer.Peer.{Peer}
use Rattle.ports_socket.proofs.PeerLemmas.{find-absent, find-found}
use Rattle.ports_socket.proofs.peers.Peers.address.Goals as goal

pub returns-in-Ok : goal.returns-in-Ok
returns-in-Ok c =
    let xs = c.self.inside.opened.items in
    let found : IsPeerAt xs c.args.number c.in-Ok.at = rw c.as_slice.ensures.value at c.in-Ok.ensures.found in
    let here : c.index.result.now ≡ get_or xs c.in-Ok.at no_peer =
    c.index.ensures ∙ get_or_default xs c.in-Ok.at c.index.result.now no_peer found.inside in
    rw (← c.self.view_is)
    (ap (λ (p : Peer). p.address) here
    ∙ sym (ap address_or (find-found c.args.number xs c.in-Ok.at c.self.invariant.0 found)))

pub returns-in-Err : goal.returns-in-Err
returns-in-Err c =
    let xs = c.self.inside.opened.items in
    let gap : IsGapFor xs c.args.number c.in-Err.field-0 = rw c.as_slice.ensures.value at c.in-Err.ensures.absent in
    rw (← c.self.view_is) (sym (ap address_or (find-absent c.args.number xs c.in-Err.field-0 gap)))
