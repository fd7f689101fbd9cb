use Rattle.std.proofs.Common.{◌≡◌, subst, sym}
use Rattle.ports_socket.specs.Connections.{all_but, values}
use Rattle.ports_socket.specs.Places.{AreOthers, IsPlaceOf, connections_at, numbers_of}
use Rattle.ports_socket.proofs.ConnectionLemmas.{all_but-none, contains-at}
use Rattle.ports_socket.proofs.TableLemmas.{numbers-there}
use Rattle.ports_socket.proofs.connections.Connections.find.Goals as goal

pub returns-in_err-at-clause-absent : goal.returns-in_err-at-clause-absent
returns-in_err-at-clause-absent c =
    let slots = c.self.inside.slots in
    let places = c.self.inside.opened.items in
    let others : AreOthers c.args.number (numbers_of places) =
    rw c.as_slice.ensures.value at c.in_err-at.ensures.absent in
    let same : all_but c.args.number (values (connections_at slots places)) ≡ values (connections_at slots places) =
    all_but-none c.args.number (connections_at slots places)
    (subst (AreOthers c.args.number) (sym (numbers-there slots places c.self.invariant.there)) others) in
    rw c.from_residual.ensures (rw (← c.self.view_is) same)

pub returns-clause-open : goal.returns-clause-open
returns-clause-open c =
    let slots = c.self.inside.slots in
    let places = c.self.inside.opened.items in
    let place : IsPlaceOf c.args.number (numbers_of places) c.in_ok-at.at =
    rw c.as_slice.ensures.value at c.in_ok-at.ensures.found in
    rw (← c.self.view_is)
    (contains-at c.args.number (connections_at slots places) c.in_ok-at.at
    (subst (λ ns. IsPlaceOf c.args.number ns c.in_ok-at.at) (sym (numbers-there slots places c.self.invariant.there))
    place))
