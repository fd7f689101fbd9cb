use Rattle.std.proofs.Common.{◌≡◌, ◌∙◌, ◌<◌, ap, subst, sym, length, arith}
use Rattle.slab.specs.Slab.{get}
use Rattle.ports_socket.specs.Connections.{all_but, values}
use Rattle.ports_socket.specs.Places.{AreOthers, IsPlaceOf, closed_from, connections_at, numbers_of}
use Rattle.ports_socket.proofs.ConnectionLemmas.{all_but-found, all_but-none}
use Rattle.ports_socket.proofs.PlaceLemmas.{long}
use Rattle.ports_socket.proofs.TableLemmas.{left, left-table, numbers-there, rise-there, shut-closed}
use Rattle.ports_socket.proofs.connections.Connections.leave.Goals as goal

pub returns-in_err-at : goal.returns-in_err-at
returns-in_err-at c =
    let slots = c.self.inside.slots in
    let places = c.self.inside.opened.items in
    let others : AreOthers c.args.number (numbers_of places) =
    rw c.as_slice.ensures.value at c.in_err-at.ensures.absent in
    let same : all_but c.args.number (values (connections_at slots places)) ≡ values (connections_at slots places) =
    all_but-none c.args.number (connections_at slots places)
    (subst (AreOthers c.args.number) (sym (numbers-there slots places c.self.invariant.there)) others) in
    rw (← c.self.view_is) (sym same)

pub invariant_of-self : goal.invariant_of-self
invariant_of-self c =
    let slots = c.self.inside.slots in
    let places = c.self.inside.opened.items in
    let place : IsPlaceOf c.args.number (numbers_of places) c.in_ok-at.at =
    rw c.as_slice.ensures.value at c.in_ok-at.ensures.found in
    let inside : c.in_ok-at.at < length places = omega (arith, place.inside, long places) in
    rw c.remove-key.ensures.items
    (left-table slots c.close.new.slots places c.in_ok-at.at c.remove-key.result
    (closed_from (get slots c.remove-key.result.key)) c.self.invariant inside c.remove-key.ensures.value
    c.close.ensures (shut-closed (get slots c.remove-key.result.key)))

pub returns : goal.returns
returns c =
    let slots = c.self.inside.slots in
    let places = c.self.inside.opened.items in
    let place : IsPlaceOf c.args.number (numbers_of places) c.in_ok-at.at =
    rw c.as_slice.ensures.value at c.in_ok-at.ensures.found in
    let inside : c.in_ok-at.at < length places = omega (arith, place.inside, long places) in
    let is = left slots c.close.new.slots places c.in_ok-at.at c.remove-key.result
    (closed_from (get slots c.remove-key.result.key)) c.self.invariant inside c.remove-key.ensures.value
    c.close.ensures in
    rw (← c.self.view_is)
    (ap (λ ps. values (connections_at c.close.new.slots ps)) c.remove-key.ensures.items ∙ ap values is
    ∙ all_but-found c.args.number (connections_at slots places) c.in_ok-at.at (rise-there slots places c.self.invariant)
    (subst (λ ns. IsPlaceOf c.args.number ns c.in_ok-at.at) (sym (numbers-there slots places c.self.invariant.there))
    place))
