use Rattle.std.proofs.Common.{◌≡◌, ◌≤◌, arith, length, subst, sym}
use Rattle.ports_socket.specs.Connections.{room_at, values}
use Rattle.ports_socket.specs.Places.{AreOthers, IsPlaceOf, connections_at, numbers_of}
use Rattle.ports_socket.specs.Waiting.{room_in, waiting_in}
use Rattle.ports_socket.proofs.HeldLemmas.{kept-sockets, kept-table, kept-writes}
use Rattle.ports_socket.proofs.RoomLemmas.{IsOpenAt, not-vacant, open-at, room-kept, room-none}
use Rattle.ports_socket.proofs.TableLemmas.{numbers-there}
use Rattle.ports_socket.proofs.WaitingLemmas.{taken_all}
use Rattle.ports_socket.proofs.connections.Connections.take_all.Goals as goal

pub returns-in_default-clause-writes : goal.returns-in_default-clause-writes
returns-in_default-clause-writes c =
    let slots = c.self.inside.slots in
    let places = c.self.inside.opened.items in
    let others : AreOthers c.args.number (numbers_of places) =
    rw c.as_slice.ensures.value at c.in_default.ensures.absent in
    let none : room_at c.args.number (values (connections_at slots places)) ≡ 0 =
    room-none c.args.number (connections_at slots places)
    (subst (AreOthers c.args.number) (sym (numbers-there slots places c.self.invariant.there)) others) in
    let room : length c.args.bytes.now.items ≤ room_at c.args.number (values (connections_at slots places)) =
    rw c.self.view_is c.requires.room in
    absurd (omega (arith, none, room, c.requires.some))

pub returns-in_default-get_mut-clause-writes : goal.returns-in_default-get_mut-clause-writes
returns-in_default-get_mut-clause-writes c =
    let places = c.self.inside.opened.items in
    let place : IsPlaceOf c.args.number (numbers_of places) c.in-Some.at =
    rw c.as_slice.ensures.value at c.in-Some.ensures.found in
    absurd (not-vacant c.self.inside.slots places c.args.number c.in-Some.at c.index.result.now c.self.invariant place
    c.index.ensures (sym c.in_default-get_mut.ensures.value))

pub take_all-requires-clause-room : goal.take_all-requires-clause-room
take_all-requires-clause-room c =
    let slots = c.self.inside.slots in
    let places = c.self.inside.opened.items in
    let h = c.in-Some-get_mut.held.now in
    let place : IsPlaceOf c.args.number (numbers_of places) c.in-Some.at =
    rw c.as_slice.ensures.value at c.in-Some.ensures.found in
    let is : IsOpenAt c.args.number h =
    open-at slots places c.args.number c.in-Some.at c.index.result.now c.self.invariant place c.index.ensures h
    (sym c.in-Some-get_mut.ensures.value) in
    let kept : room_at c.args.number (values (connections_at slots places)) ≡ room_in h.connection.unsent =
    room-kept slots places c.index.result.now.key h c.args.number c.self.invariant
    (sym c.in-Some-get_mut.ensures.value) is.opened is.number in
    let room : length c.args.bytes.now.items ≤ room_at c.args.number (values (connections_at slots places)) =
    rw c.self.view_is c.requires.room in
    subst (λ n. length c.args.bytes.now.items ≤ n) kept room

pub invariant_of-self-2 : goal.invariant_of-self-2
invariant_of-self-2 c =
    let slots = c.self.inside.slots in
    let places = c.self.inside.opened.items in
    let h = c.in-Some-get_mut.held.now in
    let place : IsPlaceOf c.args.number (numbers_of places) c.in-Some.at =
    rw c.as_slice.ensures.value at c.in-Some.ensures.found in
    let is : IsOpenAt c.args.number h =
    open-at slots places c.args.number c.in-Some.at c.index.result.now c.self.invariant place c.index.ensures h
    (sym c.in-Some-get_mut.ensures.value) in
    kept-table slots places c.index.result.now.key h c.self.invariant (sym c.in-Some-get_mut.ensures.value) is.opened
    c.args.number is.number c.take_all.new.self c.take_all.ensures.socket

pub returns-clause-writes : goal.returns-clause-writes
returns-clause-writes c =
    let slots = c.self.inside.slots in
    let places = c.self.inside.opened.items in
    let h = c.in-Some-get_mut.held.now in
    let place : IsPlaceOf c.args.number (numbers_of places) c.in-Some.at =
    rw c.as_slice.ensures.value at c.in-Some.ensures.found in
    let is : IsOpenAt c.args.number h =
    open-at slots places c.args.number c.in-Some.at c.index.result.now c.self.invariant place c.index.ensures h
    (sym c.in-Some-get_mut.ensures.value) in
    rw (← c.self.view_is)
    (kept-writes slots places c.index.result.now.key h c.self.invariant (sym c.in-Some-get_mut.ensures.value) is.opened
    c.args.number is.number c.take_all.new.self c.take_all.ensures.socket c.args.bytes.now.items _
    (taken_all (waiting_in h.connection.unsent) c.args.bytes.now.items (waiting_in c.take_all.new.self.unsent)
    c.take_all.ensures.taken) c.take_all.ensures.ahead)

pub returns-clause-sockets : goal.returns-clause-sockets
returns-clause-sockets c =
    let slots = c.self.inside.slots in
    let places = c.self.inside.opened.items in
    let h = c.in-Some-get_mut.held.now in
    let place : IsPlaceOf c.args.number (numbers_of places) c.in-Some.at =
    rw c.as_slice.ensures.value at c.in-Some.ensures.found in
    let is : IsOpenAt c.args.number h =
    open-at slots places c.args.number c.in-Some.at c.index.result.now c.self.invariant place c.index.ensures h
    (sym c.in-Some-get_mut.ensures.value) in
    rw (← c.self.view_is)
    (kept-sockets slots places c.index.result.now.key h c.self.invariant (sym c.in-Some-get_mut.ensures.value)
    is.opened c.args.number is.number c.take_all.new.self c.take_all.ensures.socket)
