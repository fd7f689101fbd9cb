use Rattle.std.proofs.Common.{◌≡◌, arith, refl}
use Rattle.event_loop.proofs.FillLemmas.{hands-filled, hands-none, hands-nothing}
use Rattle.event_loop.proofs.passes.hand_pieces.Goals as goal

pub returns-then-most-lt2-clause-hands : goal.returns-then-most-lt2-clause-hands
returns-then-most-lt2-clause-hands g c = λ config w offers.
    let calls = g.P.Ports.calls in
    hands-none config w c.args.client.now c.args.port (calls c.args.ports.now) (calls c.args.ports.now) c.args.found
    c.args.server.now refl offers

pub returns-then-room-lt2-clause-hands : goal.returns-then-room-lt2-clause-hands
returns-then-room-lt2-clause-hands g c = λ config w offers.
    let calls = g.P.Ports.calls in
    hands-none config w c.args.client.now c.args.port (calls c.args.ports.now) (calls c.make_room-room.new.self)
    c.args.found c.args.server.now c.make_room-room.ensures.calls offers

pub returns-then-filled-gt0-clause-hands : goal.returns-then-filled-gt0-clause-hands
returns-then-filled-gt0-clause-hands g c = λ config w offers.
    let calls = g.P.Ports.calls in
    hands-filled config w c.args.client.now c.args.port (calls c.args.ports.now) (calls c.make_room-room.new.self)
    (calls c.write_pieces.new.self) c.clear.new.self.items c.fill-filled.new.out.items c.fill-filled.result
    c.fill-filled.new.self c.make_room-room.ensures.calls c.clear.ensures.items
    (c.fill-filled.ensures.fills config w offers) c.write_pieces.ensures.call

pub returns-else-filled-gt0-clause-hands : goal.returns-else-filled-gt0-clause-hands
returns-else-filled-gt0-clause-hands g c = λ config w offers.
    let calls = g.P.Ports.calls in
    let nothing : c.fill-filled.result.count ≡ 0 = omega arith in
    hands-nothing config w c.args.client.now c.args.port (calls c.args.ports.now) (calls c.make_room-room.new.self)
    c.clear.new.self.items c.fill-filled.new.out.items c.fill-filled.result c.fill-filled.new.self
    c.make_room-room.ensures.calls nothing (c.fill-filled.ensures.fills config w offers)
