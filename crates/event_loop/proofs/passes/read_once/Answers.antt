use Rattle.std.proofs.Common.{◌≡◌, ◌∙◌, arith, rules}
use Rattle.event_loop.specs.Passes.{room_in}
use Rattle.event_loop.proofs.ReadLemmas.{room-told, read-refused, read-full}
use Rattle.event_loop.proofs.passes.read_once.Goals as goal

pub returns-then-not-seat-clause-goes : goal.returns-then-not-seat-clause-goes
returns-then-not-seat-clause-goes g c = λ t config w stands.
    read-refused config w c.args.client.now
    (g.P.Ports.calls c.args.ports.now) c.args.server.now t c.args.seat.now stands c.if-not-seat.true

pub returns-then-room-eq0-clause-goes : goal.returns-then-room-eq0-clause-goes
returns-then-room-eq0-clause-goes g c = λ t config w stands.
    let room : c.unwrap_or.result ≡ room_in w c.args.client.now = c.unwrap_or.ensures
    ∙ room-told c.room.result _ (c.room.ensures config w stands) in
    let full : room_in w c.args.client.now
    ≡ 0 = omega (arith, room, c.min-room.ensures, c.if-room-eq0.true, c.requires.buffer) in
    read-full config w c.args.client.now (g.P.Ports.calls c.args.ports.now) c.args.server.now t c.args.seat.now stands
    full

-- The search finds this by itself. It is written down since the prover takes half a minute to offer an answer where
-- there is none, which a wrong body would wait for.
pub read_piece-requires-clause-fits : goal.read_piece-requires-clause-fits
read_piece-requires-clause-fits g c = search rules
