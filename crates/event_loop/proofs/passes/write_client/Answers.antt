use Rattle.event_loop.proofs.WriteLemmas.{write-none-left, write-spared, write-unwritable}
use Rattle.event_loop.proofs.LeaveLemmas.{leaves_none}
use Rattle.event_loop.proofs.passes.write_client.Goals as goal
use Rattle.event_loop.proofs.passes.write_client.Goals.{then-not-seat-via-then-not-seat}
use Rattle.event_loop.proofs.passes.write_client.Goals.{then-not-seat-via-else-not-seat+then-limit-eq0}

pub returns-then-not-seat-clause-goes : goal.returns-then-not-seat-clause-goes
returns-then-not-seat-clause-goes g c = λ t config w stands.
    let calls = g.P.Ports.calls in
    elim c.then-not-seat.branch [
      | then-not-seat-via-then-not-seat x ↦
          write-unwritable config w c.args.client.now c.args.limit (calls c.args.ports.now) c.args.server.now t
          c.args.seat.now x.if-not-seat.true stands
      | then-not-seat-via-else-not-seat+then-limit-eq0 x ↦
          write-none-left config w c.args.client.now c.args.limit (calls c.args.ports.now) c.args.server.now t
          c.args.seat.now x.if-limit-eq0.true stands
    ]

pub returns-then-finds_nothing-clause-goes : goal.returns-then-finds_nothing-clause-goes
returns-then-finds_nothing-clause-goes g c = λ t config w stands.
    let calls = g.P.Ports.calls in
    write-spared config w c.args.client.now c.args.limit
    (calls c.args.ports.now) c.args.server.now t c.args.seat.now c.if-not-seat.false
    (c.finds_nothing.ensures.idle c.if-finds_nothing.true config w stands)
    (c.finds_nothing.ensures.nothing c.if-finds_nothing.true config w stands)
    stands

pub returns-then-finds_nothing-clause-others : goal.returns-then-finds_nothing-clause-others
returns-then-finds_nothing-clause-others g c = leaves_none c.args.client.now c.args.server.now
