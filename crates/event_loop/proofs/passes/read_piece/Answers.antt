use Rattle.std.proofs.Common.{rules, ◌≡◌, length, take, ap, ◌∙◌, arith, subst, sym, [], ◌∷◌, Ok}
use Rattle.ports.specs.Calls.{Tells, given}
use Rattle.ports.specs.Calls.Call.{Read}
use Rattle.ports.specs.Calls.Given.{Piece}
use Rattle.event_loop.proofs.ReadLemmas.{read-piece, read-later, read-closed, read-failed}
use Rattle.event_loop.proofs.passes.read_piece.Goals as goal

pub returns-in-Ok-Bytes-clause-goes : goal.returns-in-Ok-Bytes-clause-goes
returns-in-Ok-Bytes-clause-goes g c = λ t config w stands.
    let fits = c.requires.fits config w stands in
    let same : length c.read.new.buffer ≡ length c.args.piece.now = search rules in
    read-piece config w c.args.client.now (length c.read.new.buffer) (take c.in-Ok-Bytes.count c.read.new.buffer)
    (g.P.Ports.calls c.args.ports.now) (g.P.Ports.calls c.receive.new.ports) c.receive.new.server t c.args.seat.now
    (c.requires.role, c.requires.readable, omega (arith, fits, c.requires.some)) (omega (arith, fits, same))
    (subst
    (λ b. Tells (g.P.Ports.calls c.args.ports.now) b
    (Read c.args.seat.now.port (length c.read.new.buffer) (Piece (take c.in-Ok-Bytes.count c.read.new.buffer)) ∷ []))
    (sym c.receive.ensures.calls)
    (subst
    (λ r. Tells (g.P.Ports.calls c.args.ports.now) (g.P.Ports.calls c.read.new.self)
    (Read c.args.seat.now.port (length c.read.new.buffer) (given r c.read.new.buffer) ∷ []))
    (c.in-Ok-Bytes.is ∙ ap Ok c.in-Ok-Bytes.field-0-is) c.read.ensures.call))
    (c.receive.ensures.stands config w stands)

pub returns-in-Ok-Later-clause-goes : goal.returns-in-Ok-Later-clause-goes
returns-in-Ok-Later-clause-goes g c = λ t config w stands.
    let fits = c.requires.fits config w stands in
    let same : length c.read.new.buffer ≡ length c.args.piece.now = search rules in
    read-later config w c.args.client.now (length c.read.new.buffer) (g.P.Ports.calls c.args.ports.now)
    (g.P.Ports.calls c.read.new.self) c.args.server.now t c.args.seat.now (
      c.requires.role,
      c.requires.readable,
      omega (arith, fits, c.requires.some),
    ) (omega (arith, fits, same))
    (subst
    (λ r. Tells (g.P.Ports.calls c.args.ports.now) (g.P.Ports.calls c.read.new.self)
    (Read c.args.seat.now.port (length c.read.new.buffer) (given r c.read.new.buffer) ∷ []))
    (c.in-Ok-Later.is ∙ ap Ok c.in-Ok-Later.field-0-is) c.read.ensures.call)
    stands

pub returns-in-Ok-Closed-clause-goes : goal.returns-in-Ok-Closed-clause-goes
returns-in-Ok-Closed-clause-goes g c = λ t config w stands.
    let fits = c.requires.fits config w stands in
    let same : length c.read.new.buffer ≡ length c.args.piece.now = search rules in
    read-closed config w c.args.client.now (length c.read.new.buffer) (g.P.Ports.calls c.args.ports.now)
    (g.P.Ports.calls c.read.new.self) (g.P.Ports.calls c.shut.new.ports) c.shut.new.server t c.args.seat.now
    (c.requires.role, c.requires.readable, omega (arith, fits, c.requires.some)) (omega (arith, fits, same))
    (subst
    (λ r. Tells (g.P.Ports.calls c.args.ports.now) (g.P.Ports.calls c.read.new.self)
    (Read c.args.seat.now.port (length c.read.new.buffer) (given r c.read.new.buffer) ∷ []))
    (c.in-Ok-Closed.is ∙ ap Ok c.in-Ok-Closed.field-0-is) c.read.ensures.call)
    c.shut.ensures.call (c.shut.ensures.stands config w stands)

pub returns-in-Err-clause-goes : goal.returns-in-Err-clause-goes
returns-in-Err-clause-goes g c = λ t config w stands.
    let fits = c.requires.fits config w stands in
    let same : length c.read.new.buffer ≡ length c.args.piece.now = search rules in
    read-failed config w c.args.client.now (length c.read.new.buffer) (g.P.Ports.calls c.args.ports.now)
    (g.P.Ports.calls c.read.new.self)
    (g.P.Ports.calls c.shut-in-Err.new.ports) c.shut-in-Err.new.server t c.args.seat.now (
      c.requires.role,
      c.requires.readable,
      omega (arith, fits, c.requires.some),
    ) (omega (arith, fits, same))
    (subst
    (λ r. Tells (g.P.Ports.calls c.args.ports.now) (g.P.Ports.calls c.read.new.self)
    (Read c.args.seat.now.port (length c.read.new.buffer) (given r c.read.new.buffer) ∷ [])) c.in-Err.is
    c.read.ensures.call)
    c.shut-in-Err.ensures.call (c.shut-in-Err.ensures.stands config w stands)
