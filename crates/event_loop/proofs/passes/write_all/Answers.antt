use Rattle.std.proofs.Common.{◌<◌, ◌≤◌, ◌-◌, ◌∙◌, arith, refl}
use Rattle.event_loop.proofs.LeaveLemmas.{leaves_then}
use Rattle.event_loop.proofs.OfferingLemmas.{offered-begins, offered-goes-on, offered-over, offered-runs-out}
use Rattle.event_loop.proofs.OfferingLemmas.{offered-stops}
use Rattle.event_loop.proofs.passes.write_all.Goals as goal

pub writes-init : goal.writes-init
writes-init g c =
    let calls = g.P.Ports.calls in
    record {
      role = c.requires.role;
      writable = c.requires.writable;
      port = refl;
      some = omega (arith, c.requires.some);
      others = c.offer-found.ensures.others;
      goes = λ t config w stands.
          offered-begins config c.args.client.now c.args.limit w (calls c.args.ports.now) c.offer-found.new.self t
          c.args.seat.now c.offer-found.result
          (record {
            stands = c.offer-found.ensures.stands config w stands;
            answer = c.offer-found.ensures.answer config w stands;
          });
    }

pub writes-preserved : goal.writes-preserved
writes-preserved g c =
    let calls = g.P.Ports.calls in
    record {
      role = c.write_on.ensures.role;
      writable = c.in-Write.ensures.writable;
      port = c.write_on.ensures.port ∙ c.writes.invariant.port;
      some =
          let more : 1 < c.writes.left = c.writes-test.true in
          let few : c.in-Write.made ≤ c.writes.left - 1 = c.in-Write.ensures.made.1 in
          omega arith;
      others = leaves_then c.args.client.now c.args.server.now c.writes.server c.write_on.new.server
          c.writes.invariant.others c.write_on.ensures.others;
      goes = λ t config w stands.
          offered-goes-on config c.args.client.now c.args.limit c.writes.left
          (let some = c.writes.invariant.some in omega arith) w (calls c.args.ports.now) (calls c.writes.ports)
          (calls c.write_on.new.ports) c.writes.server c.write_on.new.server t c.args.seat.now c.writes.seat
          c.writes.found (c.writes.invariant.goes t config w stands) c.write_on.new.seat c.in-Write.next c.in-Write.made
          (let few : c.in-Write.made ≤ c.writes.left - 1 = c.in-Write.ensures.made.1 in omega arith)
          (λ v offers. c.in-Write.ensures.goes t config v offers);
    }

pub returns-in-Stop-clause-goes : goal.returns-in-Stop-clause-goes
returns-in-Stop-clause-goes g c = λ t config w stands.
    let calls = g.P.Ports.calls in
    offered-stops config c.args.client.now c.args.limit c.writes.left
    (let some = c.writes.invariant.some in omega arith) w (calls c.args.ports.now) (calls c.writes.ports)
    (calls c.write_on.new.ports) c.writes.server c.write_on.new.server t c.args.seat.now c.writes.seat
    c.writes.found (c.writes.invariant.goes t config w stands) c.write_on.new.seat
    (λ v offers. c.in-Stop.ensures.goes t config v offers)

pub returns-in-Over-clause-goes : goal.returns-in-Over-clause-goes
returns-in-Over-clause-goes g c = λ t config w stands.
    let calls = g.P.Ports.calls in
    offered-over config c.args.client.now c.args.limit c.writes.left
    (let some = c.writes.invariant.some in omega arith) w (calls c.args.ports.now) (calls c.writes.ports)
    (calls c.write_on.new.ports) c.writes.server c.write_on.new.server t c.args.seat.now c.writes.seat
    c.writes.found (c.writes.invariant.goes t config w stands) c.write_on.new.seat
    (λ v offers. c.in-Over.ensures.goes t config v offers)

pub returns-in-On-clause-goes : goal.returns-in-On-clause-goes
returns-in-On-clause-goes g c = λ t config w stands.
    let calls = g.P.Ports.calls in
    offered-runs-out config c.args.client.now c.args.limit c.writes.left
    (let some = c.writes.invariant.some in omega arith) w (calls c.args.ports.now) (calls c.writes.ports)
    (calls c.write_last.new.ports) c.writes.server c.write_last.new.server t c.args.seat.now c.writes.seat
    c.writes.found (c.writes.invariant.goes t config w stands) c.write_last.new.seat
    (let some = c.writes.invariant.some in omega arith)
    (λ v offers. c.in-On.ensures.goes t config v offers)

pub returns-in-Stop-write_last-clause-goes : goal.returns-in-Stop-write_last-clause-goes
returns-in-Stop-write_last-clause-goes g c = λ t config w stands.
    let calls = g.P.Ports.calls in
    offered-stops config c.args.client.now c.args.limit c.writes.left
    (let some = c.writes.invariant.some in omega arith) w (calls c.args.ports.now) (calls c.writes.ports)
    (calls c.write_last.new.ports) c.writes.server c.write_last.new.server t c.args.seat.now c.writes.seat
    c.writes.found (c.writes.invariant.goes t config w stands) c.write_last.new.seat
    (λ v offers. c.in-Stop-write_last.ensures.goes t config v offers)

pub returns-in-Over-write_last-clause-goes : goal.returns-in-Over-write_last-clause-goes
returns-in-Over-write_last-clause-goes g c = λ t config w stands.
    let calls = g.P.Ports.calls in
    offered-over config c.args.client.now c.args.limit c.writes.left
    (let some = c.writes.invariant.some in omega arith) w (calls c.args.ports.now) (calls c.writes.ports)
    (calls c.write_last.new.ports) c.writes.server c.write_last.new.server t c.args.seat.now c.writes.seat
    c.writes.found (c.writes.invariant.goes t config w stands) c.write_last.new.seat
    (λ v offers. c.in-Over-write_last.ensures.goes t config v offers)
