use Rattle.std.proofs.Common.{◌∙◌, arith, Some, None}
use Rattle.event_loop.specs.Passes.ClientReads.{enough}
use Rattle.event_loop.specs.Passes.{ClientReads}
use Rattle.event_loop.proofs.DeedLemmas.{goes-on-from, ends-from, runs-out-at}
use Rattle.event_loop.proofs.StepLemmas.{once-on, once-stops, once-over}
use Rattle.event_loop.proofs.LeaveLemmas.{leaves_then}
use Rattle.event_loop.proofs.passes.read_client.Goals as goal

pub reads-preserved : goal.reads-preserved
reads-preserved g c =
    let calls = g.P.Ports.calls in
    record {
      role = c.read_once.ensures.role;
      port = c.read_once.ensures.port ∙ c.reads.invariant.port;
      others = leaves_then c.args.client.now c.args.server.now c.reads.server c.read_once.new.server
          c.reads.invariant.others
          c.read_once.ensures.others;
      goes = λ t config w stands.
          goes-on-from (ClientReads config c.args.client.now) c.args.limit c.reads.left
          (omega (arith, c.reads-test.true)) config w (calls c.args.ports.now) (calls c.reads.ports)
          (calls c.read_once.new.ports) c.reads.server c.read_once.new.server t t t c.args.seat.now c.reads.seat
          c.read_once.new.seat (c.reads.invariant.goes t config w stands)
          (λ w' there. once-on (ClientReads config c.args.client.now) config w' (calls c.reads.ports)
          (calls c.read_once.new.ports) c.read_once.new.server t t c.reads.seat c.read_once.new.seat _
          (c.read_once.ensures.goes t config w' there) c.in-On.is);
    }

pub returns-in-Stop-clause-goes : goal.returns-in-Stop-clause-goes
returns-in-Stop-clause-goes g c = λ t config w stands.
    let calls = g.P.Ports.calls in
    ends-from (ClientReads config c.args.client.now) c.args.limit c.reads.left (omega (arith, c.reads-test.true))
    config w
    (calls c.args.ports.now) (calls c.reads.ports)
    (calls c.read_once.new.ports) c.reads.server c.read_once.new.server t t t c.args.seat.now c.reads.seat
    (Some c.read_once.new.seat) (c.reads.invariant.goes t config w stands)
    (λ w' there. once-stops (ClientReads config c.args.client.now) config w' (calls c.reads.ports)
    (calls c.read_once.new.ports) c.read_once.new.server t t c.reads.seat c.read_once.new.seat _
    (c.read_once.ensures.goes t config w' there) c.in-Stop.is)

pub returns-in-Over-clause-goes : goal.returns-in-Over-clause-goes
returns-in-Over-clause-goes g c = λ t config w stands.
    let calls = g.P.Ports.calls in
    ends-from (ClientReads config c.args.client.now) c.args.limit c.reads.left (omega (arith, c.reads-test.true))
    config w
    (calls c.args.ports.now) (calls c.reads.ports)
    (calls c.read_once.new.ports) c.reads.server c.read_once.new.server t t t c.args.seat.now c.reads.seat None
    (c.reads.invariant.goes t config w stands)
    (λ w' there. once-over (ClientReads config c.args.client.now) config w' (calls c.reads.ports)
    (calls c.read_once.new.ports) c.read_once.new.server t t c.reads.seat c.read_once.new.seat _
    (c.read_once.ensures.goes t config w' there) c.in-Over.is)

pub returns-clause-goes : goal.returns-clause-goes
returns-clause-goes g c = λ t config w stands.
    let calls = g.P.Ports.calls in
    runs-out-at (ClientReads config c.args.client.now) c.args.limit c.reads.left
    (omega (arith, c.reads-test.false)) config w (calls c.args.ports.now)
    (calls c.reads.ports) c.reads.server t t c.args.seat.now c.reads.seat (Some c.reads.seat) (λ v. enough)
    (c.reads.invariant.goes t config w stands)

pub returns-in-Stop-clause-others : goal.returns-in-Stop-clause-others
returns-in-Stop-clause-others g c =
    leaves_then c.args.client.now c.args.server.now c.reads.server c.read_once.new.server c.reads.invariant.others
    c.read_once.ensures.others

pub returns-in-Over-clause-others : goal.returns-in-Over-clause-others
returns-in-Over-clause-others g c =
    leaves_then c.args.client.now c.args.server.now c.reads.server c.read_once.new.server c.reads.invariant.others
    c.read_once.ensures.others
