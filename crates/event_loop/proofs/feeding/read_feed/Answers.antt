use Rattle.std.proofs.Common.{rules, ◌≡◌, arith, length, Some, None}
use Rattle.event_loop.specs.Feeding.{FeedReads, feed_seat, feed_tally}
use Rattle.event_loop.specs.Feeding.FeedReads.{enough}
use Rattle.event_loop.proofs.DeedLemmas.{goes-on-from, ends-from, runs-out-at}
use Rattle.event_loop.proofs.StepLemmas.{once-on, once-stops, once-over}
use Rattle.event_loop.proofs.LeaveLemmas.{quiet_then}
use Rattle.event_loop.proofs.feeding.read_feed.Goals as goal

pub reads-preserved : goal.reads-preserved
reads-preserved g c =
    let calls = g.P.Ports.calls in
    let same : length c.read_feed_once.new.buffer ≡ length c.reads.buffer = search rules in
    record {
      goes = λ writable happenings config w stands.
          let t = feed_tally happenings c.reads.refused in
          let t' = feed_tally happenings c.read_feed_once.new.refused in
          let s = feed_seat c.args.port c.reads.cutter c.reads.readable writable in
          let s' = feed_seat c.args.port c.read_feed_once.new.cutter c.read_feed_once.new.readable writable in
          goes-on-from (FeedReads config) c.args.limit c.reads.left (omega (arith, c.reads-test.true)) config w
          (calls c.args.ports.now) (calls c.reads.ports)
          (calls c.read_feed_once.new.ports) c.reads.server c.read_feed_once.new.server
          (feed_tally happenings c.args.refused.now) t t'
          (feed_seat c.args.port c.args.cutter.now c.args.readable.now writable) s s'
          (c.reads.invariant.goes writable happenings config w stands)
          (λ v there. once-on (FeedReads config) config v (calls c.reads.ports)
          (calls c.read_feed_once.new.ports) c.read_feed_once.new.server t t' s s' _
          (c.read_feed_once.ensures.goes writable happenings config v there) c.in-On.is);
      some = omega (arith, same, c.reads.invariant.some);
      quiet = quiet_then c.args.server.now c.reads.server
          c.read_feed_once.new.server c.reads.invariant.quiet c.read_feed_once.ensures.quiet;
      short = omega (arith, same, c.reads.invariant.short);
    }

pub returns-in-Stop : goal.returns-in-Stop
returns-in-Stop g c =
    let calls = g.P.Ports.calls in
    record {
      goes = λ writable happenings config w stands.
          let t = feed_tally happenings c.reads.refused in
          let t' = feed_tally happenings c.read_feed_once.new.refused in
          let s = feed_seat c.args.port c.reads.cutter c.reads.readable writable in
          let s' = feed_seat c.args.port c.read_feed_once.new.cutter c.read_feed_once.new.readable writable in
          ends-from (FeedReads config) c.args.limit c.reads.left (omega (arith, c.reads-test.true)) config w
          (calls c.args.ports.now) (calls c.reads.ports)
          (calls c.read_feed_once.new.ports) c.reads.server c.read_feed_once.new.server
          (feed_tally happenings c.args.refused.now) t t'
          (feed_seat c.args.port c.args.cutter.now c.args.readable.now writable) s (Some s')
          (c.reads.invariant.goes writable happenings config w stands)
          (λ v there. once-stops (FeedReads config) config v (calls c.reads.ports)
          (calls c.read_feed_once.new.ports) c.read_feed_once.new.server t t' s s' _
          (c.read_feed_once.ensures.goes writable happenings config v there) c.in-Stop.is);
      quiet = quiet_then c.args.server.now c.reads.server
          c.read_feed_once.new.server c.reads.invariant.quiet c.read_feed_once.ensures.quiet;
    }

pub returns-in-Over : goal.returns-in-Over
returns-in-Over g c =
    let calls = g.P.Ports.calls in
    record {
      goes = λ writable happenings config w stands.
          let t = feed_tally happenings c.reads.refused in
          let t' = feed_tally happenings c.read_feed_once.new.refused in
          let s = feed_seat c.args.port c.reads.cutter c.reads.readable writable in
          let s' = feed_seat c.args.port c.read_feed_once.new.cutter c.read_feed_once.new.readable writable in
          ends-from (FeedReads config) c.args.limit c.reads.left (omega (arith, c.reads-test.true)) config w
          (calls c.args.ports.now) (calls c.reads.ports)
          (calls c.read_feed_once.new.ports) c.reads.server c.read_feed_once.new.server
          (feed_tally happenings c.args.refused.now) t t'
          (feed_seat c.args.port c.args.cutter.now c.args.readable.now writable) s None
          (c.reads.invariant.goes writable happenings config w stands)
          (λ v there. once-over (FeedReads config) config v (calls c.reads.ports)
          (calls c.read_feed_once.new.ports) c.read_feed_once.new.server t t' s s' _
          (c.read_feed_once.ensures.goes writable happenings config v there) c.in-Over.is);
      quiet = quiet_then c.args.server.now c.reads.server
          c.read_feed_once.new.server c.reads.invariant.quiet c.read_feed_once.ensures.quiet;
    }

pub returns : goal.returns
returns g c =
    let calls = g.P.Ports.calls in
    record {
      goes = λ writable happenings config w stands.
          let s = feed_seat c.args.port c.reads.cutter c.reads.readable writable in
          runs-out-at (FeedReads config) c.args.limit c.reads.left (omega (arith, c.reads-test.false)) config w
          (calls c.args.ports.now) (calls c.reads.ports) c.reads.server (feed_tally happenings c.args.refused.now)
          (feed_tally happenings c.reads.refused)
          (feed_seat c.args.port c.args.cutter.now c.args.readable.now writable) s (Some s) (λ v. enough)
          (c.reads.invariant.goes writable happenings config w stands);
      quiet = c.reads.invariant.quiet;
    }
