use Rattle.std.proofs.Common.{rules, sym, ℕ, ◌≤◌, length, length-take, take, ap, ◌∙◌, subst, [], ◌∷◌, Ok, arith}
use Rattle.ports.specs.Calls.{Tells, given}
use Rattle.ports.specs.Calls.Call.{Read}
use Rattle.event_loop.specs.declared.passes.Onward.TheVariants.{On}
use Rattle.event_loop.specs.Feeding.{FeedReads, feed_seat, feed_tally}
use Rattle.event_loop.specs.Going.{Once}
use Rattle.event_loop.proofs.FeedStepLemmas.{feed-refused, feed-piece, feed-later, feed-closed, feed-failed}
use Rattle.event_loop.proofs.LeaveLemmas.{quiet_none}
use Rattle.event_loop.proofs.feeding.read_feed_once.Goals as goal

pub returns-then-not-readable : goal.returns-then-not-readable
returns-then-not-readable g c = record {
  goes = λ writable happenings config w stands.
      feed-refused config w happenings c.args.refused.now c.args.port c.args.cutter.now c.args.readable.now writable
      (g.P.Ports.calls c.args.ports.now) c.args.server.now stands c.if-not-readable.true;
  quiet = quiet_none c.args.server.now;
}

pub returns-in-Ok-Bytes : goal.returns-in-Ok-Bytes
returns-in-Ok-Bytes g c = record {
  goes = λ writable happenings config w stands.
      let a = g.P.Ports.calls c.args.ports.now in
      let b = g.P.Ports.calls c.read.new.self in
      let short : length c.read.new.buffer ≤ 512 = search rules in
      subst (λ x. Once (FeedReads config) config w a x c.take_records.new.server
      (feed_tally happenings c.args.refused.now) (feed_tally happenings c.take_records.new.refused)
      (feed_seat c.args.port c.args.cutter.now c.args.readable.now writable)
      (feed_seat c.args.port c.take_records.new.cutter c.args.readable.now writable) On)
      (sym c.take_records.ensures.calls)
      (feed-piece config w happenings c.args.refused.now c.args.port c.args.cutter.now c.args.readable.now writable
      c.if-not-readable.false (length c.read.new.buffer) short a b
      (take c.in-Ok-Bytes.count c.read.new.buffer) c.take_records.new.server c.take_records.new.refused
      c.take_records.new.cutter
      (subst (λ r. Tells a b (Read c.args.port (length c.read.new.buffer) (given r c.read.new.buffer) ∷ []))
      (c.in-Ok-Bytes.is ∙ ap Ok c.in-Ok-Bytes.field-0-is) c.read.ensures.call)
      (c.take_records.ensures.arrives config w stands) c.take_records.ensures.rest c.take_records.ensures.held
      (omega (arith, length-take {A = ℕ})));
  quiet = c.take_records.ensures.quiet;
}

pub returns-in-Ok-Later : goal.returns-in-Ok-Later
returns-in-Ok-Later g c = record {
  goes = λ writable happenings config w stands.
      let a = g.P.Ports.calls c.args.ports.now in
      let b = g.P.Ports.calls c.read.new.self in
      let short : length c.read.new.buffer ≤ 512 = search rules in
      feed-later config w happenings c.args.refused.now c.args.port c.args.cutter.now c.args.readable.now writable
      c.if-not-readable.false (length c.read.new.buffer) short a b c.args.server.now stands
      (subst (λ r. Tells a b (Read c.args.port (length c.read.new.buffer) (given r c.read.new.buffer) ∷ []))
      (c.in-Ok-Later.is ∙ ap Ok c.in-Ok-Later.field-0-is) c.read.ensures.call);
  quiet = quiet_none c.args.server.now;
}

pub returns-in-Ok-Closed : goal.returns-in-Ok-Closed
returns-in-Ok-Closed g c = record {
  goes = λ writable happenings config w stands.
      let a = g.P.Ports.calls c.args.ports.now in
      let b = g.P.Ports.calls c.read.new.self in
      let short : length c.read.new.buffer ≤ 512 = search rules in
      feed-closed config w happenings c.args.refused.now c.args.port c.args.cutter.now c.args.readable.now writable
      c.if-not-readable.false (length c.read.new.buffer) short a b
      (g.P.Ports.calls c.end.new.ports) c.args.server.now stands
      (subst (λ r. Tells a b (Read c.args.port (length c.read.new.buffer) (given r c.read.new.buffer) ∷ []))
      (c.in-Ok-Closed.is ∙ ap Ok c.in-Ok-Closed.field-0-is) c.read.ensures.call)
      c.end.ensures.call;
  quiet = quiet_none c.args.server.now;
}

pub returns-in-Err : goal.returns-in-Err
returns-in-Err g c = record {
  goes = λ writable happenings config w stands.
      let a = g.P.Ports.calls c.args.ports.now in
      let b = g.P.Ports.calls c.read.new.self in
      let short : length c.read.new.buffer ≤ 512 = search rules in
      feed-failed config w happenings c.args.refused.now c.args.port c.args.cutter.now c.args.readable.now writable
      c.if-not-readable.false (length c.read.new.buffer) short a b
      (g.P.Ports.calls c.end-in-Err.new.ports) c.args.server.now stands
      (subst (λ r. Tells a b (Read c.args.port (length c.read.new.buffer) (given r c.read.new.buffer) ∷ [])) c.in-Err.is
      c.read.ensures.call)
      c.end-in-Err.ensures.call;
  quiet = quiet_none c.args.server.now;
}
