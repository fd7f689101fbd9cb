-- A round more: what it leaves follows from what was listed before it.
use Rattle.std.proofs.Common.{◌∙◌, ap, ap₂, refl, inl, Err}
use Rattle.std.proofs.KnownBytes.{Keeps-refl}
use Rattle.std.proofs.lemmas.Result.{err_from_is_err_and}
use Rattle.sl_io.proofs.TotalLemmas.{Made-more}
use Rattle.reader_run.specs.Lines.{OutputValue}
use Rattle.reader_run.specs.Rounds.{moment}
use Rattle.reader_run.specs.Stops.{writes}
use Rattle.reader_run.proofs.ReadLaws.{led-no-limit, listed-none, stops}
use Rattle.reader_run.proofs.KeepLaws.{keeps-listed, keeps-none}
use Rattle.reader_run.proofs.OrderLaws.{listed-first}
use Rattle.reader_run.proofs.RoundLaws.{round-keeping, round-on, round-over, round-stopped}
use Rattle.reader_run.proofs.reading.read_blocks.Goals as goal

pub reads-init : goal.reads-init
reads-init g c = record {
  listed = listed-none _ _ _ _ _ _ c.requires.sent c.requires.output.0 c.requires.output.1;
  failures = refl;
  made = inl (refl, refl);
  write_failures = refl;
  write_empty = refl;
  line_failures = refl;
  line_empty = refl;
  record_failures = refl;
  behind = keeps-none _ _;
  keeper_failures = refl;
  record_empty = refl;
}

pub read_once-requires-clause-plan : goal.read_once-requires-clause-plan
read_once-requires-clause-plan g c =
    led-no-limit _ _ _ _ _ _ _ _ _ _ _ _ c.reads.invariant.listed c.requires.plan

pub read_once-requires-clause-output : goal.read_once-requires-clause-output
read_once-requires-clause-output g c = ap (λ (x : OutputValue). x.records) c.reads.invariant.listed.output

pub returns-then-branch-clause-ends : goal.returns-then-branch-clause-ends
returns-then-branch-clause-ends g c =
    let m = moment c.args.core.now c.args.output.now (g.R.Source.left c.args.reader.now)
    (g.W.Sink.written c.args.writer.now) (g.O.Sink.written c.args.out.now) (g.P.RecordSink.written c.args.records.now) in
    (round-over _ _ _ c.if-branch.true c.in_ok-read_once.ensures.round) m c.reads.invariant.listed

pub returns-then-branch-clause-order : goal.returns-then-branch-clause-order
returns-then-branch-clause-order g c =
    let m = moment c.args.core.now c.args.output.now (g.R.Source.left c.args.reader.now)
    (g.W.Sink.written c.args.writer.now) (g.O.Sink.written c.args.out.now) (g.P.RecordSink.written c.args.records.now) in
    c.read_once.ensures.order m c.reads.invariant.listed

pub returns-in_err-read_once-clause-told : goal.returns-in_err-read_once-clause-told
returns-in_err-read_once-clause-told g c =
    let p = err_from_is_err_and c.from_residual.result c.from_residual.ensures.1 in
    rw (p.1 ∙ ap Err p.2) (λ told.
    let m = moment c.args.core.now c.args.output.now (g.R.Source.left c.args.reader.now)
    (g.W.Sink.written c.args.writer.now) (g.O.Sink.written c.args.out.now) (g.P.RecordSink.written c.args.records.now) in
    c.in_err-read_once.ensures.round told m c.reads.invariant.listed)

pub returns-in_err-read_once-clause-order : goal.returns-in_err-read_once-clause-order
returns-in_err-read_once-clause-order g c =
    let m = moment c.args.core.now c.args.output.now (g.R.Source.left c.args.reader.now)
    (g.W.Sink.written c.args.writer.now) (g.O.Sink.written c.args.out.now) (g.P.RecordSink.written c.args.records.now) in
    c.read_once.ensures.order m c.reads.invariant.listed

pub returns-in_err-read_once-clause-keeper : goal.returns-in_err-read_once-clause-keeper
returns-in_err-read_once-clause-keeper g c =
    let p = err_from_is_err_and c.from_residual.result c.from_residual.ensures.1 in
    rw (p.1 ∙ ap Err p.2) (round-keeping (Unit {0}) c.in_err-read_once.field-0.0 _ _ c.in_err-read_once.ensures.state
    c.reads.invariant.keeper_failures)

pub returns-in_err-read_once-clause-stopped : goal.returns-in_err-read_once-clause-stopped
returns-in_err-read_once-clause-stopped g c =
    let p = err_from_is_err_and c.from_residual.result c.from_residual.ensures.1 in
    rw (p.1 ∙ ap Err p.2) (let i = c.reads.invariant in
    round-stopped c.in_err-read_once.field-0.0 _ _ _ _ _ _ _ _ _ _ _ _ _ _ _ i.failures
    (ap₂ writes i.write_failures i.write_empty)
    (ap₂ writes i.line_failures i.line_empty) (ap₂ writes i.record_failures i.record_empty)
    c.in_err-read_once.ensures.stopped)

pub reads-preserved : goal.reads-preserved
reads-preserved g c =
    let m = moment c.args.core.now c.args.output.now (g.R.Source.left c.args.reader.now)
    (g.W.Sink.written c.args.writer.now) (g.O.Sink.written c.args.out.now) (g.P.RecordSink.written c.args.records.now) in
    let i = c.reads.invariant in
    let on = round-on _ _ _ c.if-branch.false c.in_ok-read_once.ensures.round m i.listed in
    record {
      listed = on;
      failures = c.in_ok-read_once.ensures.read ∙ i.failures;
      made = Made-more _ _ _ _ i.made c.in_ok-read_once.ensures.call;
      write_failures = c.in_ok-read_once.ensures.sent.0 ∙ i.write_failures;
      write_empty = c.in_ok-read_once.ensures.sent.1 ∙ i.write_empty;
      line_failures = c.in_ok-read_once.ensures.quiet.0.0 ∙ i.line_failures;
      line_empty = c.in_ok-read_once.ensures.quiet.0.1 ∙ i.line_empty;
      record_failures = c.in_ok-read_once.ensures.quiet.1.0 ∙ i.record_failures;
      record_empty = c.in_ok-read_once.ensures.quiet.1.1 ∙ i.record_empty;
      behind = keeps-listed _ _ _ _ _ _ _ _ _ _ _ _ _ _ _ on i.behind c.in-Ok.ensures.steps;
      keeper_failures = c.in-Ok.ensures.failure ∙ i.keeper_failures;
    }

pub returns-in-Err-clause-order : goal.returns-in-Err-clause-order
returns-in-Err-clause-order g c =
    let m = moment c.args.core.now c.args.output.now (g.R.Source.left c.args.reader.now)
    (g.W.Sink.written c.args.writer.now) (g.O.Sink.written c.args.out.now) (g.P.RecordSink.written c.args.records.now) in
    c.read_once.ensures.order m c.reads.invariant.listed

pub returns-in-Err-clause-behind : goal.returns-in-Err-clause-behind
returns-in-Err-clause-behind g c =
    let m = moment c.args.core.now c.args.output.now (g.R.Source.left c.args.reader.now)
    (g.W.Sink.written c.args.writer.now) (g.O.Sink.written c.args.out.now) (g.P.RecordSink.written c.args.records.now) in
    let on = round-on _ _ _ c.if-branch.false c.in_ok-read_once.ensures.round m c.reads.invariant.listed in
    keeps-listed _ _ _ _ _ _ _ _ _ _ _ _ _ _ _ on c.reads.invariant.behind c.in-Err.ensures.steps

pub returns-clause-told : goal.returns-clause-told
returns-clause-told g c = λ _. stops _ _ _ _ _ _ _ _ _ _ _ _ _ _ c.reads.invariant.listed (Keeps-refl _) tt

pub returns-clause-order : goal.returns-clause-order
returns-clause-order g c = listed-first _ _ _ _ _ _ _ _ _ _ _ _ _ c.reads.invariant.listed (Keeps-refl _)
