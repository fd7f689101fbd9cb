-- All that was counted was written, all that was kept was counted, and each connection so far broke off.
use Rattle.reader_run.specs.Following.{Follows}
use Rattle.reader_run.specs.Keeping.{KeepsBehind}
use Rattle.reader_run.specs.Visits.{asking, progress}
use Rattle.reader_run.proofs.FollowLaws.{Visited}
use Rattle.reader_run.proofs.following.follow.Given as goal

abbrev pub invariant-connections : goal.invariant-connections
invariant-connections g l = record {
  follows : Follows l.wants l.fn.tally (g.P.RecordSink.written l.fn.records) l.tally (g.P.RecordSink.written l.records);
  behind : KeepsBehind (λ t w. Follows l.wants l.fn.tally (g.P.RecordSink.written l.fn.records) t w)
      (g.K.Keeper.done l.fn.keeper) (g.K.Keeper.done l.keeper);
  visited : Visited (asking l.wants l.lines)
      (progress l.fn.tally (g.O.Sink.written l.fn.out) (g.O.Sink.failures l.fn.out) (g.O.Sink.empty_writes l.fn.out)
      (g.P.RecordSink.written l.fn.records) (g.P.RecordSink.failures l.fn.records) (g.P.RecordSink.empty_writes l.fn.records)
      (g.K.Keeper.failures l.fn.keeper))
      (progress l.tally (g.O.Sink.written l.out) (g.O.Sink.failures l.out) (g.O.Sink.empty_writes l.out)
      (g.P.RecordSink.written l.records) (g.P.RecordSink.failures l.records) (g.P.RecordSink.empty_writes l.records)
      (g.K.Keeper.failures l.keeper))
      (g.S.Servers.told l.fn.servers) (g.S.Servers.told l.servers) l.counter;
}
