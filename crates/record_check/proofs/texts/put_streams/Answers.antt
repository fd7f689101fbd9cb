-- The line of one stream more is put.
use Rattle.record_check.proofs.StreamLemmas.{put_next}
use Rattle.record_check.proofs.texts.put_streams.Goals as goal

pub loop-stream-preserved : goal.loop-stream-preserved
loop-stream-preserved c =
    put_next c.args.times c.args.streams.now c.loop-stream.stream-index c.stream-item.result _ _ _
    c.loop-stream-test.true c.stream-item.is c.loop-stream.invariant c.in_ok-put_stream.ensures
