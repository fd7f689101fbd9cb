-- The spelling of one byte more is put.
use Rattle.event_script.proofs.SpellingLemmas.{spelled_more}
use Rattle.event_script.proofs.spelling.put_spelled.Goals as goal

pub loop-byte-preserved : goal.loop-byte-preserved
loop-byte-preserved c =
    spelled_more c.args.bytes.now c.loop-byte.byte-index _ _ _ _ c.loop-byte-test.true c.loop-byte.invariant
    c.in_ok-put_byte.ensures
