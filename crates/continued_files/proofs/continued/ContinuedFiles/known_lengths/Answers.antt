use Rattle.std.proofs.Common.{rules}
use Rattle.std.proofs.lemmas.Map.Iter.{rest_more}
use Rattle.std.specs.Map.Iter.{deref_pair}
use Rattle.continued_files.proofs.KnownLemmas.{told-more, value-is}
use Rattle.continued_files.proofs.continued.ContinuedFiles.known_lengths.Goals as goal

pub loop-name-preserved : goal.loop-name-preserved
loop-name-preserved g c = λ name.
    told-more c.loop-name.lengths.items c.push.new.self.items c.in_ok-new.field-0 c.in-Some.name.now
    c.in-Some.known.now c.loop-name.name-iterator c.next.new.self name _ c.in_ok-push.ensures.items
    (value-is c.in_ok-new.field-0 c.as_bytes.result.now _ c.kept_length-count.result _ c.in_ok-new.ensures
    c.as_bytes.ensures.value c.kept_length-count.ensures)
    (rest_more deref_pair c.loop-name.name-iterator c.next.new.self c.next.result (c.in-Some.name, c.in-Some.known)
    c.in-Some.is c.next.ensures.steps) (c.loop-name.invariant name)
