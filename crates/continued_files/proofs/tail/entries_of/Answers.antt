use Rattle.std.proofs.Common.{◌∙◌, refl}
use Rattle.continued_files.proofs.TailLemmas.{entries-more}
use Rattle.continued_files.proofs.tail.entries_of.Goals as goal

pub loop-place-preserved : goal.loop-place-preserved
loop-place-preserved g c = record {
  same = λ name. c.read.ensures.same name ∙ c.loop-place.invariant.same name;
  safe = λ name. c.read.ensures.safe name ∙ c.loop-place.invariant.safe name;
  entries = λ rs told.
      let read = c.in_ok-read.ensures.bytes rs (c.loop-place.invariant.same c.args.name.now ∙ told) in
      let more = c.in-Ok.ensures.items in
      entries-more rs c.loop-place.entries.items c.push.new.self.items _ c.read.new.bytes c.args.from
      c.loop-place.place more c.hash_of-hash.ensures refl read.1 (c.loop-place.invariant.entries rs told);
}
