use Rattle.std.proofs.Common.{◌-◌, ◌<◌, ◌≡◌, ◌∙◌, ap, arith, drop, length, suc, sym}
use Rattle.std.proofs.lemmas.Slice.Eq.{bytes_eq-Decides}
use Rattle.continued_files.specs.Known.{length_of}
use Rattle.continued_files.specs.Lengths.{LengthValue}
use Rattle.continued_files.proofs.KnownLemmas.{dropped-none, dropped-others}
use Rattle.continued_files.proofs.known.drop_named.Goals as goal

pub loop-at-preserved-then-eq : goal.loop-at-preserved-then-eq
loop-at-preserved-then-eq c =
    let low : c.loop-at.at - 1 < length c.loop-at.named.items =
    omega (arith, c.loop-at-test.true, c.loop-at.invariant.within) in
    let next : suc (c.loop-at.at - 1) ≡ c.loop-at.at = omega (arith, c.loop-at-test.true) in
    let same = (bytes_eq-Decides c.name.result.now c.as_bytes.result.now).0 (sym c.eq.ensures ∙ c.if-eq.true) in
    let here = sym (c.name.ensures) ∙ same ∙ c.as_bytes.ensures.value in
    record {
      within = omega (arith, c.remove.ensures.len, low);
      others = λ other differs.
          dropped-others c.loop-at.named.items c.remove.new.self.items (c.loop-at.at - 1) c.index.result.now
          c.args.name.now c.remove.ensures.items low c.index.ensures here other differs
          ∙ c.loop-at.invariant.others other differs;
      none = dropped-none c.loop-at.named.items c.remove.new.self.items (c.loop-at.at - 1) c.args.name.now
          c.remove.ensures.items low (ap (λ n. length_of (drop n c.loop-at.named.items) c.args.name.now) next
          ∙ c.loop-at.invariant.none);
    }
