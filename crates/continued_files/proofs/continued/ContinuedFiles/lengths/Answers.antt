use Rattle.std.proofs.Common.{◌≡◌, ◌∙◌, arith, get_or, ℕ, List, subst, sym, true}
use Rattle.std.specs.Prelude.{is_some}
use Rattle.std.specs.Str.{IsUtf8}
use Rattle.continued_files.specs.Known.{known_at}
use Rattle.continued_files.specs.Lengths.{LengthValue}
use Rattle.continued_files.proofs.KnownLemmas.{named-passed, named-pushed, value-is}
use Rattle.continued_files.proofs.continued.ContinuedFiles.lengths.Goals as goal

pub loop-length-preserved-then-is_known : goal.loop-length-preserved-then-is_known
loop-length-preserved-then-is_known g c =
    named-passed (λ n. known_at c.args.self.now.all n) c.args.self.now.named.items c.loop-length.lengths.items
    c.loop-length.length-index c.length-item.result
    (omega (arith, c.loop-length-test.true, c.deref-length-items.ensures.len))
    (subst (λ (l : List LengthValue). c.length-item.result ≡ get_or l c.loop-length.length-index c.length-item.result)
    c.deref-length-items.ensures.value c.length-item.is)
    (λ text.
    let h = c.is_known.ensures (subst IsUtf8 (sym c.name.ensures) text) in
    subst (λ n. is_some (known_at c.args.self.now.all n) ≡ true) c.name.ensures (sym h ∙ c.if-is_known.true))
    c.loop-length.invariant

pub loop-length-preserved : goal.loop-length-preserved
loop-length-preserved g c =
    named-pushed (λ n. known_at c.args.self.now.all n) c.args.self.now.named.items c.loop-length.lengths.items
    c.push.new.self.items c.loop-length.length-index c.length-item.result c.in_ok-new.field-0
    (omega (arith, c.loop-length-test.true, c.deref-length-items.ensures.len))
    (subst (λ (l : List LengthValue). c.length-item.result ≡ get_or l c.loop-length.length-index c.length-item.result)
    c.deref-length-items.ensures.value c.length-item.is)
    (value-is c.in_ok-new.field-0 c.name-in-loop-length.result.now _ c.count.result _ c.in_ok-new.ensures
    c.name-in-loop-length.ensures c.count.ensures)
    c.in_ok-push.ensures.items c.loop-length.invariant
