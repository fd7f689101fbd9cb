use Rattle.std.proofs.Common.{◌≡◌, ◌∙◌, ap, sym, slice_set}
use Rattle.std.proofs.lemmas.List.Edits.{map_over_more}
use Rattle.job_read.specs.Returns.{NumberedValue, marked_if}
use Rattle.job_read.proofs.returns.mark_all.Goals as goal

pub loop-one-preserved : goal.loop-one-preserved
loop-one-preserved c =
    let mark = marked_if c.args.is_jump c.args.is_archive in
    let first = c.deref_mut-one-items.result.now in
    let now = c.loop-one.one-items in
    let i = c.loop-one.one-index in
    let x = c.one-item.result in
    let made : c.mark_if.new.self ≡ mark x =
    c.mark_if.ensures ∙ ap (λ (n : NumberedValue). mark n) (sym c.one-item.is) in
    ap (λ (n : NumberedValue). slice_set now i n) made
    ∙ map_over_more mark first now i x c.loop-one-test.true c.loop-one.invariant c.one-item.is
