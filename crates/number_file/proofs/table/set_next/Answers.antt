use Rattle.std.proofs.Common.{rules, ◌∙◌, ◌<◌, ap, length, sym, arith}
use Rattle.catalog.specs.Numbers.{Numbered}
use Rattle.number_file.proofs.TableLemmas.{with_next-past, with_next-set}
use Rattle.number_file.proofs.table.set_next.Goals as goal

pub returns-then-place-len : goal.returns-then-place-len
returns-then-place-len c =
    let items = c.args.numbers.now.items in
    let was = c.index_mut.result.now in
    let inside : c.args.place < length items = search rules in
    with_next-set items c.args.place c.args.next was c.set_next.new.self inside
    (c.set_next.ensures ∙ ap (λ (n : Numbered). record n { next = c.args.next }) c.index_mut.ensures.value)

pub returns-else-place-len : goal.returns-else-place-len
returns-else-place-len c =
    sym (with_next-past c.args.numbers.now.items c.args.place c.args.next
    (omega (arith, c.if-place-len.false, c.len.ensures)))
