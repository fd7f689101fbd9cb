use Rattle.std.proofs.Common.{◌≡◌, ◌++◌, take, flat_map}
use Rattle.status_page.specs.Templates.{count_row}
use Rattle.status_page.proofs.template.put_counts.Given as goal

abbrev pub invariant-loop-one : goal.invariant-loop-one
invariant-loop-one l = l.text.items ≡ l.fn.text.items
    ++ flat_map (count_row l.language l.pieces) (take l.one-index l.counts)
