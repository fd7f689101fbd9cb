use Rattle.std.proofs.Common.{◌≡◌, ◌++◌, take, flat_map}
use Rattle.status_page.specs.Templates.{counted_row}
use Rattle.status_page.proofs.template.put_counted.Given as goal

abbrev pub invariant-loop-one : goal.invariant-loop-one
invariant-loop-one l = l.text.items ≡ l.fn.text.items
    ++ flat_map (counted_row l.language l.pieces) (take l.one-index l.counts)
