use Rattle.std.proofs.Common.{◌∙◌, ap, sym}
use Rattle.transfer.specs.Firsts.{is_unsent}
use Rattle.transfer.proofs.EntryLemmas.{fresh-entry}
use Rattle.transfer.proofs.overview.is_fresh.Goals as goal

pub returns-in-Some : goal.returns-in-Some
returns-in-Some c = λ unsent x same passed.
    fresh-entry c.args.rings.now c.args.next x c.in-Some.ring.now c.args.entry.now same (sym c.in-Some.ensures.ring)
    (c.if-entry-pushes.true ∙ c.pushes.ensures)
    (ap (is_unsent c.args.next) (sym c.ahead.ensures) ∙ sym c.is_unsent.ensures ∙ unsent) passed
