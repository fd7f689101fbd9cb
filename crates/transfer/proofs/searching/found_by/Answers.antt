use Rattle.std.proofs.Common.{refl, sym}
use Rattle.transfer.proofs.searching.found_by.Goals as goal

pub returns-in-AfterEnd-clause-found : goal.returns-in-AfterEnd-clause-found
returns-in-AfterEnd-clause-found c = λ streams x y at is there tells.
    sym ((c.in-AfterEnd.ensures streams x y is tells).after refl c.args.next)

pub returns-in-Unwanted-clause-found : goal.returns-in-Unwanted-clause-found
returns-in-Unwanted-clause-found c = λ streams x y at is there tells.
    sym ((c.in-Unwanted.ensures streams x y is tells).unwanted refl c.args.next)
