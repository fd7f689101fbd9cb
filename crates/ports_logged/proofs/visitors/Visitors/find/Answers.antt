use Rattle.std.proofs.Common.{◌≡◌, ◌∙◌, Some, ap, get_or, sym}
use Rattle.std.proofs.lemmas.List.{get_or_default}
use Rattle.ports_logged.specs.declared.visitor.Visitor.{Visitor}
use Rattle.ports_logged.specs.Visitors.{IsGapFor, IsVisitorAt, nobody}
use Rattle.ports_logged.proofs.VisitorLemmas.{find-absent, find-found}
use Rattle.ports_logged.proofs.visitors.Visitors.find.Goals as goal

pub returns-in-Ok : goal.returns-in-Ok
returns-in-Ok c =
    let vs = c.self.inside.present.items in
    let found : IsVisitorAt vs c.args.port c.in-Ok.at = rw c.as_slice.ensures.value at c.in-Ok.ensures.found in
    let is : c.index.result.now ≡ get_or vs c.in-Ok.at nobody =
    c.index.ensures ∙ get_or_default vs c.in-Ok.at c.index.result.now nobody found.inside in
    rw (← c.self.view_is)
    (ap (λ (v : Visitor). Some v) is ∙ sym (find-found c.args.port vs c.in-Ok.at c.self.invariant.0 found))

pub returns-in-Err : goal.returns-in-Err
returns-in-Err c =
    let vs = c.self.inside.present.items in
    let gap : IsGapFor vs c.args.port c.in-Err.field-0 = rw c.as_slice.ensures.value at c.in-Err.ensures.absent in
    rw (← c.self.view_is) (sym (find-absent c.args.port vs c.in-Err.field-0 gap))
