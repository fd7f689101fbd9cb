-- The reader begins with the plan, and what it reads is told.
use Rattle.std.proofs.Common.{ap, Ok, Err, refl, ◌∙◌}
use Rattle.std.specs.Prelude.{IfErr, OnOk, Result}
use Rattle.std.proofs.lemmas.Result.{err_from_is_err_and}
use Rattle.reader_run.specs.Lines.{OutputValue}
use Rattle.reader_run.proofs.FurtherLaws.{limited, never, stops-quietly, untold}
use Rattle.reader_run.proofs.OrderLaws.{first-as, nothing-written}
use Rattle.reader_run.proofs.ReadLaws.{ends-as, stops-as}
use Rattle.reader_run.proofs.reading.read_over.Goals as goal

on-err : {T E : Type 0} → (P Q : E → Type 0) → (r : Result T E) → IfErr r P → ((e : E) → P e → Q e) → IfErr r Q
on-err P Q (Ok x) h f = tt
on-err P Q (Err e) h f = f e h

on-ok : {T E P : Type 0} → (r : Result T E) → P → OnOk r P
on-ok (Ok x) h = h
on-ok (Err e) h = tt

map-ok : {T E : Type 0} → (P Q : Type 0) → (r : Result T E) → OnOk r P → (P → Q) → OnOk r Q
map-ok P Q (Ok x) h f = f h
map-ok P Q (Err e) h f = tt

pub returns-in_err-begun-clause-told : goal.returns-in_err-begun-clause-told
returns-in_err-begun-clause-told g c =
    let p = err_from_is_err_and c.from_residual.result c.from_residual.ensures.1 in
    rw (p.1 ∙ ap Err p.2) (λ told. never _ (untold c.in_err-begun.field-0.0 _ c.in_err-begun.ensures.fault) told)

pub returns-in_err-begun-clause-limit : goal.returns-in_err-begun-clause-limit
returns-in_err-begun-clause-limit g c =
    let p = err_from_is_err_and c.from_residual.result c.from_residual.ensures.1 in
    rw (p.1 ∙ ap Err p.2) (limited c.in_err-begun.field-0.0 _ c.in_err-begun.ensures.fault)

pub returns-in_err-begun-clause-untouched : goal.returns-in_err-begun-clause-untouched
returns-in_err-begun-clause-untouched g c =
    let p = err_from_is_err_and c.from_residual.result c.from_residual.ensures.1 in
    rw (p.1 ∙ ap Err p.2) (λ is. (refl, refl, refl, refl))

pub returns-in_err-begun-clause-order : goal.returns-in_err-begun-clause-order
returns-in_err-begun-clause-order g c =
    nothing-written _ _ _ _ _

pub returns-in_err-begun-clause-stopped : goal.returns-in_err-begun-clause-stopped
returns-in_err-begun-clause-stopped g c =
    let p = err_from_is_err_and c.from_residual.result c.from_residual.ensures.1 in
    rw (p.1 ∙ ap Err p.2) (stops-quietly c.in_err-begun.field-0.0 _ _ _ _ _ c.in_err-begun.ensures.fault refl
    ((refl, refl), ((refl, refl), (refl, refl))))

pub returns-clause-ends : goal.returns-clause-ends
returns-clause-ends g c =
    map-ok _ _ c.read_blocks.result c.read_blocks.ensures.ends (λ h.
    (ends-as _ _ _ _ _ _ _ _ _ _ _ _ _ c.in_ok-begun.ensures.core
    (ap (λ (o : OutputValue). o.style) c.in_ok-begun.ensures.output) h).ends)

pub returns-clause-told : goal.returns-clause-told
returns-clause-told g c =
    on-err _ _ c.read_blocks.result c.read_blocks.ensures.told (λ fault h told.
    (stops-as fault _ _ _ _ _ _ _ _ _ _ _ _ _ c.in_ok-begun.ensures.core
    (ap (λ (o : OutputValue). o.style) c.in_ok-begun.ensures.output) (h told)).stops)

pub returns-clause-limit : goal.returns-clause-limit
returns-clause-limit g c =
    on-err _ _ c.read_blocks.result c.read_blocks.ensures.plan (λ fault h is. absurd (h is))

pub returns-clause-untouched : goal.returns-clause-untouched
returns-clause-untouched g c =
    on-err _ _ c.read_blocks.result c.read_blocks.ensures.plan (λ fault h is. absurd (h is))

pub returns-clause-plan : goal.returns-clause-plan
returns-clause-plan g c = on-ok c.read_blocks.result c.in_ok-begun.ensures.plan

pub returns-clause-order : goal.returns-clause-order
returns-clause-order g c =
    first-as _ _ _ _ _ _ _ _ _ _ c.in_ok-begun.ensures.core
    (ap (λ (o : OutputValue). o.style) c.in_ok-begun.ensures.output)
    c.read_blocks.ensures.order
