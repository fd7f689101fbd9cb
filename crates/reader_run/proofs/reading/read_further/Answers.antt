-- The reader begins with the plan by which wants go on, and what it reads is told and counted.
use Rattle.std.proofs.Common.{ap, false, Ok, Err, refl, ◌∙◌}
use Rattle.std.specs.Prelude.{IfErr, OnOk, Result}
use Rattle.std.proofs.lemmas.Result.{err_from_is_err_and}
use Rattle.reader_run.specs.Lines.{OutputValue}
use Rattle.reader_run.proofs.CountLaws.{counts-ended, counts-stopped}
use Rattle.reader_run.proofs.FurtherLaws.{ended-ok, kept-err, limited, never, stopped-err, stops-quietly, untold}
use Rattle.reader_run.proofs.KeepLaws.{keeps-at, keeps-none, last-err, last-ok, not-kept, same-err, same-ok}
use Rattle.reader_run.proofs.OrderLaws.{first-as, nothing-written}
use Rattle.reader_run.proofs.reading.read_further.Goals as goal

on-err : {T E : Type 0} → (P Q : E → Type 0) → (r : Result T E) → IfErr r P → ((e : E) → P e → Q e) → IfErr r Q
on-err P Q (Ok x) h f = tt
on-err P Q (Err e) h f = f e h

on-ok : {T E : Type 0} → (P Q : Type 0) → (r : Result T E) → OnOk r P → (P → Q) → OnOk r Q
on-ok P Q (Ok x) h f = f h
on-ok P Q (Err e) h f = tt

pub returns-in_err-begun-clause-told : goal.returns-in_err-begun-clause-told
returns-in_err-begun-clause-told g c =
    let p = err_from_is_err_and c.from_residual.result c.from_residual.ensures.1 in
    rw (p.1 ∙ ap Err p.2) (λ told. never _ (untold c.in_err-begun.field-0.0 _ c.in_err-begun.ensures.fault) told)

pub returns-in_err-begun-clause-kept : goal.returns-in_err-begun-clause-kept
returns-in_err-begun-clause-kept g c =
    let p = err_from_is_err_and c.from_residual.result c.from_residual.ensures.1 in
    rw (p.1 ∙ ap Err p.2) (λ _. refl)

pub returns-in_err-begun-clause-plan : goal.returns-in_err-begun-clause-plan
returns-in_err-begun-clause-plan g c =
    let p = err_from_is_err_and c.from_residual.result c.from_residual.ensures.1 in
    rw (p.1 ∙ ap Err p.2) (limited c.in_err-begun.field-0.0 _ c.in_err-begun.ensures.fault)

pub returns-in_err-begun-clause-order : goal.returns-in_err-begun-clause-order
returns-in_err-begun-clause-order g c =
    nothing-written _ _ _ _ _

pub returns-in_err-begun-clause-stopped : goal.returns-in_err-begun-clause-stopped
returns-in_err-begun-clause-stopped g c =
    let p = err_from_is_err_and c.from_residual.result c.from_residual.ensures.1 in
    rw (p.1 ∙ ap Err p.2) (stops-quietly c.in_err-begun.field-0.0 _ _ _ _ _ c.in_err-begun.ensures.fault refl
    ((refl, refl), ((refl, refl), (refl, refl))))

pub returns-in_err-begun-clause-behind : goal.returns-in_err-begun-clause-behind
returns-in_err-begun-clause-behind g c =
    keeps-none _ _

pub returns-in_err-begun-clause-last_at : goal.returns-in_err-begun-clause-last_at
returns-in_err-begun-clause-last_at g c =
    let p = err_from_is_err_and c.from_residual.result c.from_residual.ensures.1 in
    rw (p.1 ∙ ap Err p.2) (λ told. never _ (untold c.in_err-begun.field-0.0 _ c.in_err-begun.ensures.fault) told)

pub returns-in_err-begun-clause-keeper : goal.returns-in_err-begun-clause-keeper
returns-in_err-begun-clause-keeper g c =
    let p = err_from_is_err_and c.from_residual.result c.from_residual.ensures.1 in
    rw (p.1 ∙ ap Err p.2) (not-kept (Unit {0}) c.in_err-begun.field-0.0 _ _ c.in_err-begun.ensures.fault)

pub returns-clause-ends : goal.returns-clause-ends
returns-clause-ends g c =
    ended-ok _ _ _ _ _ _ _ _ _ _ _ _ c.keep_at-outcome.result _ _ _ _ c.in_ok-begun.ensures.core
    (ap (λ (o : OutputValue). o.style) c.in_ok-begun.ensures.output) c.is_told.ensures.ok c.count.ensures
    (same-ok _ c.read_blocks-read.result c.keep_at-outcome.result c.keep_at-outcome.ensures.outcome
    c.read_blocks-read.ensures.ends)

pub returns-clause-told : goal.returns-clause-told
returns-clause-told g c =
    stopped-err _ _ _ _ _ _ _ _ _ _ _ _ c.keep_at-outcome.result _ _ _ _ c.in_ok-begun.ensures.core
    (ap (λ (o : OutputValue). o.style) c.in_ok-begun.ensures.output) c.is_told.ensures.fault c.count.ensures
    (same-err _ c.read_blocks-read.result c.keep_at-outcome.result c.keep_at-outcome.ensures.outcome
    (λ told. never false refl told) c.read_blocks-read.ensures.told)

pub returns-clause-kept : goal.returns-clause-kept
returns-clause-kept g c = kept-err c.keep_at-outcome.result _ _ _ _ c.is_told.ensures.fault c.count.ensures

pub returns-clause-plan : goal.returns-clause-plan
returns-clause-plan g c =
    same-err _ c.read_blocks-read.result c.keep_at-outcome.result c.keep_at-outcome.ensures.outcome (λ is. absurd cc)
    (on-err _ _ c.read_blocks-read.result c.read_blocks-read.ensures.plan (λ fault h is. absurd (h is)))

pub returns-clause-stopped : goal.returns-clause-stopped
returns-clause-stopped g c =
    same-err _ c.read_blocks-read.result c.keep_at-outcome.result c.keep_at-outcome.ensures.outcome tt
    c.read_blocks-read.ensures.stopped

pub returns-clause-behind : goal.returns-clause-behind
returns-clause-behind g c =
    keeps-at _ _ c.read_blocks-read.result _ _ _ _ _ _ c.in_ok-begun.ensures.core
    (on-ok _ _ c.read_blocks-read.result c.read_blocks-read.ensures.ends (counts-ended _ _ _ _ _ _ _ _ _ _ _))
    (on-err _ _ c.read_blocks-read.result c.read_blocks-read.ensures.told
    (λ fault h told. counts-stopped fault _ _ _ _ _ _ _ _ _ _ _ (h told)))
    c.keep_at-outcome.ensures.ok c.keep_at-outcome.ensures.told c.keep_at-outcome.ensures.untold
    c.read_blocks-read.ensures.behind

pub returns-clause-last : goal.returns-clause-last
returns-clause-last g c =
    last-ok _ c.keep_at-outcome.result _ _ _ _ _ _ _ _ c.is_told.ensures.ok c.count.ensures
    c.read_blocks-read.ensures.behind c.keep_at-outcome.ensures.kept

pub returns-clause-last_at : goal.returns-clause-last_at
returns-clause-last_at g c =
    last-err _ c.keep_at-outcome.result _ _ _ _ _ _ _ _ c.is_told.ensures.fault c.count.ensures
    c.read_blocks-read.ensures.behind c.keep_at-outcome.ensures.kept_at

pub returns-clause-keeper : goal.returns-clause-keeper
returns-clause-keeper g c = c.keep_at-outcome.ensures.keeper _ c.read_blocks-read.ensures.keeper

pub returns-clause-order : goal.returns-clause-order
returns-clause-order g c =
    first-as _ _ _ _ _ _ _ _ _ _ c.in_ok-begun.ensures.core
    (ap (λ (o : OutputValue). o.style) c.in_ok-begun.ensures.output)
    c.read_blocks-read.ensures.order
