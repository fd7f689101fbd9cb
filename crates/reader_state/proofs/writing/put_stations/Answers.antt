use Rattle.std.proofs.Common.{◌∙◌, Ok, Err}
use Rattle.std.specs.Prelude.{OnOk, Result}
use Rattle.reader_state.proofs.TextLemmas.{two-texts}
use Rattle.reader_state.proofs.writing.put_stations.Goals as goal

on-ok : {T E : Type 0} → (P Q : Type 0) → (r : Result T E) → OnOk r P → (P → Q) → OnOk r Q
on-ok P Q (Ok x) h f = f h
on-ok P Q (Err e) h f = tt

pub returns : goal.returns
returns c = on-ok _ _ c.put_others.result c.put_others.ensures (λ e.
    two-texts _ _ _ _ _ _ _ c.clear.ensures.items c.in_ok-put_each.ensures
    (c.deref.ensures.value ∙ c.in_ok-lasts.ensures)
    (c.deref-2.ensures.value ∙ c.in_ok-lasts.ensures) e)
