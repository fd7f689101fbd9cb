use Rattle.std.proofs.Common.{◌∙◌, ap, sym, Some, Result, Ok, Err, OnOk}
use Rattle.server_core.specs.ServerValues.{mark_at}
use Rattle.server_core.proofs.SpareLemmas.{mark-there, marked-slot}
use Rattle.server_core.proofs.server.Server.marked_clients.Goals as goal

on-ok : {X E : Type 0} (r : Result X E) (P Q : Type 0) → (P → Q) → OnOk r P → OnOk r Q
on-ok (Ok x) P Q f p = f p
on-ok (Err e) P Q f p = p

pub returns-clause-all : goal.returns-clause-all
returns-clause-all c =
    on-ok c.list_set.result _ _
    (λ all k marked.
    let at = marked-slot c.self.inside.config c.self.inside.rings c.self.inside.clients c.self.inside.marks k
    c.self.invariant.0 (ap (λ s. mark_at s k) c.self.view_is ∙ marked) in
    all k at.0 at.1 at.2)
    c.list_set.ensures.all

pub returns-clause-only : goal.returns-clause-only
returns-clause-only c = λ k among.
    let is = c.list_set.ensures.only k among in
    sym (ap (λ s. mark_at s k) c.self.view_is)
    ∙ mark-there c.self.inside.config c.self.inside.rings c.self.inside.clients c.self.inside.marks k
    c.self.invariant.0 is.slot is.has_slot
    ∙ ap Some is.is_set
