use Rattle.std.proofs.Common.{◌∙◌, ap, sym, refl, subst, Some, false}
use Rattle.std.specs.Prelude.{IsSome, is_some}
use Rattle.std.specs.Result.{result_ok}
use Rattle.server_core.specs.Clients.{in_slot}
use Rattle.server_core.specs.Marks.{marks_of}
use Rattle.server_core.specs.ServerValues.{mark_at}
use Rattle.server_core.proofs.SessionLemmas.{found, seen-session}
use Rattle.server_core.proofs.SpareLemmas.{bool-inside, mark-nowhere, mark-there, spared-there}
use Rattle.server_core.proofs.server.Server.marked.Goals as goal

pub returns-in-Some-clause-value : goal.returns-in-Some-clause-value
returns-in-Some-clause-value c =
    (ap Some c.is_marked.ensures
    ∙ sym
    (mark-there c.self.inside.config c.self.inside.rings c.self.inside.clients c.self.inside.marks c.args.client.now
    c.self.invariant.0 c.in-Some.slot (sym c.in-Some.ensures))
    ∙ ap (λ s. mark_at s c.args.client.now) c.self.view_is)

pub returns-in-Some-clause-open : goal.returns-in-Some-clause-open
returns-in-Some-clause-open c = λ config w stands.
    let here = found c.self.inside.config c.self.inside.rings c.self.inside.clients c.self.inside.clients
    (marks_of c.self.inside.clients c.self.inside.marks) c.args.self.now config w c.self.view_is refl refl stands in
    (sym
    (subst (λ o. IsSome (in_slot c.self.inside.clients.slots o)) c.in-Some.ensures
    (c.self.invariant.0.there c.args.client.now c.in-Some.slot (sym c.in-Some.ensures)))
    ∙ seen-session c.self.inside.config c.self.inside.rings c.self.inside.clients c.args.client.now config w
    c.self.invariant.0 here)

pub returns-in-Some-clause-spared : goal.returns-in-Some-clause-spared
returns-in-Some-clause-spared c = λ unmarked config w stands.
    let here = found c.self.inside.config c.self.inside.rings c.self.inside.clients c.self.inside.clients
    (marks_of c.self.inside.clients c.self.inside.marks) c.args.self.now config w c.self.view_is refl refl stands in
    (spared-there c.self.inside.config c.self.inside.rings c.self.inside.clients c.self.inside.marks c.args.client.now
    c.in-Some.slot config w c.self.invariant.0 (sym c.in-Some.ensures) c.self.invariant.3
    (sym c.is_marked.ensures ∙ bool-inside c.is_marked.result false (ap result_ok unmarked)) here)

pub returns-in-None-clause-value : goal.returns-in-None-clause-value
returns-in-None-clause-value c =
    (sym
    (mark-nowhere c.self.inside.config c.self.inside.rings c.self.inside.clients c.self.inside.marks c.args.client.now
    c.self.invariant.0 (sym c.in-None.ensures))
    ∙ ap (λ s. mark_at s c.args.client.now) c.self.view_is)

pub returns-in-None-clause-open : goal.returns-in-None-clause-open
returns-in-None-clause-open c = λ config w stands.
    let here = found c.self.inside.config c.self.inside.rings c.self.inside.clients c.self.inside.clients
    (marks_of c.self.inside.clients c.self.inside.marks) c.args.self.now config w c.self.view_is refl refl stands in
    (sym (ap (λ o. is_some (in_slot c.self.inside.clients.slots o)) (sym c.in-None.ensures))
    ∙ seen-session c.self.inside.config c.self.inside.rings c.self.inside.clients c.args.client.now config w
    c.self.invariant.0 here)
