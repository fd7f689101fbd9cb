use Rattle.std.proofs.Common.{◌∙◌, ap, sym, refl}
use Rattle.std.specs.Prelude.{is_some}
use Rattle.server_core.specs.Clients.{in_slot}
use Rattle.server_core.specs.Marks.{marks_of}
use Rattle.server_core.specs.ServerValues.{mark_at}
use Rattle.server_core.proofs.SessionLemmas.{found, seen-session}
use Rattle.server_core.proofs.SpareLemmas.{spared-there, unmarked-slot}
use Rattle.server_core.proofs.server.Server.unmarked_are_spared.Goals as goal

pub returns-clause-spared : goal.returns-clause-spared
returns-clause-spared c = λ k unmarked config w stands.
    let here = found c.self.inside.config c.self.inside.rings c.self.inside.clients c.self.inside.clients
    (marks_of c.self.inside.clients c.self.inside.marks) c.args.self.now config w c.self.view_is refl refl stands in
    let at = unmarked-slot c.self.inside.config c.self.inside.rings c.self.inside.clients c.self.inside.marks k
    c.self.invariant.0 (ap (λ s. mark_at s k) c.self.view_is ∙ unmarked) in
    spared-there c.self.inside.config c.self.inside.rings c.self.inside.clients c.self.inside.marks k at.0 config w
    c.self.invariant.0 at.1 c.self.invariant.3 at.2 here

pub returns-clause-there : goal.returns-clause-there
returns-clause-there c = λ k unmarked config w stands.
    let here = found c.self.inside.config c.self.inside.rings c.self.inside.clients c.self.inside.clients
    (marks_of c.self.inside.clients c.self.inside.marks) c.args.self.now config w c.self.view_is refl refl stands in
    let at = unmarked-slot c.self.inside.config c.self.inside.rings c.self.inside.clients c.self.inside.marks k
    c.self.invariant.0 (ap (λ s. mark_at s k) c.self.view_is ∙ unmarked) in
    sym (seen-session c.self.inside.config c.self.inside.rings c.self.inside.clients k config w c.self.invariant.0 here)
    ∙ ap (λ o. is_some (in_slot c.self.inside.clients.slots o)) at.1
    ∙ c.self.invariant.0.there k at.0 at.1
