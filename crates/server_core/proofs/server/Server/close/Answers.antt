use Rattle.std.proofs.Common.{◌∙◌, ap, sym, refl, subst}
use Rattle.std.specs.Prelude.{is_some}
use Rattle.slab.specs.Slab.{Slab}
use Rattle.session_state.specs.Sessions.{SessionValue}
use Rattle.server_core.specs.Marks.{AreMarked, marks_of}
use Rattle.server_core.proofs.SessionLemmas.{found, seen-session, serving, with-marks}
use Rattle.server_core.proofs.MarkLemmas.{marked-leaves}
use Rattle.server_core.proofs.StandsLemmas.{close-stands}
use Rattle.server_core.proofs.CurrentLemmas.{current-closed as closed}
use Rattle.server_core.proofs.SpareLemmas.{bits-elsewhere, leaves-others, serving-with}
use Rattle.server_core.specs.Marks.{LeavesOthers}
use Rattle.server_core.proofs.server.Server.close.Goals as goal

pub invariant_of-self : goal.invariant_of-self
invariant_of-self c = (
  c.close.ensures.table,
  c.close.ensures.settled c.self.inside.config c.self.inside.rings c.self.invariant.1,
  c.self.invariant.2,
  marked-leaves c.self.inside.config c.self.inside.rings c.self.inside.marks c.leave.new.self
      c.self.inside.clients.slots c.close.new.self.slots c.in-Some.slot c.leave.ensures.kept c.self.invariant.3
      c.in-Some.ensures.freed c.leave.ensures.sending,
  c.leave.ensures.kept.rows.count ∙ c.self.invariant.4,
  c.self.invariant.5,
  closed c.self.inside.config c.self.inside.clients c.close.new.self c.number.result c.close.ensures.closed
      c.close.ensures.left c.self.invariant.6,
)

pub invariant_of-self-in-None : goal.invariant_of-self-in-None
invariant_of-self-in-None c = (
  c.close.ensures.table,
  c.close.ensures.settled c.self.inside.config c.self.inside.rings c.self.invariant.1,
  c.self.invariant.2,
  subst (λ (slots : Slab SessionValue). AreMarked c.self.inside.config c.self.inside.rings c.self.inside.marks slots)
      (sym (c.close.ensures.absent c.in-None.is)) c.self.invariant.3,
  c.self.invariant.4,
  c.self.invariant.5,
  closed c.self.inside.config c.self.inside.clients c.close.new.self c.number.result c.close.ensures.closed
      c.close.ensures.left c.self.invariant.6,
)

pub returns-in-Some-clause-stands : goal.returns-in-Some-clause-stands
returns-in-Some-clause-stands c = λ config w stands.
    let here = found c.self.inside.config c.self.inside.rings c.self.inside.clients c.self.inside.clients
    (marks_of c.self.inside.clients c.self.inside.marks) c.args.self.now config w c.self.view_is refl refl stands in
    rw (← c.number.ensures)
    (with-marks _ (marks_of c.close.new.self c.leave.new.self) config _
    (close-stands (serving c.self.inside.config c.self.inside.rings c.self.inside.clients)
    (serving c.self.inside.config c.self.inside.rings c.close.new.self) c.number.result refl refl
    c.close.ensures.closed c.close.ensures.left config w here))

pub returns-in-Some-clause-answer : goal.returns-in-Some-clause-answer
returns-in-Some-clause-answer c = λ config w stands.
    let here = found c.self.inside.config c.self.inside.rings c.self.inside.clients c.self.inside.clients
    (marks_of c.self.inside.clients c.self.inside.marks) c.args.self.now config w c.self.view_is refl refl stands in
    rw (← c.number.ensures)
    (sym (ap is_some c.in-Some.is) ∙ c.close.ensures.answer
    ∙ seen-session c.self.inside.config c.self.inside.rings c.self.inside.clients c.number.result config w
    c.self.invariant.0 here)

pub returns-in-None-clause-stands : goal.returns-in-None-clause-stands
returns-in-None-clause-stands c = λ config w stands.
    let here = found c.self.inside.config c.self.inside.rings c.self.inside.clients c.self.inside.clients
    (marks_of c.self.inside.clients c.self.inside.marks) c.args.self.now config w c.self.view_is refl refl stands in
    rw (← c.number.ensures)
    (with-marks _ (marks_of c.close.new.self c.self.inside.marks) config _
    (close-stands (serving c.self.inside.config c.self.inside.rings c.self.inside.clients)
    (serving c.self.inside.config c.self.inside.rings c.close.new.self) c.number.result refl refl
    c.close.ensures.closed c.close.ensures.left config w here))

pub returns-in-None-clause-answer : goal.returns-in-None-clause-answer
returns-in-None-clause-answer c = λ config w stands.
    let here = found c.self.inside.config c.self.inside.rings c.self.inside.clients c.self.inside.clients
    (marks_of c.self.inside.clients c.self.inside.marks) c.args.self.now config w c.self.view_is refl refl stands in
    rw (← c.number.ensures)
    (sym (ap is_some c.in-None.is) ∙ c.close.ensures.answer
    ∙ seen-session c.self.inside.config c.self.inside.rings c.self.inside.clients c.number.result config w
    c.self.invariant.0 here)

pub returns-in-Some-clause-others : goal.returns-in-Some-clause-others
returns-in-Some-clause-others c =
    let there = sym c.close.ensures.slot ∙ c.in-Some.is in
    rw (← c.number.ensures)
    (subst (λ s. LeavesOthers c.number.result s (serving-with c.self.inside.config c.self.inside.rings c.close.new.self
    c.leave.new.self)) c.self.view_is
    (leaves-others c.self.inside.config c.self.inside.rings c.self.inside.clients c.close.new.self c.self.inside.marks
    c.leave.new.self c.number.result c.self.invariant.0 c.close.ensures.table c.close.ensures.opens
    c.close.ensures.others
    (bits-elsewhere c.self.inside.clients c.self.inside.marks c.leave.new.self c.number.result c.in-Some.slot
    c.self.invariant.0 there c.leave.ensures.kept)))

pub returns-in-None-clause-others : goal.returns-in-None-clause-others
returns-in-None-clause-others c =
    rw (← c.number.ensures)
    (subst (λ s. LeavesOthers c.number.result s (serving-with c.self.inside.config c.self.inside.rings c.close.new.self
    c.self.inside.marks)) c.self.view_is
    (leaves-others c.self.inside.config c.self.inside.rings c.self.inside.clients c.close.new.self c.self.inside.marks
    c.self.inside.marks c.number.result c.self.invariant.0 c.close.ensures.table c.close.ensures.opens
    c.close.ensures.others (λ other slot apart e. refl)))
