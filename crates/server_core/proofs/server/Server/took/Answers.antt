use Rattle.std.proofs.Common.{refl, ◌∙◌, ap, sym, subst, Some, is_some, slice_get}
use Rattle.protocol.specs.World.{step}
use Rattle.protocol.specs.World.Event.{Take}
use Rattle.server_core.specs.ServerValues.{ServerValue, StandsAt}
use Rattle.server_core.specs.Marks.{marks_of}
use Rattle.server_core.proofs.SessionLemmas.{found, seen-nowhere, seen-there, took-nowhere, took-there, with-marks}
use Rattle.server_core.proofs.SlotLemmas.{session-there, written-table}
use Rattle.server_core.proofs.CurrentLemmas.{current-goes, taken-over}
use Rattle.server_core.specs.ServerValues.{taking}
use Rattle.server_core.proofs.SpareLemmas.{bits-elsewhere, leaves-others, serving-with}
use Rattle.server_core.specs.Marks.{LeavesOthers}
use Rattle.server_core.proofs.server.Server.took.Goals as goal

pub took_in-requires-clause-count : goal.took_in-requires-clause-count
took_in-requires-clause-count c = λ s there.
    c.requires s
    (ap (λ (x : ServerValue). slice_get x.sessions c.args.client.now) (sym c.self.view_is)
    ∙ session-there c.self.inside.clients c.args.client.now c.in-Some.slot c.self.invariant.0 (sym c.in-Some.ensures)
    ∙ ap Some there)

pub invariant_of-self : goal.invariant_of-self
invariant_of-self c = (
  written-table c.self.inside.clients c.took_in.new.slots c.self.invariant.0 c.took_in.ensures.kept,
  c.took_in.ensures.settled,
  c.self.invariant.2,
  c.took_in.ensures.marked,
  c.took_in.ensures.stations ∙ c.self.invariant.4,
  c.self.invariant.5,
  current-goes c.self.inside.config c.self.invariant.5.history c.self.inside.clients c.args.client.now c.in-Some.slot
      (taking c.self.invariant.5.history c.args.count) (taken-over c.self.invariant.5.history c.args.count)
      c.took_in.new.slots c.self.invariant.0 (sym c.in-Some.ensures)
      (c.took_in.ensures.changed c.self.invariant.5.history c.self.invariant.5.holds)
      c.self.invariant.6,
)

pub returns-in-Some-clause-stands : goal.returns-in-Some-clause-stands
returns-in-Some-clause-stands c = λ config w stands.
    let here = found c.self.inside.config c.self.inside.rings c.self.inside.clients c.self.inside.clients
    (marks_of c.self.inside.clients c.self.inside.marks) c.args.self.now config w c.self.view_is
    refl refl stands in
    (with-marks _ (marks_of (record c.self.inside.clients { slots = c.took_in.new.slots }) c.took_in.new.marks) config _
    (took-there c.self.inside.config c.self.inside.rings c.self.inside.clients c.args.client.now config w c.args.count
    c.took_in.new.slots c.in-Some.slot c.self.invariant.0 (sym c.in-Some.ensures)
    (c.took_in.ensures.changed w.history here.holds) here))

pub returns-in-Some-clause-answer : goal.returns-in-Some-clause-answer
returns-in-Some-clause-answer c = λ config w stands.
    let here = found c.self.inside.config c.self.inside.rings c.self.inside.clients c.self.inside.clients
    (marks_of c.self.inside.clients c.self.inside.marks) c.args.self.now config w c.self.view_is
    refl refl stands in
    (c.took_in.ensures.answer w.history
    ∙ ap is_some
    (seen-there c.self.inside.config c.self.inside.rings c.self.inside.clients c.args.client.now config w c.in-Some.slot
    c.self.invariant.0 (sym c.in-Some.ensures) here))

pub returns-in-None-clause-stands : goal.returns-in-None-clause-stands
returns-in-None-clause-stands c = λ config w stands.
    let here = found c.self.inside.config c.self.inside.rings c.self.inside.clients c.self.inside.clients
    (marks_of c.self.inside.clients c.self.inside.marks) c.args.self.now config w c.self.view_is
    refl refl stands in
    subst (λ (s : ServerValue). StandsAt s config (step config w (Take c.args.client.now c.args.count))) c.self.view_is
    (with-marks _ (marks_of c.self.inside.clients c.self.inside.marks) config _
    (took-nowhere c.self.inside.config c.self.inside.rings c.self.inside.clients c.args.client.now config w c.args.count
    (sym c.in-None.ensures) here))

pub returns-in-None-clause-answer : goal.returns-in-None-clause-answer
returns-in-None-clause-answer c = λ config w stands.
    let here = found c.self.inside.config c.self.inside.rings c.self.inside.clients c.self.inside.clients
    (marks_of c.self.inside.clients c.self.inside.marks) c.args.self.now config w c.self.view_is
    refl refl stands in
    (ap is_some (seen-nowhere c.self.inside.config c.self.inside.rings c.self.inside.clients c.args.client.now config w
    (sym c.in-None.ensures) here))

pub returns-in-Some-clause-others : goal.returns-in-Some-clause-others
returns-in-Some-clause-others c =
    let there = sym c.in-Some.ensures in
    (subst (λ s. LeavesOthers c.args.client.now s (serving-with c.self.inside.config c.self.inside.rings
    (record c.self.inside.clients { slots = c.took_in.new.slots }) c.took_in.new.marks)) c.self.view_is
    (leaves-others c.self.inside.config c.self.inside.rings c.self.inside.clients
    (record c.self.inside.clients { slots = c.took_in.new.slots }) c.self.inside.marks c.took_in.new.marks
    c.args.client.now
    c.self.invariant.0
    (written-table c.self.inside.clients c.took_in.new.slots c.self.invariant.0 c.took_in.ensures.kept)
    refl (λ other apart. refl)
    (bits-elsewhere c.self.inside.clients c.self.inside.marks c.took_in.new.marks c.args.client.now c.in-Some.slot
    c.self.invariant.0 there c.took_in.ensures.others)))
