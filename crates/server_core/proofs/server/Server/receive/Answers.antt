use Rattle.std.proofs.Common.{refl, ◌∙◌, ap, sym, subst, length}
use Rattle.protocol.specs.Client.{received}
use Rattle.protocol.specs.World.{step}
use Rattle.protocol.specs.World.Event.{Bytes}
use Rattle.server_core.specs.ServerValues.{ServerValue, StandsAt}
use Rattle.server_core.specs.Refusals.{receipt}
use Rattle.server_core.specs.Marks.{marks_of}
use Rattle.server_core.proofs.SessionLemmas.{found, goes-nowhere, goes-there, seen-nowhere, seen-there, with-marks}
use Rattle.server_core.proofs.SlotLemmas.{written-table}
use Rattle.server_core.proofs.CurrentLemmas.{current-goes, received-over}
use Rattle.server_core.proofs.SpareLemmas.{bits-elsewhere, leaves-others, serving-with}
use Rattle.server_core.specs.Marks.{LeavesOthers}
use Rattle.server_core.proofs.server.Server.receive.Goals as goal

pub invariant_of-self : goal.invariant_of-self
invariant_of-self c = (
  written-table c.self.inside.clients c.receive_in.new.slots c.self.invariant.0 c.receive_in.ensures.kept,
  c.receive_in.ensures.settled,
  c.self.invariant.2,
  c.receive_in.ensures.marked,
  c.receive_in.ensures.stations ∙ c.self.invariant.4,
  c.self.invariant.5,
  current-goes c.self.inside.config c.self.invariant.5.history c.self.inside.clients c.args.client.now c.in-Some.slot
      (λ v x. received v c.self.invariant.5.history c.args.bytes.now x)
      (received-over c.self.invariant.5.history c.args.bytes.now) c.receive_in.new.slots c.self.invariant.0
      (sym c.in-Some.ensures)
      (c.receive_in.ensures.changed c.self.invariant.5.history c.self.invariant.5.holds)
      c.self.invariant.6,
)

pub returns-in-Some-clause-stands : goal.returns-in-Some-clause-stands
returns-in-Some-clause-stands c = λ config w stands.
    let here = found c.self.inside.config c.self.inside.rings c.self.inside.clients c.self.inside.clients
    (marks_of c.self.inside.clients c.self.inside.marks) c.args.self.now config w c.self.view_is
    refl refl stands in
    (with-marks _ (marks_of (record c.self.inside.clients { slots = c.receive_in.new.slots }) c.receive_in.new.marks)
    config _ (goes-there c.self.inside.config c.self.inside.rings c.self.inside.clients c.args.client.now config w
    (λ v x. received v w.history c.args.bytes.now x) c.receive_in.new.slots c.in-Some.slot c.self.invariant.0
    (sym c.in-Some.ensures) (c.receive_in.ensures.changed w.history here.holds) here))

pub returns-in-Some-clause-answer : goal.returns-in-Some-clause-answer
returns-in-Some-clause-answer c = λ config w stands.
    let here = found c.self.inside.config c.self.inside.rings c.self.inside.clients c.self.inside.clients
    (marks_of c.self.inside.clients c.self.inside.marks) c.args.self.now config w c.self.view_is
    refl refl stands in
    (c.receive_in.ensures.answer w.history
    ∙ ap (receipt (length c.args.bytes.now))
    (seen-there c.self.inside.config c.self.inside.rings c.self.inside.clients c.args.client.now config w c.in-Some.slot
    c.self.invariant.0 (sym c.in-Some.ensures) here))

pub returns-in-None-clause-stands : goal.returns-in-None-clause-stands
returns-in-None-clause-stands c = λ config w stands.
    let here = found c.self.inside.config c.self.inside.rings c.self.inside.clients c.self.inside.clients
    (marks_of c.self.inside.clients c.self.inside.marks) c.args.self.now config w c.self.view_is
    refl refl stands in
    subst (λ (s : ServerValue). StandsAt s config (step config w (Bytes c.args.client.now c.args.bytes.now)))
    c.self.view_is
    (with-marks _ (marks_of c.self.inside.clients c.self.inside.marks) config _
    (goes-nowhere c.self.inside.config c.self.inside.rings c.self.inside.clients c.args.client.now config w
    (λ v x. received v w.history c.args.bytes.now x) (sym c.in-None.ensures) here))

pub returns-in-None-clause-answer : goal.returns-in-None-clause-answer
returns-in-None-clause-answer c = λ config w stands.
    let here = found c.self.inside.config c.self.inside.rings c.self.inside.clients c.self.inside.clients
    (marks_of c.self.inside.clients c.self.inside.marks) c.args.self.now config w c.self.view_is
    refl refl stands in
    (ap (receipt (length c.args.bytes.now))
    (seen-nowhere c.self.inside.config c.self.inside.rings c.self.inside.clients c.args.client.now config w
    (sym c.in-None.ensures) here))

pub returns-in-Some-clause-others : goal.returns-in-Some-clause-others
returns-in-Some-clause-others c =
    let there = sym c.in-Some.ensures in
    (subst (λ s. LeavesOthers c.args.client.now s (serving-with c.self.inside.config c.self.inside.rings
    (record c.self.inside.clients { slots = c.receive_in.new.slots }) c.receive_in.new.marks)) c.self.view_is
    (leaves-others c.self.inside.config c.self.inside.rings c.self.inside.clients
    (record c.self.inside.clients { slots = c.receive_in.new.slots }) c.self.inside.marks c.receive_in.new.marks
    c.args.client.now
    c.self.invariant.0
    (written-table c.self.inside.clients c.receive_in.new.slots c.self.invariant.0 c.receive_in.ensures.kept)
    refl (λ other apart. refl)
    (bits-elsewhere c.self.inside.clients c.self.inside.marks c.receive_in.new.marks c.args.client.now c.in-Some.slot
    c.self.invariant.0 there c.receive_in.ensures.others)))
