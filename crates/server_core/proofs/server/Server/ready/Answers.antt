use Rattle.std.proofs.Common.{◌∙◌, ap, sym, refl, subst, option_map, not}
use Rattle.std.specs.Result.{result_ok}
use Rattle.protocol.specs.Client.{Client, offered}
use Rattle.server_core.specs.Refusals.{is_idle, offer_of}
use Rattle.server_core.specs.Marks.{marks_of}
use Rattle.server_core.specs.ServerValues.{ServerValue}
use Rattle.server_core.proofs.SessionLemmas.{found, looked-there, seen-nowhere, seen-there, with-marks}
use Rattle.server_core.proofs.SlotLemmas.{written-table}
use Rattle.server_core.proofs.SpareLemmas.{marks-same, spared-by}
use Rattle.server_core.proofs.CurrentLemmas.{current-goes, looked-over}
use Rattle.server_core.proofs.SpareLemmas.{leaves-others, serving-with}
use Rattle.server_core.specs.Marks.{LeavesOthers}
use Rattle.server_core.proofs.server.Server.ready.Goals as goal

pub is_ready_in-requires-clause-there : goal.is_ready_in-requires-clause-there
is_ready_in-requires-clause-there c =
    c.self.invariant.0.there c.args.client.now c.in-Some.slot (sym c.in-Some.ensures)

pub invariant_of-self : goal.invariant_of-self
invariant_of-self c = (
  written-table c.self.inside.clients c.is_ready_in.new.slots c.self.invariant.0 c.is_ready_in.ensures.kept,
  c.is_ready_in.ensures.settled,
  c.self.invariant.2,
  c.is_ready_in.ensures.marked,
  c.self.invariant.4,
  c.self.invariant.5,
  current-goes c.self.inside.config c.self.invariant.5.history c.self.inside.clients c.args.client.now c.in-Some.slot
      (λ v x. x) looked-over c.is_ready_in.new.slots c.self.invariant.0 (sym c.in-Some.ensures)
      (c.is_ready_in.ensures.changed c.self.invariant.5.history c.self.invariant.5.holds)
      c.self.invariant.6,
)

pub returns-in-Some-clause-stands : goal.returns-in-Some-clause-stands
returns-in-Some-clause-stands c = λ config w stands.
    let here = found c.self.inside.config c.self.inside.rings c.self.inside.clients c.self.inside.clients
    (marks_of c.self.inside.clients c.self.inside.marks) c.args.self.now config w c.self.view_is
    refl refl stands in
    with-marks _ (marks_of (record c.self.inside.clients { slots = c.is_ready_in.new.slots }) c.self.inside.marks)
    config w
    (looked-there c.self.inside.config c.self.inside.rings c.self.inside.clients c.args.client.now config w
    c.is_ready_in.new.slots c.in-Some.slot c.self.invariant.0 (sym c.in-Some.ensures)
    (c.is_ready_in.ensures.changed w.history here.holds) here)

pub returns-in-Some-clause-answer : goal.returns-in-Some-clause-answer
returns-in-Some-clause-answer c = λ config w stands.
    let here = found c.self.inside.config c.self.inside.rings c.self.inside.clients c.self.inside.clients
    (marks_of c.self.inside.clients c.self.inside.marks) c.args.self.now config w c.self.view_is
    refl refl stands in
    (c.is_ready_in.ensures.answer w.history here.holds
    ∙ ap (option_map (λ (x : Client). not (is_idle (offer_of (offered w.history x)))))
    (seen-there c.self.inside.config c.self.inside.rings c.self.inside.clients c.args.client.now config w c.in-Some.slot
    c.self.invariant.0 (sym c.in-Some.ensures) here))

pub returns-in-Some-clause-spared : goal.returns-in-Some-clause-spared
returns-in-Some-clause-spared c = λ unready config w stands.
    let here = found c.self.inside.config c.self.inside.rings c.self.inside.clients c.self.inside.clients
    (marks_of c.self.inside.clients c.self.inside.marks) c.args.self.now config w c.self.view_is
    refl refl stands in
    let seen = seen-there c.self.inside.config c.self.inside.rings c.self.inside.clients c.args.client.now config w
    c.in-Some.slot c.self.invariant.0 (sym c.in-Some.ensures) here in
    (spared-by config w c.args.client.now (result_ok c.is_ready_in.result)
    (c.is_ready_in.ensures.answer w.history here.holds
    ∙ ap (option_map (λ (x : Client). not (is_idle (offer_of (offered w.history x))))) seen)
    (ap result_ok unready) (λ x there. c.is_ready_in.ensures.spared w.history here.holds unready x (seen ∙ there)))

pub returns-in-Some-clause-marks : goal.returns-in-Some-clause-marks
returns-in-Some-clause-marks c =
    marks-same c.self.inside.clients
    (record c.self.inside.clients { slots = c.is_ready_in.new.slots }) c.self.inside.marks c.self.inside.marks
    refl refl (λ slot. refl)
    ∙ ap (λ (s : ServerValue). s.marks) c.self.view_is

pub returns-in-None-clause-answer : goal.returns-in-None-clause-answer
returns-in-None-clause-answer c = λ config w stands.
    let here = found c.self.inside.config c.self.inside.rings c.self.inside.clients c.self.inside.clients
    (marks_of c.self.inside.clients c.self.inside.marks) c.args.self.now config w c.self.view_is
    refl refl stands in
    (ap (option_map (λ (x : Client). not (is_idle (offer_of (offered w.history x)))))
    (seen-nowhere c.self.inside.config c.self.inside.rings c.self.inside.clients c.args.client.now config w
    (sym c.in-None.ensures) here))

pub returns-in-Some-clause-others : goal.returns-in-Some-clause-others
returns-in-Some-clause-others c =
    (subst (λ s. LeavesOthers c.args.client.now s (serving-with c.self.inside.config c.self.inside.rings
    (record c.self.inside.clients { slots = c.is_ready_in.new.slots }) c.self.inside.marks)) c.self.view_is
    (leaves-others c.self.inside.config c.self.inside.rings c.self.inside.clients
    (record c.self.inside.clients { slots = c.is_ready_in.new.slots }) c.self.inside.marks c.self.inside.marks
    c.args.client.now
    c.self.invariant.0
    (written-table c.self.inside.clients c.is_ready_in.new.slots c.self.invariant.0 c.is_ready_in.ensures.kept)
    refl (λ other apart. refl)
    (λ other slot apart e. refl)))
