use Rattle.std.proofs.Common.{refl, ◌∙◌, ap, sym, subst, Some, option_map, slice_get}
use Rattle.protocol.specs.World.{step}
use Rattle.protocol.specs.World.Event.{Take}
use Rattle.server_core.specs.ServerValues.{ServerValue}
use Rattle.server_core.specs.Marks.{marks_of}
use Rattle.server_core.proofs.SessionLemmas.{found, goes-nowhere, goes-there, opened-there, seen-nowhere, with-marks}
use Rattle.server_core.proofs.SlotLemmas.{session-there, written-table}
use Rattle.server_core.proofs.CurrentLemmas.{current-goes, offered-over, taken-over}
use Rattle.server_core.specs.ServerValues.{StandsAt, client_of_open, goes_on, handing, taking}
use Rattle.server_core.specs.Refusals.{offer_of}
use Rattle.server_core.proofs.SpareLemmas.{mark-there}
use Rattle.server_core.proofs.TakeLemmas.{gone-still, take-then-offer, taken-there}
use Rattle.protocol.specs.Client.{Client, offered}
use Rattle.server_core.proofs.SpareLemmas.{bits-elsewhere, leaves-others, serving-with}
use Rattle.server_core.specs.Marks.{LeavesOthers}
use Rattle.server_core.proofs.server.Server.go_on.Goals as goal

pub go_on_in-requires-clause-count : goal.go_on_in-requires-clause-count
go_on_in-requires-clause-count c = λ s there.
    c.requires s
    (ap (λ (x : ServerValue). slice_get x.sessions c.args.client.now) (sym c.self.view_is)
    ∙ session-there c.self.inside.clients c.args.client.now c.in-Some.slot c.self.invariant.0 (sym c.in-Some.ensures)
    ∙ ap Some there)

pub invariant_of-self : goal.invariant_of-self
invariant_of-self c = (
  written-table c.self.inside.clients c.go_on_in.new.slots c.self.invariant.0 c.go_on_in.ensures.kept,
  c.go_on_in.ensures.settled,
  c.self.invariant.2,
  c.go_on_in.ensures.marked,
  c.go_on_in.ensures.stations ∙ c.self.invariant.4,
  c.self.invariant.5,
  current-goes c.self.inside.config c.self.invariant.5.history c.self.inside.clients c.args.client.now c.in-Some.slot
      (handing c.self.invariant.5.history c.args.count)
      (λ v x over. offered-over c.self.invariant.5.history v
      (taking c.self.invariant.5.history c.args.count v x)
      (taken-over c.self.invariant.5.history c.args.count v x over))
      c.go_on_in.new.slots c.self.invariant.0 (sym c.in-Some.ensures)
      (c.go_on_in.ensures.changed c.self.invariant.5.history c.self.invariant.5.holds)
      c.self.invariant.6,
)

pub returns-in-Some-clause-stands : goal.returns-in-Some-clause-stands
returns-in-Some-clause-stands c = λ config w stands.
    let here = found c.self.inside.config c.self.inside.rings c.self.inside.clients c.self.inside.clients
    (marks_of c.self.inside.clients c.self.inside.marks) c.args.self.now config w c.self.view_is
    refl refl stands in
    let server = serving-with c.self.inside.config c.self.inside.rings
    (record c.self.inside.clients { slots = c.go_on_in.new.slots }) c.go_on_in.new.marks in
    (subst (StandsAt server config) (take-then-offer config w c.args.client.now c.args.count)
    (with-marks _ (marks_of (record c.self.inside.clients { slots = c.go_on_in.new.slots }) c.go_on_in.new.marks)
    config _
    (goes-there c.self.inside.config c.self.inside.rings c.self.inside.clients c.args.client.now config w
    (handing w.history c.args.count) c.go_on_in.new.slots c.in-Some.slot c.self.invariant.0
    (sym c.in-Some.ensures) (c.go_on_in.ensures.changed w.history here.holds) here)))

pub returns-in-Some-clause-answer : goal.returns-in-Some-clause-answer
returns-in-Some-clause-answer c = λ config w stands.
    let here = found c.self.inside.config c.self.inside.rings c.self.inside.clients c.self.inside.clients
    (marks_of c.self.inside.clients c.self.inside.marks) c.args.self.now config w c.self.view_is
    refl refl stands in
    (c.go_on_in.ensures.answer w.history here.holds
    ∙ ap (λ o. option_map (λ (x : Client). offer_of (offered w.history x))
    (client_of_open (goes_on (taking w.history c.args.count) o)))
    (opened-there c.self.inside.config c.self.inside.rings c.self.inside.clients c.args.client.now config w
    c.in-Some.slot
    c.self.invariant.0 (sym c.in-Some.ensures) here)
    ∙ ap (option_map (λ (x : Client). offer_of (offered w.history x)))
    (sym (taken-there config w c.args.client.now c.args.count)))

pub returns-in-None-clause-stands : goal.returns-in-None-clause-stands
returns-in-None-clause-stands c = λ config w stands.
    let here = found c.self.inside.config c.self.inside.rings c.self.inside.clients c.self.inside.clients
    (marks_of c.self.inside.clients c.self.inside.marks) c.args.self.now config w c.self.view_is
    refl refl stands in
    let server = serving-with c.self.inside.config c.self.inside.rings c.self.inside.clients c.self.inside.marks in
    subst (λ (s : ServerValue). StandsAt s config
    (step config (step config w (Take c.args.client.now c.args.count)) (Take c.args.client.now 0))) c.self.view_is
    (subst (StandsAt server config) (take-then-offer config w c.args.client.now c.args.count)
    (with-marks _ (marks_of c.self.inside.clients c.self.inside.marks) config _
    (goes-nowhere c.self.inside.config c.self.inside.rings c.self.inside.clients c.args.client.now config w
    (handing w.history c.args.count) (sym c.in-None.ensures) here)))

pub returns-in-None-clause-answer : goal.returns-in-None-clause-answer
returns-in-None-clause-answer c = λ config w stands.
    let here = found c.self.inside.config c.self.inside.rings c.self.inside.clients c.self.inside.clients
    (marks_of c.self.inside.clients c.self.inside.marks) c.args.self.now config w c.self.view_is
    refl refl stands in
    (ap (option_map (λ (x : Client). offer_of (offered w.history x)))
    (gone-still (taking w.history c.args.count) (slice_get w.connections c.args.client.now)
    (seen-nowhere c.self.inside.config c.self.inside.rings c.self.inside.clients c.args.client.now config w
    (sym c.in-None.ensures) here)
    ∙ sym (taken-there config w c.args.client.now c.args.count)))

pub returns-in-Some-clause-unmarked : goal.returns-in-Some-clause-unmarked
returns-in-Some-clause-unmarked c = λ idle.
    (mark-there c.self.inside.config c.self.inside.rings
    (record c.self.inside.clients { slots = c.go_on_in.new.slots }) c.go_on_in.new.marks c.args.client.now
    (written-table c.self.inside.clients c.go_on_in.new.slots c.self.invariant.0 c.go_on_in.ensures.kept) c.in-Some.slot
    (sym c.in-Some.ensures)
    ∙ ap Some (c.go_on_in.ensures.idle idle))

pub returns-in-Some-clause-others : goal.returns-in-Some-clause-others
returns-in-Some-clause-others c =
    let there = sym c.in-Some.ensures in
    (subst (λ s. LeavesOthers c.args.client.now s (serving-with c.self.inside.config c.self.inside.rings
    (record c.self.inside.clients { slots = c.go_on_in.new.slots }) c.go_on_in.new.marks)) c.self.view_is
    (leaves-others c.self.inside.config c.self.inside.rings c.self.inside.clients
    (record c.self.inside.clients { slots = c.go_on_in.new.slots }) c.self.inside.marks c.go_on_in.new.marks
    c.args.client.now
    c.self.invariant.0
    (written-table c.self.inside.clients c.go_on_in.new.slots c.self.invariant.0 c.go_on_in.ensures.kept)
    refl (λ other apart. refl)
    (bits-elsewhere c.self.inside.clients c.self.inside.marks c.go_on_in.new.marks c.args.client.now c.in-Some.slot
    c.self.invariant.0 there c.go_on_in.ensures.others)))
