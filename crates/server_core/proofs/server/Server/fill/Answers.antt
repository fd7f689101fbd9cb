use Rattle.std.proofs.Common.{refl, ◌∙◌, ap, arith, append-nil, sym, subst, [], Some}
use Rattle.protocol.specs.World.{step}
use Rattle.protocol.specs.World.Event.{Take}
use Rattle.server_core.specs.Filling.Fills.{none}
use Rattle.server_core.specs.Handing.{handing_on}
use Rattle.server_core.specs.Marks.{LeavesOthers, marks_of}
use Rattle.server_core.proofs.CurrentLemmas.{current-goes}
use Rattle.server_core.proofs.FillLemmas.{filled-there, handing-over, slot-goes}
use Rattle.server_core.proofs.SessionLemmas.{found}
use Rattle.server_core.proofs.SlotLemmas.{written-table}
use Rattle.server_core.proofs.SpareLemmas.{bits-elsewhere, leaves-others, mark-there, serving-with}
use Rattle.server_core.proofs.server.Server.fill.Goals as goal

pub fill_in-requires-clause-there : goal.fill_in-requires-clause-there
fill_in-requires-clause-there c = c.self.invariant.0.there c.args.client.now c.in-Some.slot (sym c.in-Some.ensures)

pub invariant_of-self : goal.invariant_of-self
invariant_of-self c =
    let h = c.self.invariant.5.history in (
      written-table c.self.inside.clients c.fill_in.new.slots c.self.invariant.0 c.fill_in.ensures.kept,
      c.fill_in.ensures.settled,
      c.self.invariant.2,
      c.fill_in.ensures.marked,
      c.fill_in.ensures.stations ∙ c.self.invariant.4,
      c.self.invariant.5,
      current-goes c.self.inside.config h c.self.inside.clients c.args.client.now c.in-Some.slot
          (handing_on h c.fill_in.result.count) (handing-over h c.fill_in.result.count)
          c.fill_in.new.slots c.self.invariant.0 (sym c.in-Some.ensures)
          (slot-goes c.self.inside.config h c.self.inside.clients.slots c.fill_in.new.slots c.in-Some.slot
          c.fill_in.result.count c.args.out.now.items c.fill_in.new.out.items
          (c.fill_in.ensures.hands h c.self.invariant.5.holds) c.fill_in.ensures.elsewhere)
          c.self.invariant.6,
    )

pub returns-clause-fills : goal.returns-clause-fills
returns-clause-fills c = λ config w offers.
    let here = found c.self.inside.config c.self.inside.rings c.self.inside.clients c.self.inside.clients
    (marks_of c.self.inside.clients c.self.inside.marks) c.args.self.now config
    (step config w (Take c.args.client.now 0))
    c.self.view_is refl refl offers.stands in
    filled-there c.self.inside.config c.self.inside.rings c.self.inside.clients c.args.client.now config w
    (marks_of (record c.self.inside.clients { slots = c.fill_in.new.slots }) c.fill_in.new.marks) c.fill_in.new.slots
    c.in-Some.slot c.self.invariant.0 (sym c.in-Some.ensures) here c.args.found offers.answer
    c.args.out.now.items c.fill_in.new.out.items c.fill_in.result
    (c.fill_in.ensures.hands w.history here.holds) c.fill_in.ensures.elsewhere
    (c.fill_in.ensures.answer w.history here.holds)

pub returns-in_default-clause-fills : goal.returns-in_default-clause-fills
returns-in_default-clause-fills c = λ config w offers. record {
  pieces = [];
  beyond = w;
  fills = none;
  offers = offers;
  bytes = sym (append-nil c.args.out.now.items);
  sizes = λ k d inside. absurd (omega (arith, inside));
  count = refl;
}

pub returns-clause-others : goal.returns-clause-others
returns-clause-others c =
    let there = sym c.in-Some.ensures in
    subst (λ s. LeavesOthers c.args.client.now s (serving-with c.self.inside.config c.self.inside.rings
    (record c.self.inside.clients { slots = c.fill_in.new.slots }) c.fill_in.new.marks)) c.self.view_is
    (leaves-others c.self.inside.config c.self.inside.rings c.self.inside.clients
    (record c.self.inside.clients { slots = c.fill_in.new.slots }) c.self.inside.marks c.fill_in.new.marks
    c.args.client.now
    c.self.invariant.0
    (written-table c.self.inside.clients c.fill_in.new.slots c.self.invariant.0 c.fill_in.ensures.kept)
    refl (λ other apart. refl)
    (bits-elsewhere c.self.inside.clients c.self.inside.marks c.fill_in.new.marks c.args.client.now c.in-Some.slot
    c.self.invariant.0 there c.fill_in.ensures.others))

pub returns-clause-unmarked : goal.returns-clause-unmarked
returns-clause-unmarked c = λ some idle.
    mark-there c.self.inside.config c.self.inside.rings
    (record c.self.inside.clients { slots = c.fill_in.new.slots }) c.fill_in.new.marks c.args.client.now
    (written-table c.self.inside.clients c.fill_in.new.slots c.self.invariant.0 c.fill_in.ensures.kept) c.in-Some.slot
    (sym c.in-Some.ensures)
    ∙ ap Some (c.fill_in.ensures.idle some idle)
