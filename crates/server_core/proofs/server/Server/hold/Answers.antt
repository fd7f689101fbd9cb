use Rattle.std.proofs.Common.{◌∙◌, ◌+◌, ◌<◌, [], ap, arith, refl, sym, subst, is_some, length}
use Rattle.station_ring.specs.HeldRecords.{holdings_of}
use Rattle.protocol.specs.Catalog.{Config}
use Rattle.server_core.specs.Arrivals.{IsPlaced}
use Rattle.server_core.specs.ServerValues.{ServerValue, StandsAt, mark_at}
use Rattle.server_core.specs.Marks.{MarksThose, marks_of}
use Rattle.server_core.proofs.SessionLemmas.{serving, with-marks}
use Rattle.server_core.proofs.MarkLemmas.{marked-arrives}
use Rattle.server_core.proofs.SpareLemmas.{kept-open, marks-those, serving-with}
use Rattle.server_core.proofs.SlotLemmas.{sessions-settled}
use Rattle.server_core.proofs.ArriveLemmas.{accepted-there, answers-number, arrive-settled, arrive-stands, place-there}
use Rattle.server_core.proofs.CurrentLemmas.{history-arrives}
use Rattle.server_core.proofs.server.Server.hold.Goals as goal

pub returns-clause-stands : goal.returns-clause-stands
returns-clause-stands c = λ differs config w stands.
    with-marks _ (marks_of c.self.inside.clients c.arrived.new.self) config _
    (arrive-stands (serving c.self.inside.config c.self.inside.rings c.self.inside.clients)
    (serving c.self.inside.config c.arrive-number.new.self c.self.inside.clients) c.args.bytes.now
    c.args.placing.place c.args.placing.summary
    (subst (λ (s : ServerValue). IsPlaced s.config c.args.bytes.now c.args.placing.place c.args.placing.summary)
    (sym c.self.view_is) c.requires)
    refl refl refl c.codes_are_distinct.ensures
    (sessions-settled c.self.inside.config c.self.inside.rings c.self.inside.clients c.self.invariant.1)
    c.arrive-number.ensures.holds config w
    (with-marks _ [] config w (subst (λ s. StandsAt s config w) (sym c.self.view_is) stands)))

pub returns-clause-answer : goal.returns-clause-answer
returns-clause-answer c = λ differs config w stands.
    let here = subst (λ s. StandsAt s config w) (sym c.self.view_is) stands in
    let placed = subst (λ (s : ServerValue). IsPlaced s.config c.args.bytes.now c.args.placing.place
    c.args.placing.summary) (sym c.self.view_is) c.requires in
    answers-number config w.history c.args.bytes.now c.args.placing.place c.arrive-number.result c.args.placing.summary
    (subst (λ (g : Config). IsPlaced g c.args.bytes.now c.args.placing.place c.args.placing.summary) here.config_is
    placed)
    (c.arrive-number.ensures.number config w.history (here.holds ∙ ap (λ g. holdings_of g w.history) here.config_is))

pub returns-then-arrivals-clause-exhausted : goal.returns-then-arrivals-clause-exhausted
returns-then-arrivals-clause-exhausted c = λ fails config w stands.
    let here = subst (λ s. StandsAt s config w) (sym c.self.view_is) stands in
    let placed = subst (λ (s : ServerValue). IsPlaced s.config c.args.bytes.now c.args.placing.place
    c.args.placing.summary) (sym c.self.view_is) c.requires in
    let count = c.arrivals.ensures.count config w.history
    (here.holds ∙ ap (λ g. holdings_of g w.history) here.config_is) in
    record {
      would_be_taken =
          ap is_some
          (accepted-there config c.args.bytes.now c.args.placing.place c.args.placing.summary
          (subst (λ (g : Config). IsPlaced g c.args.bytes.now c.args.placing.place c.args.placing.summary)
          here.config_is placed));
      full = sym count ∙ c.if-arrivals.true;
    }

inside : (c : goal.After-arrived) → c.args.placing.place < length c.self.inside.marks.rows.items
inside c =
    let placed = subst (λ (s : ServerValue). IsPlaced s.config c.args.bytes.now c.args.placing.place
    c.args.placing.summary) (sym c.self.view_is) c.requires in
    let within = (place-there c.self.inside.config placed.facts c.args.placing.place placed.at).0 in
    omega (arith, within, c.self.invariant.4)

pub invariant_of-self : goal.invariant_of-self
invariant_of-self c = (
  c.self.invariant.0,
  arrive-settled c.self.inside.config c.self.inside.rings c.arrive-number.new.self c.self.inside.clients.slots
      c.arrive-number.ensures.grow c.arrive-number.ensures.by_one c.arrive-number.ensures.arrivals
      c.self.invariant.1,
  omega (arith, c.arrive-number.ensures.count, c.self.invariant.2),
  marked-arrives c.self.inside.config c.self.inside.rings c.arrive-number.new.self c.self.inside.marks
      c.arrived.new.self c.args.placing.place c.self.inside.clients.slots c.arrive-number.ensures.others
      (inside c) c.arrived.ensures.marked c.arrived.ensures.room c.arrived.ensures.sending c.arrived.ensures.rows
      c.self.invariant.3,
  ap length c.arrived.ensures.rows ∙ c.self.invariant.4,
  history-arrives c.self.inside.config c.self.inside.rings c.arrive-number.new.self c.args.bytes.now
      c.args.placing.place c.args.placing.summary
      (subst (λ (s : ServerValue). IsPlaced s.config c.args.bytes.now c.args.placing.place c.args.placing.summary)
      (sym c.self.view_is) c.requires)
      c.codes_are_distinct.ensures c.arrive-number.ensures.holds c.self.invariant.5,
  c.self.invariant.6,
)

pub returns-clause-marks : goal.returns-clause-marks
returns-clause-marks c =
    subst (λ s. MarksThose c.args.placing.place s
    (serving-with c.self.inside.config c.arrive-number.new.self c.self.inside.clients c.arrived.new.self))
    c.self.view_is
    (marks-those c.self.inside.config c.self.inside.rings c.arrive-number.new.self c.self.inside.clients
    c.self.inside.marks c.arrived.new.self c.args.placing.place c.self.invariant.0 c.self.invariant.3
    (inside c) c.arrived.ensures.marked)

pub returns-clause-kept : goal.returns-clause-kept
returns-clause-kept c = λ k.
    kept-open c.self.inside.config c.self.inside.rings c.arrive-number.new.self c.self.inside.clients
    c.self.inside.marks c.arrived.new.self k
    ∙ ap (λ s. is_some (mark_at s k)) c.self.view_is

pub returns-clause-one_more : goal.returns-clause-one_more
returns-clause-one_more c =
    c.arrive-number.ensures.arrivals ∙ ap (λ (s : ServerValue). s.rings.arrivals + 1) c.self.view_is
