use Rattle.std.proofs.Common.{◌∙◌, ap, sym, refl, subst, List}
use Rattle.protocol.specs.Catalog.{is_same_but_for_access}
use Rattle.server_core.specs.declared.clients.Opened.{Opened}
use Rattle.server_core.specs.Marks.{marks_of}
use Rattle.server_core.specs.Reloads.{AreCurrentIn, AreReviewed}
use Rattle.server_core.specs.ServerValues.{ServerValue}
use Rattle.server_core.proofs.SessionLemmas.{found, with-marks}
use Rattle.server_core.proofs.ReloadLemmas.{marked-under, refused-reload, reload-stands, same_count, settled-under}
use Rattle.server_core.proofs.SlotLemmas.{written-table}
use Rattle.server_core.proofs.CurrentLemmas.{current-after, current-in-slots, history-under}
use Rattle.std.proofs.Common.{length}
use Rattle.server_core.proofs.SlotLemmas.{sessions-counted}
use Rattle.server_core.proofs.server.Server.reload.Goals as goal

pub review_all-requires-clause-settled : goal.review_all-requires-clause-settled
review_all-requires-clause-settled c =
    settled-under c.self.inside.config c.args.config
    (sym c.if-not-is_same_but_for_access.ensures) c.self.inside.rings c.self.inside.clients.slots c.self.invariant.1

pub review_all-requires-clause-marked : goal.review_all-requires-clause-marked
review_all-requires-clause-marked c =
    marked-under c.self.inside.config c.args.config
    (sym c.if-not-is_same_but_for_access.ensures) c.self.inside.rings c.self.inside.marks c.self.inside.clients.slots
    c.self.invariant.3

pub review_all-requires-clause-current : goal.review_all-requires-clause-current
review_all-requires-clause-current c =
    subst (λ (os : List Opened). AreCurrentIn c.self.inside.config os c.self.inside.clients.slots)
    (sym c.as_slice.ensures.value)
    (current-in-slots c.self.inside.config c.self.inside.clients c.self.invariant.0 c.self.invariant.6)

pub invariant_of-self : goal.invariant_of-self
invariant_of-self c =
    let count = sym (same_count c.self.inside.config c.args.config (sym c.if-not-is_same_but_for_access.ensures)) in (
      written-table c.self.inside.clients c.review_all.new.slots c.self.invariant.0 c.review_all.ensures.kept,
      c.review_all.ensures.settled,
      c.self.invariant.2 ∙ count,
      c.review_all.ensures.marked,
      c.review_all.ensures.stations ∙ c.self.invariant.4 ∙ count,
      history-under c.self.inside.config c.args.config c.self.inside.rings
          (sym c.if-not-is_same_but_for_access.ensures) c.self.invariant.5,
      current-after c.args.config c.self.inside.clients c.review_all.new.slots c.self.invariant.0
          c.review_all.ensures.kept
          (subst (λ (os : List Opened). AreReviewed c.args.config os c.self.inside.clients.slots
          c.review_all.new.slots) c.as_slice.ensures.value c.review_all.ensures.each),
    )

pub returns-then-not-is_same_but_for_access-clause-stands : goal.returns-then-not-is_same_but_for_access-clause-stands
returns-then-not-is_same_but_for_access-clause-stands c = λ config w stands.
    refused-reload c.args.self.now c.args.config
    (ap (λ (s : ServerValue). is_same_but_for_access s.config c.args.config) (sym c.self.view_is)
    ∙ sym c.if-not-is_same_but_for_access.ensures) config w stands

pub returns-clause-stands : goal.returns-clause-stands
returns-clause-stands c = λ config w stands.
    let here = found c.self.inside.config c.self.inside.rings c.self.inside.clients c.self.inside.clients
    (marks_of c.self.inside.clients c.self.inside.marks) c.args.self.now config w c.self.view_is refl refl stands in
    with-marks _ (marks_of (record c.self.inside.clients { slots = c.review_all.new.slots }) c.review_all.new.marks) _ _
    (reload-stands c.self.inside.config c.args.config c.self.inside.rings c.self.inside.clients c.review_all.new.slots
    (sym c.if-not-is_same_but_for_access.ensures) c.self.invariant.0 c.review_all.ensures.kept
    (subst (λ (os : List Opened). AreReviewed c.args.config os c.self.inside.clients.slots c.review_all.new.slots)
    c.as_slice.ensures.value c.review_all.ensures.each) config w here)

pub returns-clause-count : goal.returns-clause-count
returns-clause-count c =
    sessions-counted (record c.self.inside.clients { slots = c.review_all.new.slots })
    ∙ sym (sessions-counted c.self.inside.clients) ∙ ap (λ (s : ServerValue). length s.sessions) c.self.view_is
