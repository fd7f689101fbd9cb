use Rattle.std.proofs.Common.{◌∙◌, ap, sym}
use Rattle.protocol.specs.Client.{offered}
use Rattle.session_state.specs.Sessions.{SessionValue}
use Rattle.transfer.specs.Choosing.{is_transfer}
use Rattle.transfer.proofs.StartLemmas.{client-same}
use Rattle.transfer.proofs.SleepLemmas.{sleeps-idle}
use Rattle.server_core.proofs.MarkLemmas.{listing-ready, listing-spared}
use Rattle.server_core.proofs.slots.is_ready.Goals as goal

pub returns-in-Listing-clause-answer : goal.returns-in-Listing-clause-answer
returns-in-Listing-clause-answer c = λ config h settled holds.
    listing-ready config h c.args.session.now c.in-Listing.field-0 c.has_line.result (sym c.in-Listing.ensures)
    (sym c.if-not-is_empty.ensures)
    (c.has_line.ensures.line config c.in-Listing.field-0 (sym c.in-Listing.ensures))

pub returns-in-Listing-clause-spared : goal.returns-in-Listing-clause-spared
returns-in-Listing-clause-spared c = λ config h settled holds not-ready.
    listing-spared config h c.args.session.now c.in-Listing.field-0 (sym c.in-Listing.ensures)
    (sym c.if-not-is_empty.ensures)
    (sym not-ready ∙ c.has_line.ensures.line config c.in-Listing.field-0 (sym c.in-Listing.ensures))

pub returns-in-Transfer-clause-client : goal.returns-in-Transfer-clause-client
returns-in-Transfer-clause-client c =
    λ config h settled holds. client-same config h c.finds.new.session c.args.session.now c.finds.ensures.same

pub returns-in-Transfer-clause-spared : goal.returns-in-Transfer-clause-spared
returns-in-Transfer-clause-spared c = λ config h settled holds not-ready.
    let same = client-same config h c.finds.new.session c.args.session.now c.finds.ensures.same in
    let sleeps = c.finds.ensures.sleeps (ap is_transfer (sym c.in-Transfer.ensures)) settled.passed not-ready in
    ap (offered h) (sym same)
    ∙ sym
    (sleeps-idle config h c.args.rings.now c.finds.new.session c.in-Transfer.field-0 sleeps
    (ap (λ (s : SessionValue). s.state) c.finds.ensures.same ∙ sym c.in-Transfer.ensures) holds)
    ∙ same
