use Rattle.std.proofs.Common.{ap, sym}
use Rattle.transfer.specs.Choosing.{is_transfer}
use Rattle.session_state.proofs.LineLemmas.{no_bytes}
use Rattle.server_core.proofs.MarkLemmas.{listing-idle}
use Rattle.server_core.proofs.slots.fill.Goals as goal

pub returns-in-Transfer-clause-client : goal.returns-in-Transfer-clause-client
returns-in-Transfer-clause-client c =
    λ h holds. c.choose-chosen.ensures.client (ap is_transfer (sym c.in-Transfer.ensures)) c.requires.passed h holds

pub returns-in-Listing-clause-idle : goal.returns-in-Listing-clause-idle
returns-in-Listing-clause-idle c = λ nothing goes.
    listing-idle c.args.config.now c.args.rings.now c.args.session.now c.next_line.new.self c.in-Listing.field-0
    (sym c.in-Listing.ensures)
    (no_bytes c.args.session.now.waiting (sym c.if-not-is_empty.ensures))
    (c.next_line.ensures.line c.in-Listing.field-0 (sym c.in-Listing.ensures)) nothing
