use Rattle.std.proofs.Common.{rules, ◌≡◌, ◌∙◌, ap, sym, Err, Some, length}
use Rattle.slab.specs.Slab.{get, with_value, Updates}
use Rattle.server_core.specs.Refusals.{receipt, receipt_in}
use Rattle.server_core.specs.ServerValues.{open_client, client_of_open}
use Rattle.server_core.proofs.MarkLemmas.{marked-heard, marked-same}
use Rattle.server_core.proofs.SlotLemmas.{settled-goes, written-same, wrote}
use Rattle.server_core.proofs.slots.receive_in.Goals as goal

pub receive-requires : goal.receive-requires
receive-requires c = c.requires.settled c.args.slot c.in-Some.session.now (sym c.in-Some.ensures.value)

pub heard-requires : goal.heard-requires
heard-requires c = let is = c.requires.marked.held c.args.slot c.in-Some.session.now
    (sym c.in-Some.ensures.value) in is.room

refused-there : (c : goal.After-from_residual) → get c.args.slots.now c.args.slot ≡ Some c.in-Some.session.now
refused-there c = sym c.in-Some.ensures.value

refused-updated : (c : goal.After-from_residual)
    → Updates c.args.slots.now (with_value c.args.slots.now c.args.slot c.receive.new.session) c.args.slot
    (Some c.receive.new.session)
refused-updated c = wrote c.args.slots.now c.args.slot c.in-Some.session.now c.receive.new.session (refused-there c)

pub returns-in_err-settled-in-Some-clause-settled : goal.returns-in_err-settled-in-Some-clause-settled
returns-in_err-settled-in-Some-clause-settled c =
    settled-goes c.args.config.now c.args.rings.now c.args.slots.now
    (with_value c.args.slots.now c.args.slot c.receive.new.session) c.args.slot c.receive.new.session
    c.requires.settled c.receive.ensures.settled (refused-updated c)

pub returns-in_err-settled-in-Some-clause-marked : goal.returns-in_err-settled-in-Some-clause-marked
returns-in_err-settled-in-Some-clause-marked c =
    marked-same c.args.config.now c.args.rings.now c.args.marks.now c.args.slots.now
    (with_value c.args.slots.now c.args.slot c.receive.new.session)
    (written-same c.args.slots.now
    (with_value c.args.slots.now c.args.slot c.receive.new.session) c.args.slot c.in-Some.session.now
    c.receive.new.session (refused-there c) (refused-updated c) c.in_err-settled-in-Some.ensures.refused)
    c.requires.marked

pub returns-in_err-settled-in-Some-clause-answer : goal.returns-in_err-settled-in-Some-clause-answer
returns-in_err-settled-in-Some-clause-answer c = λ h.
    let refused : c.from_residual.result ≡ Err c.in_err-settled-in-Some.field-0.0 = search rules in
    refused ∙ sym (ap receipt_in c.in_err-settled-in-Some.was) ∙ c.receive.ensures.answer h
    ∙ ap (λ o. receipt (length c.args.bytes.now) (client_of_open (open_client c.args.config.now h (Some o))))
    (sym (refused-there c))

there : (c : goal.After-slots-in-Some-1) → get c.args.slots.now c.args.slot ≡ Some c.in-Some.session.now
there c = sym c.in-Some.ensures.value

updated : (c : goal.After-slots-in-Some-1)
    → Updates c.args.slots.now (with_value c.args.slots.now c.args.slot c.receive.new.session) c.args.slot
    (Some c.receive.new.session)
updated c = wrote c.args.slots.now c.args.slot c.in-Some.session.now c.receive.new.session (there c)

pub returns-in_ok-settled-in-Some-clause-settled : goal.returns-in_ok-settled-in-Some-clause-settled
returns-in_ok-settled-in-Some-clause-settled c =
    settled-goes c.args.config.now c.args.rings.now c.args.slots.now
    (with_value c.args.slots.now c.args.slot c.receive.new.session) c.args.slot c.receive.new.session
    c.requires.settled c.receive.ensures.settled (updated c)

pub returns-in_ok-settled-in-Some-clause-marked : goal.returns-in_ok-settled-in-Some-clause-marked
returns-in_ok-settled-in-Some-clause-marked c =
    marked-heard c.args.config.now c.args.rings.now c.args.marks.now c.heard.new.self c.args.slots.now
    (with_value c.args.slots.now c.args.slot c.receive.new.session) c.args.slot c.in-Some.session.now
    c.receive.new.session
    c.requires.marked (there c) (updated c) c.heard.ensures.kept c.in_ok-settled-in-Some.settled
    c.heard.ensures.marked c.heard.ensures.sends c.heard.ensures.rest c.in_ok-settled-in-Some.ensures.kept
    c.heard.ensures.started

pub returns-in_ok-settled-in-Some-clause-answer : goal.returns-in_ok-settled-in-Some-clause-answer
returns-in_ok-settled-in-Some-clause-answer c = λ h.
    sym (ap receipt_in c.in_ok-settled-in-Some.was) ∙ c.receive.ensures.answer h
    ∙ ap (λ o. receipt (length c.args.bytes.now) (client_of_open (open_client c.args.config.now h (Some o))))
    (sym (there c))
