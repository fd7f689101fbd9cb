use Rattle.std.proofs.Common.{◌≡◌, ◌∙◌, ap, refl, sym, not, false, []}
use Rattle.protocol.specs.Client.{Client, is_nothing, offered}
use Rattle.protocol.proofs.FoundLemmas.{both}
use Rattle.session_state.specs.Choices.{chosen_of}
use Rattle.session_state.specs.Sessions.{SessionValue, client_in}
use Rattle.session_state.specs.declared.session.State.TheVariants.{Transfer}
use Rattle.transfer.specs.Cursors.{ArePassed, OfAll}
use Rattle.transfer.specs.Sleeping.{HasNothing, Sleeps}
use Rattle.transfer.proofs.StartLemmas.{client-same}
use Rattle.transfer.proofs.PassedLemmas.{passed-all, same-passes}
use Rattle.transfer.proofs.SleepLemmas.{all-reached, offers-end, offers-nothing, offers-packet, sleeps-so}
use Rattle.transfer.proofs.choosing.finds.Goals as goal

pub returns-in-Some-clause-answer : goal.returns-in-Some-clause-answer
returns-in-Some-clause-answer c = λ transfers passed config h holds.
    let is_next = c.in-Some.ensures.position
    (passed-all c.args.rings.now c.args.session.now passed c.in-Transfer.next (sym c.in-Transfer.ensures)) config h
    holds in
    ap not (sym (offers-packet config h c.found_next.new.session c.in-Transfer.next c.in-Some._found.held.now.stamp
    (ap (λ (s : SessionValue). s.state) c.found_next.ensures.same ∙ sym c.in-Transfer.ensures)
    (ap (λ (s : SessionValue). s.waiting) c.found_next.ensures.same ∙ c.requires) (sym is_next)))
    ∙ ap (λ (x : Client). not (is_nothing (offered h x).waiting))
    (client-same config h c.found_next.new.session c.args.session.now c.found_next.ensures.same)

pub returns-in-Some-clause-passed : goal.returns-in-Some-clause-passed
returns-in-Some-clause-passed c = λ passed.
    let rests = c.found_next.ensures.rest
    (passed-all c.args.rings.now c.args.session.now passed c.in-Transfer.next (sym c.in-Transfer.ensures)) in
    same-passes c.args.rings.now c.found_next.new.session c.in-Transfer.next
    (ap (λ (s : SessionValue). s.state) c.found_next.ensures.same ∙ sym c.in-Transfer.ensures)
    c.found_next.ensures.looked rests

pub returns-in-None-clause-passed : goal.returns-in-None-clause-passed
returns-in-None-clause-passed c = λ passed.
    let rests = c.found_next.ensures.rest
    (passed-all c.args.rings.now c.args.session.now passed c.in-Transfer.next (sym c.in-Transfer.ensures)) in
    same-passes c.args.rings.now c.found_next.new.session c.in-Transfer.next
    (ap (λ (s : SessionValue). s.state) c.found_next.ensures.same ∙ sym c.in-Transfer.ensures)
    c.found_next.ensures.looked rests

-- What is found nowhere: nothing of any station, which all were passed.
nothing : (c : goal.After-is_complete) → ArePassed c.args.rings.now c.args.session.now
    → OfAll (HasNothing c.args.rings.now c.in-Transfer.next) (chosen_of c.found_next.new.session.mode)
nothing c passed =
    c.in-None.ensures.none
    (passed-all c.args.rings.now c.args.session.now passed c.in-Transfer.next (sym c.in-Transfer.ensures)) refl

transferring : (c : goal.After-is_complete) → c.found_next.new.session.state ≡ Transfer c.in-Transfer.next
transferring c = ap (λ (s : SessionValue). s.state) c.found_next.ensures.same ∙ sym c.in-Transfer.ensures

waitless : (c : goal.After-is_complete) → c.found_next.new.session.waiting ≡ []
waitless c = ap (λ (s : SessionValue). s.waiting) c.found_next.ensures.same ∙ c.requires

sleeps : (c : goal.After-is_complete) → ArePassed c.args.rings.now c.args.session.now → c.is_complete.result ≡ false
    → Sleeps c.args.rings.now c.found_next.new.session
sleeps c passed not_all =
    let rests = c.found_next.ensures.rest
    (passed-all c.args.rings.now c.args.session.now passed c.in-Transfer.next (sym c.in-Transfer.ensures)) in
    let reached = all-reached c.args.rings.now c.in-Transfer.next _ (nothing c passed) in
    sleeps-so c.args.rings.now c.found_next.new.session c.in-Transfer.next (transferring c) (waitless c)
    (nothing c passed)
    (c.is_complete.ensures.more _ (sym c.choices.ensures) c.in-Transfer.next rests reached not_all)

pub returns-in-None-clause-sleeps : goal.returns-in-None-clause-sleeps
returns-in-None-clause-sleeps c = λ transfers passed not_all. sleeps c passed not_all

pub returns-in-None-clause-answer : goal.returns-in-None-clause-answer
returns-in-None-clause-answer c = λ transfers passed config h holds.
    let a = c.found_next.new.session in
    let q = c.in-Transfer.next in
    let rests = c.found_next.ensures.rest
    (passed-all c.args.rings.now c.args.session.now passed q (sym c.in-Transfer.ensures)) in
    let reached = all-reached c.args.rings.now q _ (nothing c passed) in
    let none = c.in-None.ensures.position
    (passed-all c.args.rings.now c.args.session.now passed q (sym c.in-Transfer.ensures)) config h holds in
    let over = c.is_complete.ensures.complete _ (sym c.choices.ensures) q rests reached config h holds in
    let here : c.is_complete.result ≡ not (is_nothing (offered h (client_in config h a)).waiting) =
    both c.is_complete.result
    (λ y. y ∙ ap not (sym (offers-end config h a q (transferring c) (waitless c) (sym none) (sym over ∙ y))))
    (λ x. x ∙ ap not (sym (offers-nothing config h c.args.rings.now a q (sleeps c passed x) (transferring c) holds))) in
    here ∙ ap (λ (x : Client). not (is_nothing (offered h x).waiting))
    (client-same config h a c.args.session.now c.found_next.ensures.same)
