use Rattle.std.proofs.Common.{◌≡◌, ◌∙◌, None, ap, arith, refl, sym, subst, filter_map}
use Rattle.std.specs.List.{list_all}
use Rattle.protocol.specs.History.{is_over, next}
use Rattle.protocol.specs.Client.{offered}
use Rattle.session_state.specs.Choices.{chosen_of, request_in}
use Rattle.session_state.specs.Sessions.{SessionValue, sent_at}
use Rattle.transfer.proofs.EntryLemmas.{counts-same}
use Rattle.transfer.specs.Choosing.{answer_of}
use Rattle.transfer.proofs.StartLemmas.{client-same, requests-same}
use Rattle.transfer.proofs.PassedLemmas.{ended-passes, ended-reached, passed-all, same-next}
use Rattle.transfer.proofs.ChooseLemmas.{leads-on, packet-offered}
use Rattle.transfer.specs.Sleeping.{Sleeps}
use Rattle.transfer.proofs.SleepLemmas.{all-reached, sleeps-so}
use Rattle.transfer.proofs.choosing.choose.Goals as goal

pub returns-in-Some-clause-client : goal.returns-in-Some-clause-client
returns-in-Some-clause-client c = λ transfers passed h holds.
    let found = c.in-Some.found in
    let before = passed-all c.args.rings.now c.args.session.now passed c.in-Transfer.next (sym c.in-Transfer.ensures) in
    packet-offered c.arrivals_by_place.ensures c.args.config.now h c.args.rings.now c.args.session.now
    c.found_next.new.session c.send.new.session c.in-Transfer.next found.place found.ring.now found.held.now
    c.codes_are_distinct.ensures holds (sym c.in-Transfer.ensures) c.requires c.found_next.ensures.same
    (c.in-Some.ensures.position before c.args.config.now h holds) c.in-Some.ensures.held c.send.ensures.capacity
    c.send.ensures.session

pub returns-in-Some-clause-counted : goal.returns-in-Some-clause-counted
returns-in-Some-clause-counted c = λ sent.
    let count = counts-same c.found_next.new.session c.args.session.now c.found_next.ensures.same in
    record {
      index = c.in-Some.found.index;
      within = omega (arith, c.in-Some.ensures.index, count);
      sent = c.send.ensures.packets ∙ ap (sent_at c.in-Some.found.index 1) c.found_next.ensures.packets;
    }

pub returns-in-Some-clause-answer : goal.returns-in-Some-clause-answer
returns-in-Some-clause-answer c = λ h q holds state passed.
    let same : c.in-Transfer.next ≡ q = same-next c.in-Transfer.next q (c.in-Transfer.ensures ∙ state) in
    let before = passed-all c.args.rings.now c.args.session.now passed c.in-Transfer.next (sym c.in-Transfer.ensures) in
    ap
    (λ o. answer_of o
    (list_all (is_over h) (filter_map (request_in c.args.config.now) (chosen_of c.args.session.now.mode))))
    (c.in-Some.ensures.position before c.args.config.now h holds
    ∙ ap (λ rs. next h rs c.in-Transfer.next)
    (requests-same c.args.config.now c.found_next.new.session c.args.session.now c.found_next.ensures.same)
    ∙ ap (next h (filter_map (request_in c.args.config.now) (chosen_of c.args.session.now.mode))) same)

pub returns-in-Some-clause-passed : goal.returns-in-Some-clause-passed
returns-in-Some-clause-passed c = λ passed.
    let before = passed-all c.args.rings.now c.args.session.now passed c.in-Transfer.next (sym c.in-Transfer.ensures) in
    c.send.ensures.passed c.in-Transfer.next (c.in-Some.ensures.late before) c.found_next.ensures.looked
    (c.found_next.ensures.rest before)

pub returns-in-None-clause-client : goal.returns-in-None-clause-client
returns-in-None-clause-client c = λ transfers passed h holds.
    let before = passed-all c.args.rings.now c.args.session.now passed c.in-Transfer.next (sym c.in-Transfer.ensures) in
    let rests = c.found_next.ensures.rest before in
    let reached = all-reached c.args.rings.now c.in-Transfer.next _ (c.in-None.ensures.none before refl) in
    leads-on c.args.config.now h c.found_next.new.session c.end_if_complete.new.session c.in-Transfer.next
    c.end_if_complete.result
    (ap (λ (s : SessionValue). s.state) c.found_next.ensures.same ∙ sym c.in-Transfer.ensures)
    (ap (λ (s : SessionValue). s.waiting) c.found_next.ensures.same ∙ c.requires)
    (c.in-None.ensures.position before c.args.config.now h holds)
    (c.end_if_complete.ensures.complete c.in-Transfer.next rests reached c.args.config.now h holds)
    c.end_if_complete.ensures.ended c.end_if_complete.ensures.unchanged
    ∙ ap (offered h)
    (client-same c.args.config.now h c.found_next.new.session c.args.session.now c.found_next.ensures.same)

pub returns-in-None-clause-answer : goal.returns-in-None-clause-answer
returns-in-None-clause-answer c = λ h q holds state passed.
    let same : c.in-Transfer.next ≡ q = same-next c.in-Transfer.next q (c.in-Transfer.ensures ∙ state) in
    let before = passed-all c.args.rings.now c.args.session.now passed c.in-Transfer.next (sym c.in-Transfer.ensures) in
    let rests = c.found_next.ensures.rest before in
    let reached = all-reached c.args.rings.now c.in-Transfer.next _ (c.in-None.ensures.none before refl) in
    let requests = requests-same c.args.config.now c.found_next.new.session c.args.session.now c.found_next.ensures.same
    in
    c.end_if_complete.ensures.complete c.in-Transfer.next rests reached c.args.config.now h holds
    ∙ ap (λ rs. answer_of None (list_all (is_over h) rs)) requests
    ∙ ap
    (λ o. answer_of o
    (list_all (is_over h) (filter_map (request_in c.args.config.now) (chosen_of c.args.session.now.mode))))
    (c.in-None.ensures.position before c.args.config.now h holds
    ∙ ap (λ rs. next h rs c.in-Transfer.next) requests
    ∙ ap (next h (filter_map (request_in c.args.config.now) (chosen_of c.args.session.now.mode))) same)

pub returns-in-None-clause-passed : goal.returns-in-None-clause-passed
returns-in-None-clause-passed c = λ passed.
    let before = passed-all c.args.rings.now c.args.session.now passed c.in-Transfer.next (sym c.in-Transfer.ensures) in
    let rests = c.found_next.ensures.rest before in
    ended-passes c.args.rings.now c.found_next.new.session c.end_if_complete.new.session c.in-Transfer.next
    c.end_if_complete.result c.end_if_complete.ensures.ended c.end_if_complete.ensures.unchanged
    c.end_if_complete.ensures.nothing_chosen
    (ap (λ (s : SessionValue). s.state) c.found_next.ensures.same ∙ sym c.in-Transfer.ensures)
    c.found_next.ensures.looked rests

pub returns-in-None-clause-reached : goal.returns-in-None-clause-reached
returns-in-None-clause-reached c = λ transfers passed nothing.
    let before = passed-all c.args.rings.now c.args.session.now passed c.in-Transfer.next (sym c.in-Transfer.ensures) in
    let rests = c.found_next.ensures.rest before in
    let reached = all-reached c.args.rings.now c.in-Transfer.next _ (c.in-None.ensures.none before refl) in
    ended-reached c.args.rings.now c.found_next.new.session c.end_if_complete.new.session
    (c.end_if_complete.ensures.unchanged nothing) reached

pub returns-in-None-clause-sleeps : goal.returns-in-None-clause-sleeps
returns-in-None-clause-sleeps c = λ transfers passed nothing.
    let before = passed-all c.args.rings.now c.args.session.now passed c.in-Transfer.next (sym c.in-Transfer.ensures) in
    let rests = c.found_next.ensures.rest before in
    let none = c.in-None.ensures.none before refl in
    subst (Sleeps c.args.rings.now) (sym (c.end_if_complete.ensures.unchanged nothing))
    (sleeps-so c.args.rings.now c.found_next.new.session c.in-Transfer.next
    (ap (λ (s : SessionValue). s.state) c.found_next.ensures.same ∙ sym c.in-Transfer.ensures)
    (ap (λ (s : SessionValue). s.waiting) c.found_next.ensures.same ∙ c.requires) none
    (c.end_if_complete.ensures.more c.in-Transfer.next rests
    (all-reached c.args.rings.now c.in-Transfer.next _ none) nothing))
