use Rattle.std.proofs.Common.{◌≡◌, ◌∙◌, ◌+◌, None, ap, arith, refl, sym, subst, filter_map}
use Rattle.std.specs.List.{list_all}
use Rattle.protocol.specs.History.{is_over, next}
use Rattle.protocol.specs.Client.{offered}
use Rattle.session_state.specs.declared.session.State.TheVariants.{Transfer}
use Rattle.session_state.specs.Choices.{chosen_of, request_in}
use Rattle.session_state.specs.Sessions.{SessionValue, but_for_cursors, sent_at}
use Rattle.transfer.proofs.EntryLemmas.{counts-same}
use Rattle.transfer.specs.Choosing.{answer_of}
use Rattle.transfer.specs.Runs.{AreHanded}
use Rattle.transfer.proofs.StartLemmas.{client-same, requests-same}
use Rattle.transfer.proofs.PassedLemmas.{ended-passes, ended-reached, passed-all, same-next}
use Rattle.transfer.proofs.ChooseLemmas.{leads-on}
use Rattle.transfer.specs.Sleeping.{Sleeps}
use Rattle.transfer.proofs.SleepLemmas.{all-reached, sleeps-so}
use Rattle.transfer.proofs.handing.choose_into.Goals as goal

pub returns-in-Some-clause-handed : goal.returns-in-Some-clause-handed
returns-in-Some-clause-handed c = λ transfers passed h holds chosen.
    let rings = c.args.rings.now in
    let s = c.args.session.now in
    let last = c.hand_run-run.result.last in
    let before = passed-all rings s passed c.in-Transfer.next (sym c.in-Transfer.ensures) in
    let handed = c.hand_run-run.ensures.run.handed c.in-Transfer.next (c.in-Some.ensures.late before)
    (c.found_next.ensures.rest before) c.args.config.now h holds c.codes_are_distinct.ensures
    (c.in-Some.ensures.position before c.args.config.now h holds) s (sym c.in-Transfer.ensures) c.requires.nothing
    (sym (requests-same c.args.config.now c.found_next.new.session s c.found_next.ensures.same)) in
    subst (λ t. AreHanded c.args.config.now h s c.args.out.now.items t c.hand_run-run.result.count
    c.hand_run-run.new.out.items)
    (sym (ap (λ (n : SessionValue). n.state) c.pass_run.ensures.session)) handed

pub returns-in-Some-clause-same : goal.returns-in-Some-clause-same
returns-in-Some-clause-same c = λ chosen.
    c.pass_run.ensures.session
    ∙ ap (λ (s : SessionValue). record s { state = Transfer (c.hand_run-run.result.last.held.now.stamp + 1) })
    c.found_next.ensures.same
    ∙ ap (λ t. but_for_cursors (record (c.args.session.now) { state = t }))
    (sym (ap (λ (s : SessionValue). s.state) c.pass_run.ensures.session))

pub returns-in-Some-clause-counted : goal.returns-in-Some-clause-counted
returns-in-Some-clause-counted c = λ sent.
    let count = counts-same c.found_next.new.session c.args.session.now c.found_next.ensures.same in
    let last = c.hand_run-run.result.last in
    record {
      index = last.index;
      within = omega (arith, c.hand_run-run.ensures.index, c.in-Some.ensures.index, count);
      sent = c.pass_run.ensures.packets
          ∙ ap (sent_at last.index c.hand_run-run.result.count) c.found_next.ensures.packets;
    }

pub returns-in-Some-clause-answer : goal.returns-in-Some-clause-answer
returns-in-Some-clause-answer c = λ h q holds state passed.
    let same : c.in-Transfer.next ≡ q = same-next c.in-Transfer.next q (c.in-Transfer.ensures ∙ state) in
    let before = passed-all c.args.rings.now c.args.session.now passed c.in-Transfer.next (sym c.in-Transfer.ensures) in
    ap
    (λ o. answer_of o
    (list_all (is_over h) (filter_map (request_in c.args.config.now) (chosen_of c.args.session.now.mode))))
    (c.in-Some.ensures.position before c.args.config.now h holds
    ∙ ap (λ rs. next h rs c.in-Transfer.next)
    (requests-same c.args.config.now c.found_next.new.session c.args.session.now c.found_next.ensures.same)
    ∙ ap (next h (filter_map (request_in c.args.config.now) (chosen_of c.args.session.now.mode))) same)

pub returns-in-Some-clause-passed : goal.returns-in-Some-clause-passed
returns-in-Some-clause-passed c = λ passed.
    let before = passed-all c.args.rings.now c.args.session.now passed c.in-Transfer.next (sym c.in-Transfer.ensures) in
    let rests = c.found_next.ensures.rest before in
    let low = c.in-Some.ensures.late before in
    let run = c.hand_run-run.ensures.run in
    let late = run.late c.in-Transfer.next low rests in
    c.pass_run.ensures.passed c.in-Transfer.next (omega (arith, low, late)) c.found_next.ensures.looked rests
    (run.sent c.in-Transfer.next low rests)

pub returns-in-None-clause-client : goal.returns-in-None-clause-client
returns-in-None-clause-client c = λ transfers passed h holds other.
    let before = passed-all c.args.rings.now c.args.session.now passed c.in-Transfer.next (sym c.in-Transfer.ensures) in
    let rests = c.found_next.ensures.rest before in
    let reached = all-reached c.args.rings.now c.in-Transfer.next _ (c.in-None.ensures.none before refl) in
    leads-on c.args.config.now h c.found_next.new.session c.end_if_complete.new.session c.in-Transfer.next
    c.end_if_complete.result
    (ap (λ (s : SessionValue). s.state) c.found_next.ensures.same ∙ sym c.in-Transfer.ensures)
    (ap (λ (s : SessionValue). s.waiting) c.found_next.ensures.same ∙ c.requires.nothing)
    (c.in-None.ensures.position before c.args.config.now h holds)
    (c.end_if_complete.ensures.complete c.in-Transfer.next rests reached c.args.config.now h holds)
    c.end_if_complete.ensures.ended c.end_if_complete.ensures.unchanged
    ∙ ap (offered h)
    (client-same c.args.config.now h c.found_next.new.session c.args.session.now c.found_next.ensures.same)

pub returns-in-None-clause-answer : goal.returns-in-None-clause-answer
returns-in-None-clause-answer c = λ h q holds state passed.
    let same : c.in-Transfer.next ≡ q = same-next c.in-Transfer.next q (c.in-Transfer.ensures ∙ state) in
    let before = passed-all c.args.rings.now c.args.session.now passed c.in-Transfer.next (sym c.in-Transfer.ensures) in
    let rests = c.found_next.ensures.rest before in
    let reached = all-reached c.args.rings.now c.in-Transfer.next _ (c.in-None.ensures.none before refl) in
    let requests = requests-same c.args.config.now c.found_next.new.session c.args.session.now c.found_next.ensures.same
    in
    c.end_if_complete.ensures.complete c.in-Transfer.next rests reached c.args.config.now h holds
    ∙ ap (λ rs. answer_of None (list_all (is_over h) rs)) requests
    ∙ ap
    (λ o. answer_of o
    (list_all (is_over h) (filter_map (request_in c.args.config.now) (chosen_of c.args.session.now.mode))))
    (c.in-None.ensures.position before c.args.config.now h holds
    ∙ ap (λ rs. next h rs c.in-Transfer.next) requests
    ∙ ap (next h (filter_map (request_in c.args.config.now) (chosen_of c.args.session.now.mode))) same)

pub returns-in-None-clause-passed : goal.returns-in-None-clause-passed
returns-in-None-clause-passed c = λ passed.
    let before = passed-all c.args.rings.now c.args.session.now passed c.in-Transfer.next (sym c.in-Transfer.ensures) in
    let rests = c.found_next.ensures.rest before in
    ended-passes c.args.rings.now c.found_next.new.session c.end_if_complete.new.session c.in-Transfer.next
    c.end_if_complete.result c.end_if_complete.ensures.ended c.end_if_complete.ensures.unchanged
    c.end_if_complete.ensures.nothing_chosen
    (ap (λ (s : SessionValue). s.state) c.found_next.ensures.same ∙ sym c.in-Transfer.ensures)
    c.found_next.ensures.looked rests

pub returns-in-None-clause-reached : goal.returns-in-None-clause-reached
returns-in-None-clause-reached c = λ transfers passed nothing.
    let before = passed-all c.args.rings.now c.args.session.now passed c.in-Transfer.next (sym c.in-Transfer.ensures) in
    let rests = c.found_next.ensures.rest before in
    let reached = all-reached c.args.rings.now c.in-Transfer.next _ (c.in-None.ensures.none before refl) in
    ended-reached c.args.rings.now c.found_next.new.session c.end_if_complete.new.session
    (c.end_if_complete.ensures.unchanged nothing) reached

pub returns-in-None-clause-sleeps : goal.returns-in-None-clause-sleeps
returns-in-None-clause-sleeps c = λ transfers passed nothing.
    let before = passed-all c.args.rings.now c.args.session.now passed c.in-Transfer.next (sym c.in-Transfer.ensures) in
    let rests = c.found_next.ensures.rest before in
    let none = c.in-None.ensures.none before refl in
    subst (Sleeps c.args.rings.now) (sym (c.end_if_complete.ensures.unchanged nothing))
    (sleeps-so c.args.rings.now c.found_next.new.session c.in-Transfer.next
    (ap (λ (s : SessionValue). s.state) c.found_next.ensures.same ∙ sym c.in-Transfer.ensures)
    (ap (λ (s : SessionValue). s.waiting) c.found_next.ensures.same ∙ c.requires.nothing) none
    (c.end_if_complete.ensures.more c.in-Transfer.next rests
    (all-reached c.args.rings.now c.in-Transfer.next _ none) nothing))
