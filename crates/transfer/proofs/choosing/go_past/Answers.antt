use Rattle.std.proofs.Common.{◌∙◌, ◌+◌, ap, sym, subst, arith}
use Rattle.session_state.specs.Sessions.{SessionValue, but_for_cursors}
use Rattle.session_state.specs.Choices.{chosen_of}
use Rattle.transfer.specs.Choosing.{IsAtCursor}
use Rattle.transfer.specs.Cursors.{HasPassedAll, OfAll, RestsIn}
use Rattle.transfer.proofs.PassedLemmas.{one-passes, packet-passes, same-next}
use Rattle.transfer.proofs.choosing.go_past.Goals as goal

pub overflow_add-next : goal.overflow_add-next
overflow_add-next c =
    omega (arith, c.requires.there.before, c.arrivals-arrivals.ensures.value, c.arrivals-arrivals.type_inv)

pub returns-clause-session : goal.returns-clause-session
returns-clause-session c = c.pass_sent.ensures.same ∙ ap but_for_cursors c.choose_from.ensures

pub returns-clause-passed : goal.returns-clause-passed
returns-clause-passed c = λ next late kept rests.
    let put = c.choose_from.new.self in
    let after = c.pass_sent.new.session in
    let position = c.args.found.held.now.stamp in
    one-passes c.args.rings.now put after c.pass_sent.ensures.same
    (λ q state. subst (λ k. HasPassedAll c.args.rings.now k put → HasPassedAll c.args.rings.now k after)
    (same-next (position + 1) q (sym (ap (λ (s : SessionValue). s.state) c.choose_from.ensures) ∙ state))
    (c.pass_sent.ensures.passed c.args.rings.now next late
    (subst (λ (s : SessionValue). IsAtCursor c.args.rings.now (chosen_of s.mode) c.args.found.index
    c.args.found.ring.now c.args.found.place) (sym c.choose_from.ensures) c.requires.cursor)
    (subst (λ (s : SessionValue). OfAll (RestsIn c.args.rings.now next) (chosen_of s.mode))
    (sym c.choose_from.ensures) rests)))
    (packet-passes c.args.rings.now c.args.session.now put next position c.args.session.now.waiting
    c.choose_from.ensures late kept rests)
