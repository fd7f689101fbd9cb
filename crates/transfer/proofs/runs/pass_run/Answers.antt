use Rattle.std.proofs.Common.{◌≡◌, ◌∙◌, ◌+◌, Some, ap, arith, slice_get, subst, sym}
use Rattle.session_state.specs.Choices.{chosen_of}
use Rattle.session_state.specs.Sessions.{SessionValue, but_for_cursors}
use Rattle.transfer.specs.Cursors.{HasPassedAll}
use Rattle.transfer.proofs.PassedLemmas.{one-passes, one-rests, packet-passes, same-next}
use Rattle.transfer.proofs.RestLemmas.{rests-moved, rests-ring}
use Rattle.transfer.proofs.runs.pass_run.Goals as goal

pub overflow_add-next : goal.overflow_add-next
overflow_add-next c =
    omega (arith, c.requires.there.before, c.arrivals-arrivals.ensures.value, c.arrivals-arrivals.type_inv)

pub returns-clause-session : goal.returns-clause-session
returns-clause-session c = c.move_cursor.ensures.same ∙ ap but_for_cursors c.choose_from.ensures

pub returns-clause-passed : goal.returns-clause-passed
returns-clause-passed c = λ q late kept rests sent.
    let rings = c.args.rings.now in
    let i = c.args.last.index in
    let ring = c.args.last.ring.now in
    let stamp = c.args.last.held.now.stamp in
    let put = c.choose_from.new.self in
    let after = c.move_cursor.new.self in
    let cursor = c.cursor_after-cursor.result in
    let at : slice_get (chosen_of put.mode) i ≡ Some sent.choice =
    ap (λ (s : SessionValue). slice_get (chosen_of s.mode) i) c.choose_from.ensures ∙ sent.at in
    one-passes rings put after c.move_cursor.ensures.same
    (λ next state all.
    let same = same-next (stamp + 1) next (sym (ap (λ (s : SessionValue). s.state) c.choose_from.ensures) ∙ state) in
    subst (λ k. HasPassedAll rings k after) same
    (one-rests rings (stamp + 1) i cursor put after sent.choice
    (record {
      same = c.move_cursor.ensures.same;
      here = c.move_cursor.ensures.here;
      others = c.move_cursor.ensures.others;
      count = c.move_cursor.ensures.count;
    }) c.move_cursor.ensures.looked at
    (λ passed. rests-ring rings (stamp + 1) (record sent.choice { cursor = cursor }) ring sent.action sent.asked
    sent.ring_there
    (rests-moved ring (stamp + 1) sent.choice cursor
    (c.cursor_after-cursor.ensures sent.choice at sent.is_passing sent.passed)))
    (subst (λ k. HasPassedAll rings k put) (sym same) all)))
    (packet-passes rings c.args.session.now put q stamp c.args.session.now.waiting c.choose_from.ensures late kept
    rests)
