use Rattle.std.proofs.Common.{ℕ, ◌∙◌, ◌+◌, ap}
use Rattle.protocol.specs.Packet.{packet}
use Rattle.session_state.specs.declared.session.State.TheVariants.{Transfer}
use Rattle.session_state.specs.Sessions.{SessionValue, but_for_cursors}
use Rattle.transfer.proofs.PassedLemmas.{waiting-passes}
use Rattle.transfer.proofs.choosing.send.Goals as goal

pub returns-clause-session : goal.returns-clause-session
returns-clause-session c =
    let bytes = c.args.found.held.now.bytes in
    ap but_for_cursors c.put_packet.ensures
    ∙ ap (λ (s : SessionValue). record s { waiting = packet c.go_past-number.result bytes })
    c.go_past-number.ensures.session
    ∙ ap (λ (number : ℕ). but_for_cursors (record (c.args.session.now) {
      state = Transfer (c.args.found.held.now.stamp + 1);
      waiting = packet number bytes;
    })) c.go_past-number.ensures.number

pub returns-clause-passed : goal.returns-clause-passed
returns-clause-passed c = λ next late kept rests.
    waiting-passes c.args.rings.now c.go_past-number.new.session c.put_packet.new.self _ c.put_packet.ensures
    (c.go_past-number.ensures.passed next late kept rests)
