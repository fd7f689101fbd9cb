use Rattle.transfer.proofs.PassedLemmas.{one-rests}
use Rattle.transfer.proofs.SentLemmas.{sent-rests}
use Rattle.transfer.proofs.choosing.pass_sent.Goals as goal

pub returns-clause-passed : goal.returns-clause-passed
returns-clause-passed c = λ rings from late at rests all.
    let i = c.args.found.index in
    let ring = c.args.found.ring.now in
    let place = c.args.found.place in
    let cursor = c.cursor_after-cursor.result in
    one-rests rings c.args.next i cursor c.args.session.now c.move_cursor.new.self at.choice
    (record {
      same = c.move_cursor.ensures.same;
      here = c.move_cursor.ensures.here;
      others = c.move_cursor.ensures.others;
      count = c.move_cursor.ensures.count;
    }) c.move_cursor.ensures.looked at.at
    (λ passed. sent-rests rings from c.args.next at.stamp at.choice ring place c.args.found.held.now cursor late
    c.requires.sent at.ring_there at.place_is c.requires.there at.ahead (rests i at.choice at.at)
    (λ passing has. c.cursor_after-cursor.ensures at.choice at.at passing has))
    all
