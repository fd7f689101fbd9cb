use Rattle.std.proofs.Common.{◌≡◌, ◌∙◌, ℕ, Some, ap}
use Rattle.session_state.specs.Choices.{chosen_of}
use Rattle.session_state.specs.Sessions.{SessionValue}
use Rattle.transfer.proofs.AloneLemmas.{caught-up}
use Rattle.transfer.proofs.EntryLemmas.{choice-there}
use Rattle.transfer.proofs.RestLemmas.{passes-from}
use Rattle.transfer.proofs.overview.catch_up.Goals as goal

-- a session that has looked at so many arrivals
looked-at : SessionValue → ℕ → SessionValue
looked-at s n = record s { looked = Some n }

pub returns-in-Some-clause-passed : goal.returns-in-Some-clause-passed
unfolding looked-at
returns-in-Some-clause-passed c = λ all.
    let i = c.in-Some.index in
    let x = choice-there (chosen_of c.args.session.now.mode) i c.in-Some.ensures.index in
    let made : c.keep_look.new.self ≡ looked-at c.move_cursor.new.self c.args.rings.now.arrivals =
    c.keep_look.ensures ∙ ap (looked-at c.move_cursor.new.self) c.arrivals-in-Some.ensures.value in
    let counted = c.cursor_of-cursor.ensures in
    caught-up c.args.rings.now c.args.next i c.cursor_of-cursor.result c.args.session.now c.move_cursor.new.self
    c.keep_look.new.self x.0
    (passes-from i c.cursor_of-cursor.result c.args.session.now c.cursor_of-cursor.new.session c.move_cursor.new.self
    counted.same counted.mode
    (record {
      same = c.move_cursor.ensures.same;
      here = c.move_cursor.ensures.here;
      others = c.move_cursor.ensures.others;
      count = c.move_cursor.ensures.count;
    }))
    (c.move_cursor.ensures.looked ∙ counted.looked) made x.1 (counted.cursor x.0 x.1)
    (c.in-Some.ensures.others c.args.next all) all
