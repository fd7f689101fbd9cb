use Rattle.std.proofs.Common.{◌≡◌, ◌≤◌, ◌<◌, ◌∙◌, ap, arith, length, refl, sym, take}
use Rattle.session_state.specs.Choices.{chosen_of}
use Rattle.session_state.specs.NamedValues.{ahead_of}
use Rattle.transfer.specs.Firsts.{best_of, earlier}
use Rattle.transfer.proofs.BestLemmas.{best-more, best-whole, moves-between, take-alike}
use Rattle.transfer.proofs.EntryLemmas.{choice-there, item-is, same-length}
use Rattle.transfer.proofs.RestLemmas.{moves-all, moves-none, moves-on, passes-from}
use Rattle.transfer.proofs.overview.rest_all.Goals as goal

pub loop-i-init : goal.loop-i-init
loop-i-init c = (
  moves-none _ c.args.session.now,
  refl,
  omega arith,
  omega arith,
  sym (same-length _ _ (sym c.choices-count.ensures)),
  refl,
)

pub look-requires : goal.look-requires
look-requires c =
    let long = same-length (chosen_of c.loop-i.session.mode) c.choices.result.now (sym c.choices.ensures) in
    omega (arith, c.loop-i.invariant.3, c.loop-i.invariant.4, c.loop-i.invariant.0.count, long)

pub returns-in-Fresh-clause-same : goal.returns-in-Fresh-clause-same
returns-in-Fresh-clause-same c = c.loop-i.invariant.0.same

pub returns-in-Fresh-clause-rest : goal.returns-in-Fresh-clause-rest
returns-in-Fresh-clause-rest c = λ all j x at.
    let cs = chosen_of c.loop-i.session.mode in
    let over = c.in-Fresh.ensures cs (sym c.choices.ensures) in
    let count : length cs ≡ length (chosen_of c.args.session.now.mode) = c.loop-i.invariant.0.count in
    let moves = moves-between c.args.rings.now c.args.next c.loop-i.from (length cs) c.loop-i.session c.args.session.now
    (omega (arith, c.loop-i.invariant.3, c.loop-i.invariant.4, count)) over.rests c.loop-i.invariant.0 in
    moves-all _ (length cs) c.loop-i.session c.args.session.now (omega (arith, count)) moves j x at all

pub returns-in-Fresh-clause-best : goal.returns-in-Fresh-clause-best
returns-in-Fresh-clause-best c =
    let cs = chosen_of c.loop-i.session.mode in
    (c.in-Fresh.ensures cs (sym c.choices.ensures)).best c.loop-i.invariant.1

pub cursor_of-cursor-requires : goal.cursor_of-cursor-requires
cursor_of-cursor-requires c = (c.in-Stale.ensures (chosen_of c.loop-i.session.mode) (sym c.choices.ensures)).within

pub move_cursor-requires : goal.move_cursor-requires
move_cursor-requires c =
    let within = (c.in-Stale.ensures (chosen_of c.loop-i.session.mode) (sym c.choices.ensures)).within in
    let count : length (chosen_of c.cursor_of-cursor.new.session.mode) ≡ length (chosen_of c.loop-i.session.mode) =
    ap (λ m. length (chosen_of m)) c.cursor_of-cursor.ensures.mode in
    omega (arith, within, count)

pub loop-i-preserved : goal.loop-i-preserved
loop-i-preserved c =
    let cs = chosen_of c.loop-i.session.mode in
    let new = chosen_of c.move_cursor.new.self.mode in
    let index = c.in-Stale.index in
    let cursor = c.cursor_of-cursor.result in
    let over = c.in-Stale.ensures cs (sym c.choices.ensures) in
    let within : index < length cs = over.within in
    let after : c.loop-i.from ≤ index = over.after in
    let count : length cs ≡ length (chosen_of c.args.session.now.mode) = c.loop-i.invariant.0.count in
    let x = choice-there cs index within in
    let moves = moves-between c.args.rings.now c.args.next c.loop-i.from index c.loop-i.session c.args.session.now after
    over.rests c.loop-i.invariant.0 in
    let counted = c.cursor_of-cursor.ensures in
    let passes = passes-from index cursor c.loop-i.session c.cursor_of-cursor.new.session c.move_cursor.new.self
    counted.same counted.mode
    (record {
      same = c.move_cursor.ensures.same;
      here = c.move_cursor.ensures.here;
      others = c.move_cursor.ensures.others;
      count = c.move_cursor.ensures.count;
    }) in
    let longer : length new ≡ length cs = passes.count in
    let alike : take index new ≡ take index cs = take-alike new cs index
    (λ j low. passes.others j (λ e. absurd (omega (arith, e, low)))) in (
      moves-on _ index cursor c.loop-i.session c.move_cursor.new.self c.args.session.now x.0 passes x.1
          (λ all. counted.cursor x.0 x.1 (all index x.0 (sym (moves.rest index (omega arith)) ∙ x.1)))
          moves,
      c.earlier-best.ensures
          ∙ ap (earlier c.in-Stale.before index) c.ahead.ensures
          ∙ ap (λ b. earlier b index (ahead_of cursor)) (over.best c.loop-i.invariant.1 ∙ ap best_of (sym alike))
          ∙ sym
          (best-more new index (record (x.0) { cursor = cursor }) (omega (arith, within, longer))
          (item-is new index _ (passes.here x.0 x.1))),
      omega (arith, after, c.loop-i.invariant.2),
      omega (arith, within, count, c.loop-i.invariant.4),
      c.loop-i.invariant.4,
      c.move_cursor.ensures.packets ∙ counted.packets ∙ c.loop-i.invariant.5,
    )

pub returns-clause-same : goal.returns-clause-same
returns-clause-same c = c.loop-i.invariant.0.same

pub returns-clause-rest : goal.returns-clause-rest
returns-clause-rest c = λ all j x at.
    moves-all _ c.loop-i.from c.loop-i.session c.args.session.now
    (omega (arith, c.loop-i-test.false, c.loop-i.invariant.2, c.loop-i.invariant.4)) c.loop-i.invariant.0 j x at all

pub returns-clause-best : goal.returns-clause-best
returns-clause-best c =
    let cs = chosen_of c.loop-i.session.mode in
    let count : length cs ≡ length (chosen_of c.args.session.now.mode) = c.loop-i.invariant.0.count in
    best-whole cs c.loop-i.from c.loop-i.best
    (omega (arith, c.loop-i-test.false, c.loop-i.invariant.2, c.loop-i.invariant.4, count)) c.loop-i.invariant.1
