use Rattle.std.proofs.Common.{◌<◌, ◌∙◌, arith, length, refl, sym}
use Rattle.session_state.specs.Choices.{chosen_of}
use Rattle.transfer.proofs.StartLemmas.{begins-moved}
use Rattle.transfer.proofs.EntryLemmas.{choice-there, same-length}
use Rattle.transfer.proofs.RestLemmas.{moves-all, moves-none, moves-on}
use Rattle.transfer.proofs.starting.place_cursors.Goals as goal

pub loop-i-init : goal.loop-i-init
loop-i-init c = (
  moves-none _ c.args.session.now,
  omega arith,
  sym (same-length _ _ (sym c.choices-count.ensures)),
  refl,
)

pub choice-requires : goal.choice-requires
choice-requires c = omega (arith, c.loop-i-test.true, c.loop-i.invariant.2, c.loop-i.invariant.0.count)

pub move_cursor-requires : goal.move_cursor-requires
move_cursor-requires c = omega (arith, c.loop-i-test.true, c.loop-i.invariant.2, c.loop-i.invariant.0.count)

pub loop-i-preserved : goal.loop-i-preserved
loop-i-preserved c =
    let within : c.loop-i.i < length (chosen_of c.loop-i.session.mode) = omega (
      arith,
      c.loop-i-test.true,
      c.loop-i.invariant.2,
      c.loop-i.invariant.0.count,
    ) in
    let x = choice-there (chosen_of c.loop-i.session.mode) c.loop-i.i within in
    let entry = sym (c.choice.ensures x.0 x.1) in (
      moves-on _ c.loop-i.i c.cursor_of-cursor.result c.loop-i.session c.move_cursor.new.self c.args.session.now x.0
          (record {
            same = c.move_cursor.ensures.same;
            here = c.move_cursor.ensures.here;
            others = c.move_cursor.ensures.others;
            count = c.move_cursor.ensures.count;
          }) x.1 (
            c.cursor_of-cursor.ensures x.0 entry,
            λ all. begins-moved c.args.rings.now x.0 c.cursor_of-cursor.result
                (all c.loop-i.i x.0 (sym (c.loop-i.invariant.0.rest c.loop-i.i (omega arith)) ∙ x.1)),
          )
          c.loop-i.invariant.0,
      omega (arith, c.loop-i-test.true),
      c.loop-i.invariant.2,
      c.move_cursor.ensures.looked ∙ c.loop-i.invariant.3,
    )

pub returns-clause-same : goal.returns-clause-same
returns-clause-same c = c.loop-i.invariant.0.same

pub returns-clause-starts : goal.returns-clause-starts
returns-clause-starts c = λ j x at.
    (moves-all _ c.loop-i.i c.loop-i.session c.args.session.now
    (omega (arith, c.loop-i-test.false, c.loop-i.invariant.2)) c.loop-i.invariant.0 j x at).0

pub returns-clause-begin : goal.returns-clause-begin
returns-clause-begin c = λ all j x at.
    (moves-all _ c.loop-i.i c.loop-i.session c.args.session.now
    (omega (arith, c.loop-i-test.false, c.loop-i.invariant.2)) c.loop-i.invariant.0 j x at).1 all

pub returns-clause-looked : goal.returns-clause-looked
returns-clause-looked c = c.loop-i.invariant.3
