use Rattle.std.proofs.Common.{◌≡◌, ◌+◌, ◌<◌, ◌≤◌, ℕ, length, slice_get, Some, arith, refl, sym, subst}
use Rattle.std.proofs.lemmas.Option.{slice_get_read}
use Rattle.station_ring.specs.Rings.{first_place}
use Rattle.transfer.specs.Cursors.{HasPassed, RestsAt}
use Rattle.transfer.specs.Searches.{at_place}
use Rattle.transfer.proofs.CursorLemmas.{passed-after, passed-unwanted, rests-wanted}
use Rattle.transfer.proofs.searching.pass_briefs.Goals.{in-AfterEnd, in-Unwanted}
use Rattle.transfer.proofs.searching.pass_briefs.Goals as goal

pub returns-in-Wanted-clause-passed : goal.returns-in-Wanted-clause-passed
returns-in-Wanted-clause-passed c = λ streams x at tell is so_far.
    let place : ℕ = c.args.from.place + c.loop-k.k in
    let brief : slice_get c.args.briefs.now c.loop-k.k ≡ Some c.index-briefs-k.result =
    slice_get_read c.args.briefs.now (length c.args.briefs.now) c.loop-k.k c.index-briefs-k.result refl
    c.loop-k-test.true c.index-briefs-k.is in
    let low : first_place c.args.ring.now ≤ place = omega (arith, c.requires.low) in
    let high : place < c.args.ring.now.pushes = omega (arith, c.requires.high, c.loop-k-test.true) in
    subst (RestsAt c.args.ring.now c.args.next x) (sym c.at_record.ensures)
    (rests-wanted c.args.ring.now c.args.next x place c.loop-k.ended c.in-Wanted.stamp c.found_by.result
    c.holds_its_last.ensures low high
    (λ y there. c.found_by.ensures.found streams x y at (c.loop-k.invariant.filter streams x at tell is) there
    (tell.tell c.loop-k.k y c.index-briefs-k.result there brief))
    c.in-Wanted.is (c.loop-k.invariant.passed streams x at tell is so_far))

pub returns-in-Wanted-clause-filter : goal.returns-in-Wanted-clause-filter
returns-in-Wanted-clause-filter c = λ streams x at tell is.
    let brief : slice_get c.args.briefs.now c.loop-k.k ≡ Some c.index-briefs-k.result =
    slice_get_read c.args.briefs.now (length c.args.briefs.now) c.loop-k.k c.index-briefs-k.result refl
    c.loop-k-test.true c.index-briefs-k.is in
    c.found_by.ensures.filter streams x at (λ y there. tell.tell c.loop-k.k y c.index-briefs-k.result there brief)
    (c.loop-k.invariant.filter streams x at tell is)

pub loop-k-preserved : goal.loop-k-preserved
loop-k-preserved c =
    let place : ℕ = c.args.from.place + c.loop-k.k in
    let brief : slice_get c.args.briefs.now c.loop-k.k ≡ Some c.index-briefs-k.result =
    slice_get_read c.args.briefs.now (length c.args.briefs.now) c.loop-k.k c.index-briefs-k.result refl
    c.loop-k-test.true c.index-briefs-k.is in
    let high : place < c.args.ring.now.pushes = omega (arith, c.requires.high, c.loop-k-test.true) in
    let same : place + 1 ≡ c.args.from.place + (c.loop-k.k + 1) = omega arith in
    record {
      passed = λ streams x at tell is so_far.
          elim c.match-found_by.branch [
            | in-AfterEnd w ↦
                subst (λ (o : ℕ). HasPassed c.args.ring.now c.args.next x
                (at_place (c.args.from.place + (c.loop-k.k + 1)) o)) (sym w.ended-is)
                (subst (λ (p : ℕ). HasPassed c.args.ring.now c.args.next x (at_place p (place + 1))) same
                (passed-after c.args.ring.now c.args.next x place c.loop-k.ended c.found_by.result high
                (λ y there. c.found_by.ensures.found streams x y at (c.loop-k.invariant.filter streams x at tell is)
                there (tell.tell c.loop-k.k y c.index-briefs-k.result there brief))
                w.in-AfterEnd.is (c.loop-k.invariant.passed streams x at tell is so_far)))
            | in-Unwanted w ↦
                subst (λ (o : ℕ). HasPassed c.args.ring.now c.args.next x
                (at_place (c.args.from.place + (c.loop-k.k + 1)) o)) (sym w.ended-is)
                (subst (λ (p : ℕ). HasPassed c.args.ring.now c.args.next x (at_place p c.loop-k.ended)) same
                (passed-unwanted c.args.ring.now c.args.next x place c.loop-k.ended c.found_by.result high
                (λ y there. c.found_by.ensures.found streams x y at (c.loop-k.invariant.filter streams x at tell is)
                there (tell.tell c.loop-k.k y c.index-briefs-k.result there brief))
                w.in-Unwanted.is (c.loop-k.invariant.passed streams x at tell is so_far)))
          ];
      filter = λ streams x at tell is.
          c.found_by.ensures.filter streams x at
          (λ y there. tell.tell c.loop-k.k y c.index-briefs-k.result there brief)
          (c.loop-k.invariant.filter streams x at tell is);
    }
