use Rattle.std.proofs.Common.{refl, subst, ◌∙◌, ◌≡◌, ◌<◌, arith, add-one}
use Rattle.serving.specs.Timetables.{turns_of}
use Rattle.serving.proofs.RunLemmas.{ran-nothing, ran-on, ran-out, ran-all}
use Rattle.serving.proofs.running.run.Goals as goal

pub going-init : goal.going-init
going-init g c =
    record {
      ran = λ config w stands.
          ran-nothing c.args.timetable config w c.args.server.now (g.B.Between.asked c.args.between.now)
          c.raises-kept.result
          (c.raises-kept.ensures.history config w.history (c.rings.ensures.holds config w stands)) stands;
      few_failures = omega arith;
      counted = omega arith;
      within = omega arith;
      few_clients = λ few. few;
      few_feeds = λ few. few;
      max_clients = refl;
    }

pub going-preserved : goal.going-preserved
going-preserved g c =
    let asked = g.B.Between.asked in
    record {
      ran = λ config w stands.
          ran-on c.args.timetable config w c.args.server.now (asked c.args.between.now)
          c.going.done _ c.going.failures c.one_turn-failed.result c.going.kept c.stop-stopped.result
          c.going.server c.one_turn-failed.new.server c.stop-stopped.new.server
          (asked c.going.between) (asked c.stop-stopped.new.between)
          (add-one c.going.done) (c.going.invariant.ran config w stands)
          c.one_turn-failed.ensures.turn c.stop-stopped.ensures.stops c.if-failed-ge-FAILURES.false
          c.failures_kept-failures.result c.failures_kept-failures.ensures.value;
      few_failures = omega (arith, c.failures_kept-failures.ensures.few, c.if-failed-ge-FAILURES.false);
      counted = omega (
        arith,
        c.failures_kept-failures.ensures.few,
        c.one_turn-failed.ensures.count,
        c.going.invariant.counted,
      );
      within = omega (arith, c.going-test.true);
      few_clients = λ few. rw (c.stop-stopped.ensures.seats, c.stop-stopped.ensures.max_clients)
          c.one_turn-failed.ensures.few_clients;
      few_feeds = λ few. rw c.stop-stopped.ensures.seats c.one_turn-failed.ensures.few_feeds;
      max_clients = c.stop-stopped.ensures.max_clients ∙ c.one_turn-failed.ensures.max_clients
          ∙ c.going.invariant.max_clients;
    }

pub returns-then-failed-ge-FAILURES-clause-gave_up : goal.returns-then-failed-ge-FAILURES-clause-gave_up
returns-then-failed-ge-FAILURES-clause-gave_up g c = λ config w stands.
    let asked = g.B.Between.asked in
    let left : c.going.done < turns_of c.args.timetable =
    subst (λ n. c.going.done < n) c.total-turns.ensures c.going-test.true in
    ran-out c.args.timetable config w c.args.server.now (asked c.args.between.now)
    c.going.done c.going.failures c.one_turn-failed.result c.going.kept
    c.going.server c.one_turn-failed.new.server
    (asked c.going.between) (c.going.invariant.ran config w stands)
    c.one_turn-failed.ensures.turn left c.going.invariant.few_failures c.if-failed-ge-FAILURES.true

pub returns-clause-ran : goal.returns-clause-ran
returns-clause-ran g c = λ config w stands.
    let asked = g.B.Between.asked in
    let all : c.going.done ≡ c.total-turns.result = omega (arith, c.going.invariant.within, c.going-test.false) in
    ran-all c.args.timetable config w c.args.server.now (asked c.args.between.now)
    c.going.done c.going.failures c.going.kept c.going.server
    (asked c.going.between) (c.going.invariant.ran config w stands) (all ∙ c.total-turns.ensures)
