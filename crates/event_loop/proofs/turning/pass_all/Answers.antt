use Rattle.std.proofs.Common.{List, rules, ◌≡◌, ◌<◌, ◌≤◌, ◌∙◌, length, take, drop, subst, sym, arith}
use Rattle.event_loop.specs.Feeding.{feed_tally}
use Rattle.event_loop.specs.declared.seat.Seat.{Seat}
use Rattle.event_loop.specs.Tables.{PassesAll, PassesSoFar}
use Rattle.event_loop.proofs.PassesLemmas.{passes-begin, passes-end, take-past, drop-past}
use Rattle.event_loop.proofs.turning.pass_all.Goals as goal

pub returns-clause-goes : goal.returns-clause-goes
returns-clause-goes g c = λ happenings config w stands.
    let calls = g.P.Ports.calls in
    let ss = c.passes.seats.all.items in
    let past : length ss ≤ c.passes.at = search rules in
    subst (PassesAll c.args.limit config w (calls c.args.ports.now) (calls c.passes.ports) c.passes.server
    (feed_tally happenings c.args.refused.now) (feed_tally happenings c.passes.refused) c.args.seats.now.all.items)
    (take-past ss c.passes.at past)
    (passes-end c.args.limit config w (calls c.args.ports.now) (calls c.passes.ports) c.passes.server
    (feed_tally happenings c.args.refused.now) (feed_tally happenings c.passes.refused) c.args.seats.now.all.items
    (take c.passes.at ss) (drop c.passes.at ss) (drop-past ss c.passes.at past)
    (c.passes.invariant.goes happenings config w stands))

pub passes-preserved : goal.passes-preserved
passes-preserved g c =
    let all = g.P.Ports.calls in
    let seen = c.as_slice-in-passes.ensures.value in
    record {
      kept = c.pass_at-next.ensures.kept;
      limit = c.pass_at-next.ensures.limit ∙ c.passes.invariant.limit;
      goes = λ happenings config w stands.
          subst (λ (xs : List Seat). PassesSoFar c.args.limit config w (all c.args.ports.now)
          (all c.pass_at-next.new.ports) c.pass_at-next.new.server (feed_tally happenings c.args.refused.now)
          (feed_tally happenings c.pass_at-next.new.refused) c.args.seats.now.all.items
          (take c.skip-at-in-passes.result xs) (drop c.skip-at-in-passes.result xs)) seen
          (c.skip-at-in-passes.ensures.goes c.args.limit config w (all c.args.ports.now)
          (all c.pass_at-next.new.ports) (feed_tally happenings c.args.refused.now)
          (feed_tally happenings c.pass_at-next.new.refused) c.args.seats.now.all.items
          (subst (λ (xs : List Seat). PassesSoFar c.args.limit config w (all c.args.ports.now)
          (all c.pass_at-next.new.ports) c.pass_at-next.new.server (feed_tally happenings c.args.refused.now)
          (feed_tally happenings c.pass_at-next.new.refused) c.args.seats.now.all.items
          (take c.pass_at-next.result xs) (drop c.pass_at-next.result xs)) (sym seen)
          (c.pass_at-next.ensures.goes happenings config w (all c.args.ports.now)
          (feed_tally happenings c.args.refused.now) c.args.seats.now.all.items
          (c.passes.invariant.goes happenings config w stands))));
      fits = subst (λ (xs : List Seat). c.skip-at-in-passes.result ≤ length xs) seen c.skip-at-in-passes.ensures.within;
    }
