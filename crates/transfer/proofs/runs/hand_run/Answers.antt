use Rattle.std.proofs.Common.{◌+◌, ◌≡◌, arith, subst}
use Rattle.session_state.specs.Choices.{chosen_of}
use Rattle.transfer.specs.Runs.{IsRun}
use Rattle.transfer.proofs.RunLemmas.{run-first}
use Rattle.transfer.proofs.runs.hand_run.Goals as goal

pub returns-then-not-goes_on-clause-run : goal.returns-then-not-goes_on-clause-run
returns-then-not-goes_on-clause-run c =
    run-first c.arrivals_by_place.ensures c.args.rings.now (chosen_of c.args.session.now.mode) c.args.found.index
    c.args.found.place c.args.found.ring.now c.args.found.held.now c.args.out.now.items c.append_held.new.out.items
    c.requires.cursor c.requires.there c.holds_its_last.ensures.some_capacity c.append_held.ensures.size
    c.append_held.ensures.items

pub returns-clause-run : goal.returns-clause-run
returns-clause-run c =
    let rest = c.hand_rest-rest in
    let all : 1 + rest.result.count ≡ rest.result.count + 1 = omega arith in
    subst (λ n. IsRun c.args.rings.now (chosen_of c.args.session.now.mode) rest.result.last.index
    rest.result.last.ring.now c.args.found.held.now.stamp c.args.out.now.items rest.result.last.place
    rest.result.last.held.now n rest.new.out.items) all
    (rest.ensures.run c.args.found.held.now.stamp 1 c.args.out.now.items
    (run-first c.arrivals_by_place.ensures c.args.rings.now (chosen_of c.args.session.now.mode) c.args.found.index
    c.args.found.place c.args.found.ring.now c.args.found.held.now c.args.out.now.items c.append_held.new.out.items
    c.requires.cursor c.requires.there c.holds_its_last.ensures.some_capacity c.append_held.ensures.size
    c.append_held.ensures.items))
