use Rattle.std.proofs.Common.{◌+◌, ◌≡◌, arith, subst, sym}
use Rattle.session_state.specs.Choices.{chosen_of}
use Rattle.transfer.specs.Runs.{IsRun}
use Rattle.transfer.proofs.RunLemmas.{run-more}
use Rattle.transfer.proofs.runs.hand_rest.Goals as goal

pub packets-init : goal.packets-init
packets-init c = record {
  most = omega arith;
  there = c.requires.there;
  run = λ stamp count before run.
      let same : count ≡ count + 0 = omega arith in
      subst (λ n. IsRun c.args.rings.now (chosen_of c.args.session.now.mode) c.args.sent.index c.args.sent.ring.now
      stamp before c.args.sent.place c.args.sent.held.now n c.args.out.now.items) same run;
  left = omega arith;
  room = omega arith;
}

pub packets-preserved : goal.packets-preserved
packets-preserved c =
    let next = c.in-Some.next in
    let handed = c.append_held.new.out in
    let len = c.append_held.ensures.len in
    record {
      most = omega (arith, c.packets-test.true);
      there = c.in-Some.ensures.there;
      run = λ stamp count before run.
          let all : count + c.packets.count + 1 ≡ count + (c.packets.count + 1) = omega arith in
          subst (λ n. IsRun c.args.rings.now (chosen_of c.args.session.now.mode) c.args.sent.index
          c.args.sent.ring.now stamp before (c.packets.place + 1) next.now n handed.items) all
          (run-more c.arrivals_by_place.ensures c.args.rings.now (chosen_of c.args.session.now.mode)
          c.args.sent.index stamp c.packets.place (count + c.packets.count) c.args.sent.ring.now c.packets.held.now
          next.now before c.packets.out.items handed.items (c.packets.invariant.run stamp count before run)
          c.in-Some.ensures.there c.holds_its_last.ensures.some_capacity c.append_held.ensures.size
          c.append_held.ensures.items
          (λ x at passing. c.in-Some.ensures.wanted x (sym (c.choice-entry.ensures x at)) passing)
          c.requires.alone);
      left = omega (arith, len, c.packets.invariant.left);
      room = omega (arith, c.append_held.ensures.room, c.packets.invariant.room);
    }
