use Rattle.std.proofs.Common.{◌≤◌, ◌≡◌, ◌+◌, ◌*◌, ◌-◌, ℕ, List, vec_capacity, vec_len}
use Rattle.session_state.specs.Choices.{chosen_of}
use Rattle.transfer.specs.Choosing.{HoldsThere}
use Rattle.transfer.specs.Runs.{IsRun}
use Rattle.transfer.proofs.runs.hand_rest.Given as goal

abbrev pub invariant-packets : goal.invariant-packets
invariant-packets l = record {
  most : l.count ≤ l.most;
  there : HoldsThere l.rings l.sent.ring.now l.place l.held;
  run : (stamp count : ℕ) (before : List ℕ) → IsRun l.rings (chosen_of l.session.mode) l.sent.index l.sent.ring.now
      stamp before l.sent.place l.sent.held.now count l.fn.out.items →
      IsRun l.rings (chosen_of l.session.mode) l.sent.index l.sent.ring.now stamp before l.place l.held
      (count + l.count) l.out.items;
  left : vec_len l.out ≡ vec_len l.fn.out + l.count * 520;
  room : vec_capacity l.fn.out ≤ vec_capacity l.out;
}

abbrev pub decreases-packets : goal.decreases-packets
decreases-packets l = l.most - l.count
