use Rattle.std.proofs.Common.{◌≡◌, ◌≤◌, ◌<◌, ◌-◌, ℕ, false}
use Rattle.server_core.specs.Rows.{bit_of}
use Rattle.server_core.proofs.marks.BitRow.next_set.Given as goal

abbrev pub invariant-groups : goal.invariant-groups
invariant-groups l = record {
  after : l.from ≤ l.at;
  passed : (slot : ℕ) → l.from ≤ slot → slot < l.at → bit_of l.self slot ≡ false;
}

abbrev pub decreases-groups : goal.decreases-groups
decreases-groups l = l.end - l.at
