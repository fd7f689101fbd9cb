use Rattle.std.proofs.Common.{◌≡◌, ◌<◌, ◌≤◌, ◌-◌, ℕ, get_or}
use Rattle.config_explained.proofs.place.start_of_line.Given as goal

abbrev pub invariant-loop-i : goal.invariant-loop-i
invariant-loop-i l = record {
  within : l.start ≤ l.i;
  begins : 0 < l.start → get_or l.text (l.start - 1) 0 ≡ 10;
  same_line : (k : ℕ) → l.start ≤ k → k < l.i → get_or l.text k 0 ≡ 10 → ⊥;
}
