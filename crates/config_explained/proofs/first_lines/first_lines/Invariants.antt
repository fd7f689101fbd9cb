use Rattle.std.proofs.Common.{◌≡◌, ◌≤◌, ◌<◌, take}
use Rattle.config_explained.specs.Unknown.{first_lines, line_ends}
use Rattle.config_explained.proofs.first_lines.first_lines.Given as goal

abbrev pub invariant-loop-at : goal.invariant-loop-at
invariant-loop-at l = record {
  lines : take l.length l.text ≡ first_lines 64 (take l.at l.text);
  within : l.length ≤ l.at;
  ends : l.ends ≡ line_ends (take l.at l.text);
  few : l.ends ≤ l.at;
  whole : l.ends < 64 → l.length ≡ l.at;
}
