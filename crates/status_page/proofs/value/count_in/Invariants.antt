use Rattle.std.proofs.Common.{◌≡◌, ◌≤◌, take}
use Rattle.std.specs.Prelude.{count_by}
use Rattle.status_page.specs.Values.{is_in, state_of}
use Rattle.status_page.proofs.value.count_in.Given as goal

abbrev pub invariant-loop-station : goal.invariant-loop-station
invariant-loop-station l = record {
  counted : l.count ≡ count_by (λ s. is_in l.state (state_of s)) (take l.station-index l.stations);
  few : l.count ≤ l.station-index;
}
