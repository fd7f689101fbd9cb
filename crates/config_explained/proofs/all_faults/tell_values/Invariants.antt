use Rattle.std.proofs.Common.{◌≡◌, ◌++◌, [], map}
use Rattle.toml.specs.View.{view}
use Rattle.catalog.specs.Groups.{groups_value}
use Rattle.config_explained.specs.AllFaults.{found_fault, values_faults}
use Rattle.config_explained.proofs.FaultLemmas.{values_left}
use Rattle.config_explained.proofs.all_faults.tell_values.Given as goal

abbrev pub invariant-loop-place : goal.invariant-loop-place
invariant-loop-place l =
    map found_fault l.fn.faults.items ++ values_faults (groups_value l.groups) [] 0 (map view l.values)
    ≡ map found_fault l.faults.items ++ values_left (groups_value l.groups) (map view l.values) l.place
