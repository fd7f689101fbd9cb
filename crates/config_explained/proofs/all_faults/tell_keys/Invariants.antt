use Rattle.std.proofs.Common.{◌≡◌, ◌++◌, drop, flat_map, map}
use Rattle.toml.specs.View.{table_view}
use Rattle.catalog.specs.Groups.{groups_value}
use Rattle.config_explained.specs.AllFaults.{found_fault, key_told}
use Rattle.config_explained.proofs.all_faults.tell_keys.Given as goal

abbrev pub invariant-loop-step : goal.invariant-loop-step
invariant-loop-step l =
    map found_fault l.fn.faults.items
    ++ flat_map (key_told (groups_value l.groups) l.place (table_view l.table)) l.steps
    ≡ map found_fault l.faults.items
    ++ flat_map (key_told (groups_value l.groups) l.place (table_view l.table)) (drop l.step-index l.steps)
