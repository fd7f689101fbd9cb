use Rattle.std.proofs.Common.{◌≡◌, [], drop, map}
use Rattle.toml.specs.View.{view}
use Rattle.number_file.specs.Reading.{numbers_after}
use Rattle.number_file.proofs.reading.numbers_in.Given as goal

abbrev pub invariant-loop-value : goal.invariant-loop-value
invariant-loop-value l =
    numbers_after l.numbers.items (map view (drop l.value-index l.values)) ≡ numbers_after [] (map view l.values)
