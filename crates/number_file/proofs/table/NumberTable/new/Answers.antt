use Rattle.std.proofs.Common.{rules, ◌≡◌, ◌++◌, map, filter}
use Rattle.catalog.specs.Numbers.{numbered}
use Rattle.number_file.specs.Tables.{is_of_another}
use Rattle.number_file.proofs.TableKeeping.{kept-filter}
use Rattle.number_file.proofs.table.NumberTable.new.Goals as goal

pub invariant_of-result : goal.invariant_of-result
invariant_of-result c =
    let config = c.args.config.now in
    let table : c.add_others.new.numbers.items
    ≡ map numbered config.entries ++ filter (is_of_another config) c.args.kept.now = search rules in
    kept-filter (is_of_another config) (map numbered config.entries) c.args.kept.now c.add_others.new.numbers.items
    c.requires.stations c.requires.kept table
