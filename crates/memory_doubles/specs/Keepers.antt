-- What a keeper in memory tells.
use Rattle.std.specs.Prelude.{List, Option, Some, None, map, if◌then◌else◌}
use Rattle.reader_run.specs.Keeping.{Deed}
use Rattle.reader_run.specs.Keeping.Deed.{Flushed, Kept}
use Rattle.memory_doubles.specs.declared.memory_keeper.Done.{Done}
use Rattle.memory_doubles.specs.declared.memory_keeper.Done.TheVariants as code
use Rattle.memory_doubles.specs.declared.memory_keeper.MemoryKeeper.{MemoryKeeper}

-- what was done
abbrev pub deed_value : Done → Deed
deed_value (code.Flushed written) = Flushed (Some written.items)
deed_value (code.Kept tally) = Kept tally

-- all of it, unless some was lost
abbrev pub told : MemoryKeeper → Option (List Deed)
told k = if k.lost then None else Some (map deed_value k.done.items)
