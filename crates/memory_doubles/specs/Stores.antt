-- What folders in memory tell.
use Rattle.record_archive.specs.Archives.{Put}
use Rattle.memory_doubles.specs.declared.memory_folders.Stored.{Stored}

-- what was put
abbrev pub stored : Stored → Put
stored s = record { folder = s.folder.items; file = s.file.items; bytes = s.bytes }
