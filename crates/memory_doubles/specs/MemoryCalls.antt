-- What servers in memory tell.
use Rattle.std.specs.Prelude.{List, [], Option, Some, None, Ok, map, if◌then◌else◌}
use Rattle.sl_io.specs.declared.memory_source.MemorySource.{MemorySource}
use Rattle.sl_io.specs.declared.memory_sink.MemorySink.{MemorySink}
use Rattle.reader_run.specs.Calls.{Call, ConnectionValue, connection}
use Rattle.reader_run.specs.Calls.Call.{Connects, Fails, PassesOver, Closes}
use Rattle.memory_doubles.specs.declared.memory_servers.Called.{Called}
use Rattle.memory_doubles.specs.declared.memory_servers.Called.TheVariants as code
use Rattle.memory_doubles.specs.declared.memory_servers.MemoryServers.{MemoryServers}
use Rattle.memory_doubles.specs.declared.memory_servers.NoServer.{NoServer}

-- both sides of a connection in memory, at which no read fails and no write is empty
abbrev pub connection_value : MemorySource → MemorySink → ConnectionValue
connection_value reader writer =
    connection (Some reader.left.now) 0 reader.calls (Some writer.bytes.items) writer.failures 0

abbrev pub called_value : Called → Call NoServer
called_value (code.Connected sent) = Connects (connection (Some sent.now) 0 0 (Some []) 0 0)
called_value (code.Failed fault) = Fails fault
called_value (code.PassedOver fault reader writer) = PassesOver fault (connection_value reader writer) (Ok tt)
called_value (code.Closed reader writer) = Closes (connection_value reader writer)

-- all calls, unless one was lost
abbrev pub told : MemoryServers → Option (List (Call NoServer))
told s = if s.lost then None else Some (map called_value s.called.items)
