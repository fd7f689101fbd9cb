-- What one port gave and took, by all calls.
-- Ports in memory are this project's own.
use Rattle.std.specs.Prelude.{ℕ, ◌==◌, Bool, true, false, if◌then◌else◌, List, [], ◌∷◌, ◌++◌, take, Result, Ok, Err}
use Rattle.ports.specs.declared.answers.Put.{Put}
use Rattle.ports.specs.declared.answers.Put.TheVariants.{Took, Later}
use Rattle.ports.specs.declared.answers.PortFault.{PortFault}
use Rattle.ports.specs.Calls.{Given, Call}
use Rattle.ports.specs.Calls.Given.{Piece}
use Rattle.ports.specs.Calls.Call.{Next, Read, Write, Shut}
use Rattle.memory_ports.specs.declared.memory_ports.port_record.PortRecord.{PortRecord}

-- the bytes that a port gave and the bytes that it took, and whether it was shut
pub record PortValue : Type 0 where
  pub gave : List ℕ
  pub took : List ℕ
  pub is_shut : Bool

-- before any call
abbrev pub fresh : PortValue
fresh = record { gave = []; took = []; is_shut = false }

-- with what a read gave
abbrev pub with_read : PortValue → Given → PortValue
with_read v (Piece bytes) = record v { gave = v.gave ++ bytes }
with_read v _ = v

-- with what a write took
abbrev pub with_write : PortValue → List ℕ → Result Put PortFault → PortValue
with_write v bytes (Ok (Took n)) = record v { took = v.took ++ take n bytes }
with_write v bytes (Ok Later) = v
with_write v bytes (Err fault) = v

-- with a call, if it is one of that port
abbrev pub with_call : ℕ → PortValue → Call → PortValue
with_call port v (Next answer) = v
with_call port v (Read p most gave) = if p == port then with_read v gave else v
with_call port v (Write p bytes answer) = if p == port then with_write v bytes answer else v
with_call port v (Shut p) = if p == port then record v { is_shut = true } else v

-- after calls
abbrev pub after_calls : ℕ → PortValue → List Call → PortValue
after_calls port v [] = v
after_calls port v (c ∷ cs) = after_calls port (with_call port v c) cs

-- by all calls
abbrev pub port_record : ℕ → List Call → PortValue
port_record port calls = after_calls port fresh calls

-- a record as it is handed out
abbrev pub record_value : PortRecord → PortValue
record_value r = record { gave = r.given.items; took = r.taken.items; is_shut = r.is_shut }
