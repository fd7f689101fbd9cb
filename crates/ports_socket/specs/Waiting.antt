-- The bytes that a connection took and that wait to be sent.
-- Ports are this project's own. Left out: whether the bytes that wait no longer went to the system.
use Rattle.std.specs.Prelude.{◌≡◌, ℕ, ◌≤◌, ◌-◌, ◌++◌, ◌&&◌, not, false, is_some, List, [], drop, take, length}
use Rattle.std.specs.Prelude.{Option, Some, None, Result, Ok, Err}
use Rattle.std.specs.Global.{Vec}
use Rattle.std.specs.Vec.{vec_capacity, vec_len}
use Rattle.ports.specs.declared.answers.Put.{Put}
use Rattle.ports.specs.declared.answers.Put.TheVariants.{Took, Later}
use Rattle.ports.specs.declared.answers.PortFault.{PortFault}
use Rattle.ports_socket.specs.declared.connection.Connection.{Connection}

-- the bytes that wait
abbrev pub waiting_in : Option (Vec ℕ) → List ℕ
waiting_in None = []
waiting_in (Some unsent) = unsent.items

-- how many bytes have room beside them; none without a buffer
abbrev pub room_in : Option (Vec ℕ) → ℕ
room_in None = 0
room_in (Some unsent) = vec_capacity unsent - vec_len unsent

-- The first so many of the bytes that waited are gone, and the others wait.
pub record HaveGone (before after : List ℕ) : Type 0 where
  pub count : ℕ
  pub some : count ≤ length before
  pub others_wait : after ≡ drop count before

-- A write took the first so many of its bytes, or none. They wait in order after those that waited before, but for the
-- first of all these, which may be gone.
abbrev pub TakesInOrder : (before bytes : List ℕ) → Result Put PortFault → (after : List ℕ) → Type 0
TakesInOrder before bytes (Ok (Took count)) after = HaveGone (before ++ take count bytes) after
TakesInOrder before bytes (Ok Later) after = HaveGone before after
TakesInOrder before bytes (Err fault) after = HaveGone before after

-- No bytes wait that the system would take now, as far as is known.
abbrev pub IsSettled : Connection → Type 0
IsSettled c = (is_some c.unsent && not c.is_full && not c.has_failed) ≡ false
