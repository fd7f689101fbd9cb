-- The calls on ports with their answers.
-- Sockets are outside the standard. Left out: time, and what a socket carries.
use Rattle.std.specs.Prelude.{◌≡◌, ℕ, ◌≤◌, List, ◌++◌, length, take, Option, Some, None, Result, Ok, Err}
use Rattle.ports.specs.declared.answers.Happening.{Happening}
use Rattle.ports.specs.declared.answers.Got.{Got}
use Rattle.ports.specs.declared.answers.Got.TheVariants.{Bytes, Later, Closed}
use Rattle.ports.specs.declared.answers.Put.{Put}
use Rattle.ports.specs.declared.answers.Put.TheVariants.{Took}
use Rattle.ports.specs.declared.answers.PortFault.{PortFault}

-- what a read gave
pub data Given : Type 0 where
  Piece : List ℕ → Given
  Nothing : Given
  TheEnd : Given
  Failure : Given

-- a call with its answer
pub data Call : Type 0 where
  Next : Result Happening PortFault → Call
  -- of at most so many bytes
  Read : (port : ℕ) → (most : ℕ) → Given → Call
  Write : (port : ℕ) → (bytes : List ℕ) → Result Put PortFault → Call
  Shut : (port : ℕ) → Call

-- a write that takes all of a piece
abbrev pub whole_write : (port : ℕ) → (bytes : List ℕ) → Call
whole_write port bytes = Write port bytes (Ok (Took (length bytes)))

-- what a read gave, by its answer and the buffer after it
abbrev pub given : Result Got PortFault → List ℕ → Given
given (Ok (Bytes n)) buffer = Piece (take n buffer)
given (Ok Later) buffer = Nothing
given (Ok Closed) buffer = TheEnd
given (Err fault) buffer = Failure

-- A read gives 1 to so many bytes.
abbrev pub IsGiven : Result Got PortFault → ℕ → Type 0
IsGiven (Ok (Bytes n)) most = (1 ≤ n) × (n ≤ most)
IsGiven _ most = Unit {0}

-- how many bytes a write took
abbrev pub taken : Result Put PortFault → ℕ
taken (Ok (Took n)) = n
taken _ = 0

-- A write takes at most so many bytes.
abbrev pub IsTaken : Result Put PortFault → ℕ → Type 0
IsTaken answer most = taken answer ≤ most

-- Those calls were made between the two, where the ports tell them after it.
abbrev pub Tells : Option (List Call) → Option (List Call) → List Call → Type 0
Tells old None calls = Unit {0}
Tells (Some before) (Some after) calls = after ≡ before ++ calls
Tells None (Some after) calls = ⊥
