-- Steps of a reading, one after the other: the first that fails is told.
use Rattle.std.specs.Prelude.{Bool, if◌then◌else◌, List, [], ◌∷◌, Option, Some, None, Result, Ok, Err}
use Rattle.catalog.specs.declared.fault.ConfigFault.{ConfigFault}
use Rattle.catalog.specs.declared.fault.ConfigFault.TheVariants.{Missing, Limit}

-- a step, and the next one over what it gave
infixl 10 ◌>>=◌
abbrev pub ◌>>=◌ : {A B : Type 0} → Result A ConfigFault → (A → Result B ConfigFault) → Result B ConfigFault
Err fault >>= next = Err fault
Ok x >>= next = next x

-- a value of the wanted kind; where it is of another it counts as missing
abbrev pub of_kind : {A : Type 0} → Option A → Result A ConfigFault
of_kind None = Err Missing
of_kind (Some x) = Ok x

-- a value that is within its limits
abbrev pub within : {A : Type 0} → Option A → Result A ConfigFault
within None = Err Limit
within (Some x) = Ok x

-- the same, where a test says so
abbrev pub within_if : {A : Type 0} → Bool → A → Result A ConfigFault
within_if b x = if b then Ok x else Err Limit

-- ---- which step fails first

-- a step with its fault, or else what comes after it
abbrev pub fault_or : {S : Type 0} → S → Option ConfigFault → Option (S × ConfigFault) → Option (S × ConfigFault)
fault_or step (Some fault) later = Some (step, fault)
fault_or step None later = later

-- the first of some steps that fails, with its fault, by the fault of each step that fails
abbrev pub first_fault : {S : Type 0} → (S → Option ConfigFault) → List S → Option (S × ConfigFault)
first_fault fault_at [] = None
first_fault fault_at (step ∷ later) = fault_or step (fault_at step) (first_fault fault_at later)
