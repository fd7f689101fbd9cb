-- What a reading or writing of many calls does to the bytes that a reader has left or a writer was given, where they
-- are told.
use Rattle.std.specs.Prelude.{◌≡◌, ℕ, List, ◌++◌}
use Rattle.std.specs.Io.KnownBytes.{Appends, Consumes}
use Rattle.std.specs.declared.option.Option.{Option}

-- some of the first bytes that were left were taken, and the rest is left
abbrev pub ConsumesSome : Option (List ℕ) → Option (List ℕ) → Type 0
ConsumesSome old new = (bytes : List ℕ) × Consumes old new bytes

-- a beginning of `bytes` was written
abbrev pub AppendsBeginning : Option (List ℕ) → Option (List ℕ) → List ℕ → Type 0
AppendsBeginning old new bytes =
    (done : List ℕ) × (rest : List ℕ) × (bytes ≡ done ++ rest) × Appends old new done
