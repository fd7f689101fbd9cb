-- The counts of a reader or writer: numbers below 2^64 that go on at 0 after 2^64 - 1.
use Rattle.std.specs.Prelude.{◌≡◌, ℕ, ◌+◌, ◌-◌, ◌%◌, ◌^◌, ◌<◌, List, length, MatchResult, Result, ◌⊎◌}
use Rattle.sl_io.specs.declared.faults.ReadFault.{ReadFault}
use Rattle.sl_io.specs.declared.faults.ReadFault.TheVariants.{OutOfMemory, Read}

-- `new` is `more` above `old`, modulo 2^64
abbrev pub IsMore : ℕ → ℕ → ℕ → Type 0
IsMore old new more = new ≡ (old + more) % 2 ^ 64

-- the count of failures over one call: one more at `Err`, and the same at `Ok`
abbrev pub CountsFailure : {T E : Type 0} → ℕ → ℕ → Result T E → Type 0
CountsFailure old new result = MatchResult result (λ _. new ≡ old) (λ _. IsMore old new 1)

-- the count of empty writes over one write of `bytes`: one more where none of some bytes was taken, and else the same
abbrev pub CountsEmptyWrite : {E : Type 0} → ℕ → ℕ → Result ℕ E → List ℕ → Type 0
CountsEmptyWrite old new result bytes = MatchResult result
    (λ n. (n ≡ 0 → 0 < length bytes → IsMore old new 1) × (0 < n → new ≡ old) × (length bytes ≡ 0 → new ≡ old))
    (λ _. new ≡ old)

-- why a reading to the end stopped early, by the counts of failures and of calls before and after it: no memory, and no
-- read had failed; or a read, of which one failed or 2^64 - 1 were made
abbrev pub StopsReading : ReadFault → ℕ → ℕ → ℕ → ℕ → Type 0
StopsReading OutOfMemory failures failures' calls calls' = failures' ≡ failures
StopsReading Read failures failures' calls calls' =
    IsMore failures failures' 1 ⊎ ((failures' ≡ failures) × IsMore calls calls' (2 ^ 64 - 1))

-- why a writing stopped early, by the counts of failures and of empty writes before and after it: one failed, or one
-- was empty
abbrev pub StopsWriting : ℕ → ℕ → ℕ → ℕ → Type 0
StopsWriting failures failures' empty_writes empty_writes' =
    (IsMore failures failures' 1 × (empty_writes' ≡ empty_writes))
    ⊎ ((failures' ≡ failures) × IsMore empty_writes empty_writes' 1)
