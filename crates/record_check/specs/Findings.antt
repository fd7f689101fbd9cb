-- At which record of a file something is wrong: the records before it are all read.
use Rattle.std.specs.Prelude.{◌≡◌, ℕ, ◌+◌, ◌*◌, if◌then◌else◌, List, [], ◌∷◌, length, take, Option, Some, None, is_some}
use Rattle.std.specs.Prelude.{IfSome, option_map}
use Rattle.protocol.specs.Streams.{feed_of}
use Rattle.record_check.specs.Listing.{Rules, first_fault, refusal, said_of, verdict_by, verdict_of}
use Rattle.record_check.specs.declared.fault.FileFault.{FileFault}
use Rattle.record_check.specs.declared.finding.Finding.{Finding}

-- how many records are read before the first that is refused; all of them where none is
abbrev pub count_read : Rules → List (List ℕ) → ℕ
count_read r [] = 0
count_read r (bytes ∷ records) = if is_some (refusal (said_of r bytes)) then 0 else count_read r records + 1

-- what is wrong with a file, behind so many records
abbrev pub finding_after : ℕ → FileFault → Finding
finding_after earlier fault = record { fault = fault; number = earlier + 1; offset = earlier * 512 }

-- what is wrong with a file of those bytes, and where
abbrev pub finding_of : Rules → List ℕ → Option Finding
finding_of r bytes = option_map (finding_after (count_read r (feed_of bytes).records)) (verdict_of r bytes)

-- All records before the one that a finding names are read, and with it the first fault is that of the finding; or all
-- records are read, and bytes are left over after them.
pub record IsFirst (r : Rules) (records : List (List ℕ)) (rest : ℕ) (finding : Finding) : Type 0 where
  pub earlier : ℕ
  pub number : finding.number ≡ earlier + 1
  pub offset : finding.offset ≡ earlier * 512
  pub before : first_fault r (take earlier records) ≡ None
  pub there : verdict_by (first_fault r (take (earlier + 1) records)) rest ≡ Some finding.fault

-- what a check finds is the first that is wrong
abbrev pub FindsFirst : Rules → List ℕ → Option Finding → Type 0
FindsFirst r bytes answer =
    IfSome answer (IsFirst r (feed_of bytes).records (length (feed_of bytes).rest))
