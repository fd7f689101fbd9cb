-- What a check finds is the first that is wrong.
use Rattle.std.proofs.Common.{◌≡◌, ◌∙◌, ℕ, ◌+◌, List, [], ◌∷◌, length, take, Some, None, IfSome, Result, Ok, Err, refl}
use Rattle.std.proofs.Common.{ap, sym, option_map, add-one, if◌then◌else◌, is_some}
use Rattle.std.specs.Prelude.{Option, IfOk}
use Rattle.protocol.specs.Streams.{feed_of}
use Rattle.record_check.specs.declared.fault.FileFault.{FileFault}
use Rattle.record_check.specs.declared.finding.Finding.{Finding}
use Rattle.record_check.specs.Findings.{FindsFirst, IsFirst, count_read, finding_after, finding_of}
use Rattle.record_check.specs.Listing.{Rules, first_fault, first_of, refusal, said_of, verdict_by, verdict_of}

-- one record in front of those that have no fault
before_one : (r : Rules) (o : Option FileFault) (bytes : List ℕ) (records : List (List ℕ)) (n : ℕ)
    → refusal (said_of r bytes) ≡ o → first_fault r (take n records) ≡ None
    → first_fault r (take (if is_some o then 0 else n + 1) (bytes ∷ records)) ≡ None
before_one r None bytes records n is rest =
    ap (λ k. first_fault r (take k (bytes ∷ records))) (add-one n)
    ∙ ap (λ o. first_of o (first_fault r (take n records))) is ∙ rest
before_one r (Some fault) bytes records n is rest = refl

-- the records that are read before the first that is refused have no fault
before_first : (r : Rules) (records : List (List ℕ)) → first_fault r (take (count_read r records) records) ≡ None
before_first r [] = refl
before_first r (bytes ∷ records) =
    before_one r (refusal (said_of r bytes)) bytes records (count_read r records) refl (before_first r records)

-- one record in front of those whose first fault is found
with_one : (r : Rules) (o : Option FileFault) (bytes : List ℕ) (records : List (List ℕ)) (n : ℕ)
    → refusal (said_of r bytes) ≡ o → first_fault r (take (n + 1) records) ≡ first_fault r records
    → first_fault r (take ((if is_some o then 0 else n + 1) + 1) (bytes ∷ records)) ≡ first_fault r (bytes ∷ records)
with_one r None bytes records n is rest =
    ap (λ k. first_fault r (take k (bytes ∷ records))) (add-one (n + 1))
    ∙ ap (λ f. first_of (refusal (said_of r bytes)) f) rest
with_one r (Some fault) bytes records n is rest =
    ap (λ k. first_fault r (take k (bytes ∷ records))) (add-one 0)
    ∙ ap (λ o. first_of o None) is ∙ sym (ap (λ o. first_of o (first_fault r records)) is)

-- and with the next one the fault is that of all
with_first : (r : Rules) (records : List (List ℕ))
    → first_fault r (take (count_read r records + 1) records) ≡ first_fault r records
with_first r [] = refl
with_first r (bytes ∷ records) =
    with_one r (refusal (said_of r bytes)) bytes records (count_read r records) refl (with_first r records)

-- of a file that has a fault, all of this is so
is_first : (r : Rules) (records : List (List ℕ)) (rest : ℕ) (fault : FileFault)
    → verdict_by (first_fault r records) rest ≡ Some fault
    → IsFirst r records rest (finding_after (count_read r records) fault)
is_first r records rest fault is =
    record {
      earlier = count_read r records;
      number = refl;
      offset = refl;
      before = before_first r records;
      there = ap (λ o. verdict_by o rest) (with_first r records) ∙ is;
    }

finds : (r : Rules) (records : List (List ℕ)) (rest : ℕ) (v : Option FileFault)
    → verdict_by (first_fault r records) rest ≡ v
    → IfSome (option_map (finding_after (count_read r records)) v) (IsFirst r records rest)
finds r records rest None is = tt
finds r records rest (Some fault) is = is_first r records rest fault is

pub finds_first : (r : Rules) (bytes : List ℕ) → FindsFirst r bytes (finding_of r bytes)
finds_first r bytes = finds r (feed_of bytes).records (length (feed_of bytes).rest) (verdict_of r bytes) refl

fault_of : (earlier : ℕ) (v : Option FileFault) → option_map (λ f. f.fault) (option_map (finding_after earlier) v) ≡ v
fault_of earlier None = refl
fault_of earlier (Some fault) = refl

-- its fault is the verdict
pub finds_verdict : (r : Rules) (bytes : List ℕ) → option_map (λ f. f.fault) (finding_of r bytes) ≡ verdict_of r bytes
finds_verdict r bytes = fault_of (count_read r (feed_of bytes).records) (verdict_of r bytes)

-- ---- what a call answered

pub answers_verdict : {E : Type 0} (r : Rules) (answer : Result (Option Finding) E) (left : Option (List ℕ))
    → IfOk answer (λ a. IfSome left (λ bytes. a ≡ finding_of r bytes))
    → IfOk answer (λ a. IfSome left (λ bytes. option_map (λ f. f.fault) a ≡ verdict_of r bytes))
answers_verdict r (Err e) left is = tt
answers_verdict r (Ok o) None is = tt
answers_verdict r (Ok o) (Some bytes) is = ap (option_map (λ f. f.fault)) is ∙ finds_verdict r bytes

pub answers_first : {E : Type 0} (r : Rules) (answer : Result (Option Finding) E) (left : Option (List ℕ))
    → IfOk answer (λ a. IfSome left (λ bytes. a ≡ finding_of r bytes))
    → IfOk answer (λ a. IfSome left (λ bytes. FindsFirst r bytes a))
answers_first r (Err e) left is = tt
answers_first r (Ok o) None is = tt
answers_first r (Ok o) (Some bytes) is = rw is (finds_first r bytes)
