-- Laws over the bytes that a connection took, and their count.
use Rattle.std.proofs.Common.{◌≡◌, ℕ, ◌+◌, ◌-◌, Bool, true, false, List, [], ◌++◌, length, drop, Some, None, refl}
use Rattle.std.proofs.Common.{sym, ap, ◌∙◌, arith, append-nil, length-append, length-drop}
use Rattle.std.specs.Prelude.{IfSome, Option, nat_le, if◌then◌else◌}
use Rattle.std.specs.Io.KnownBytes.{Appends}
use Rattle.std.proofs.lemmas.Bool.{leb-true}
use Rattle.sl_io.specs.Known.{AppendsBeginning}
use Rattle.feeder.specs.Sending.{whole_part}
use Rattle.job_feed.specs.Handing.{CountsBeginning, counted_part}

-- ---- a whole file

-- as many bytes are told as were counted
length-by : (b : Bool) (taken : ℕ) (xs zs : List ℕ) → nat_le taken (length xs) ≡ b →
    (if b then Some (drop (length xs - taken) xs) else None) ≡ Some zs → length zs ≡ taken
length-by true taken xs zs fits is =
    let same : drop (length xs - taken) xs ≡ zs = cc in
    let within = leb-true taken (length xs) fits in
    let size : length (drop (length xs - taken) xs) ≡ length xs - (length xs - taken) =
    length-drop (length xs - taken) xs in
    sym (ap length same) ∙ size ∙ (let back : length xs - (length xs - taken) ≡ taken = omega (arith, within) in back)
length-by false taken xs zs fits is = absurd cc

pub length-counted : (taken : ℕ) (told : Option (List ℕ)) (zs : List ℕ) → counted_part taken told ≡ Some zs →
    length zs ≡ taken
length-counted taken None zs is = absurd cc
length-counted taken (Some xs) zs is = length-by (nat_le taken (length xs)) taken xs zs refl is

appended : (before : List ℕ) (after : Option (List ℕ)) (bs : List ℕ) → Appends (Some before) after bs →
    after ≡ Some (before ++ bs)
appended before None bs h = absurd h
appended before (Some ys) bs h = ap Some h

-- What was counted is exactly what was taken.
pub counts-beginning : (taken taken' : ℕ) (old new : Option (List ℕ)) (before bytes : List ℕ) →
    counted_part taken old ≡ Some before → AppendsBeginning (Some before) (counted_part taken' new) bytes →
    CountsBeginning taken taken' before (counted_part taken' new) bytes
counts-beginning taken taken' old new before bytes is h =
    let told : counted_part taken' new ≡ Some (before ++ h.0) = appended before (counted_part taken' new) h.0 h.3 in
    let first : length before ≡ taken = length-counted taken old before is in
    let all : length (before ++ h.0) ≡ taken' = length-counted taken' new (before ++ h.0) told in
    let sum : length (before ++ h.0) ≡ length before + length h.0 = length-append before h.0 in
    record {
      done = h.0;
      rest = h.1;
      parts = h.2;
      told = told;
      count = omega (arith, first, all, sum);
    }

-- ---- what a call says of what it wrote

counts-in : (told : Option (List ℕ)) (taken taken' : ℕ) (old new : Option (List ℕ)) (bytes : List ℕ) →
    counted_part taken old ≡ told → AppendsBeginning told (counted_part taken' new) bytes →
    IfSome told (λ before. CountsBeginning taken taken' before (counted_part taken' new) bytes)
counts-in None taken taken' old new bytes is h = tt
counts-in (Some before) taken taken' old new bytes is h = counts-beginning taken taken' old new before bytes is h

-- a beginning of some bytes was written
pub send-counted : (left : Option (List ℕ)) (taken taken' : ℕ) (old new : Option (List ℕ)) →
    IfSome left (λ bytes. AppendsBeginning (counted_part taken old) (counted_part taken' new) (whole_part bytes)) →
    IfSome left (λ bytes. IfSome (counted_part taken old) (λ before.
    CountsBeginning taken taken' before (counted_part taken' new) (whole_part bytes)))
send-counted None taken taken' old new h = tt
send-counted (Some bytes) taken taken' old new h =
    counts-in (counted_part taken old) taken taken' old new (whole_part bytes) refl h

-- or all of them
all-begun : (left told told' : Option (List ℕ)) → IfSome left (λ bytes. Appends told told' (whole_part bytes)) →
    IfSome left (λ bytes. AppendsBeginning told told' (whole_part bytes))
all-begun None told told' h = tt
all-begun (Some bytes) told told' h = (whole_part bytes, [], sym (append-nil (whole_part bytes)), h)

pub send-all-counted : (left : Option (List ℕ)) (taken taken' : ℕ) (old new : Option (List ℕ)) →
    IfSome left (λ bytes. Appends (counted_part taken old) (counted_part taken' new) (whole_part bytes)) →
    IfSome left (λ bytes. IfSome (counted_part taken old) (λ before.
    CountsBeginning taken taken' before (counted_part taken' new) (whole_part bytes)))
send-all-counted left taken taken' old new h =
    send-counted left taken taken' old new (all-begun left (counted_part taken old) (counted_part taken' new) h)

all-in : (told : Option (List ℕ)) (taken taken' : ℕ) (old new : Option (List ℕ)) (bytes : List ℕ) →
    counted_part taken old ≡ told → Appends told (counted_part taken' new) bytes →
    IfSome told (λ before. taken' ≡ taken + length bytes)
all-in None taken taken' old new bytes is h = tt
all-in (Some before) taken taken' old new bytes is h =
    let told : counted_part taken' new ≡ Some (before ++ bytes) = appended before (counted_part taken' new) bytes h in
    let first : length before ≡ taken = length-counted taken old before is in
    let all : length (before ++ bytes) ≡ taken' = length-counted taken' new (before ++ bytes) told in
    let sum : length (before ++ bytes) ≡ length before + length bytes = length-append before bytes in
    omega (arith, first, all, sum)

pub send-all : (left : Option (List ℕ)) (taken taken' : ℕ) (old new : Option (List ℕ)) →
    IfSome left (λ bytes. Appends (counted_part taken old) (counted_part taken' new) (whole_part bytes)) →
    IfSome left (λ bytes. IfSome (counted_part taken old) (λ before. taken' ≡ taken + length (whole_part bytes)))
send-all None taken taken' old new h = tt
send-all (Some bytes) taken taken' old new h =
    all-in (counted_part taken old) taken taken' old new (whole_part bytes) refl h
