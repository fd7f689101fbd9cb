-- Where a number of a line does not fit its field, no record is made.
use Rattle.std.proofs.Common.{◌≡◌, ℕ, ◌<◌, false, List, nat_le, Option, Some, None, refl, sym, ap, ◌∙◌, subst, arith}
use Rattle.std.specs.Prelude.{option_and_then}
use Rattle.std.proofs.lemmas.Bool.Decides.{nat_tests}
use Rattle.protocol.specs.Made.{Fields, IsInRange, made}
use Rattle.protocol.proofs.FoundLemmas.{both}
use Rattle.protocol.proofs.MadeLemmas.{made_law}
use Rattle.event_script.specs.Fitting.{fitting_fields_in, fitting_start_in, fitting_start_of, up_to}
use Rattle.event_script.specs.Script.{Six, Start, decimal_of, fields_in, fields_told, fields_with, location_of}
use Rattle.event_script.specs.Script.{record_of, six_of, start_in, start_with}

-- The numbers of a start are there.
pub record HasNumbers (year day hour minute second fraction : Option ℕ) (s : Start) : Type 0 where
  pub year_is : year ≡ Some s.year
  pub day_is : day ≡ Some s.day
  pub hour_is : hour ≡ Some s.hour
  pub minute_is : minute ≡ Some s.minute
  pub second_is : second ≡ Some s.second
  pub fraction_is : fraction ≡ Some s.fraction

pub numbers-there : (year day hour minute second fraction : Option ℕ) (s : Start)
    → start_with year day hour minute second fraction ≡ Some s → HasNumbers year day hour minute second fraction s
numbers-there None d h m sec f s e = absurd cc
numbers-there (Some y) None h m sec f s e = absurd cc
numbers-there (Some y) (Some d) None m sec f s e = absurd cc
numbers-there (Some y) (Some d) (Some h) None sec f s e = absurd cc
numbers-there (Some y) (Some d) (Some h) (Some m) None f s e = absurd cc
numbers-there (Some y) (Some d) (Some h) (Some m) (Some sec) None s e = absurd cc
numbers-there (Some y) (Some d) (Some h) (Some m) (Some sec) (Some f) s e =
    let same : record { year = y; day = d; hour = h; minute = m; second = sec; fraction = f } ≡ s = cc in
    subst (λ (t : Start). HasNumbers (Some y) (Some d) (Some h) (Some m) (Some sec) (Some f) t) same
    (record { year_is = refl; day_is = refl; hour_is = refl; minute_is = refl; second_is = refl; fraction_is = refl })

not_made : (f : Fields) (o : Option (List ℕ)) → made f ≡ o → (IsInRange f → ⊥) → o ≡ None
not_made f None e out = refl
not_made f (Some r) e out = absurd (out ((made_law f r).0 e).in_range)

above : (most n v : ℕ) → nat_le n most ≡ false → n ≡ v → most < v
above most n v not_below e = grind (arith, nat_tests)

-- a number that is none, or is above the most, has the same outcome
fit : (most : ℕ) (made_by : Option ℕ → Option (List ℕ))
    → ((o : Option ℕ) → ((v : ℕ) → o ≡ Some v → most < v) → made_by o ≡ None)
    → (o : Option ℕ) → made_by (option_and_then (up_to most) o) ≡ made_by o
fit most made_by none None = refl
fit most made_by none (Some n) =
    both (nat_le n most)
    (λ y. rw y)
    (λ no. rw no (none None (λ v e. absurd cc)
    ∙ sym (none (Some n) (λ v e. let same : n ≡ v = cc in above most n v no same))))

module _ (network station channel : List ℕ) where
  -- the record of what the other words tell
  abbrev record_with : Option (List ℕ) → Option Start → Option ℕ → Option (List ℕ)
  record_with location start samples = option_and_then made (fields_with network station channel location start samples)

  not_told : (location : Option (List ℕ)) (start : Option Start) (samples : Option ℕ)
      → ((l : List ℕ) (s : Start) (k : ℕ) → start ≡ Some s → samples ≡ Some k
      → IsInRange (fields_told network station l channel s k) → ⊥)
      → record_with location start samples ≡ None
  not_told None start samples out = refl
  not_told (Some l) None samples out = refl
  not_told (Some l) (Some s) None out = refl
  not_told (Some l) (Some s) (Some k) out =
      not_made (fields_told network station l channel s k) (made (fields_told network station l channel s k)) refl
      (out l s k refl refl)

  samples-fit : (location : Option (List ℕ)) (start : Option Start) (samples : Option ℕ)
      → record_with location start (option_and_then (up_to 65535) samples) ≡ record_with location start samples
  samples-fit location start samples =
      fit 65535 (λ o. record_with location start o)
      (λ o big. not_told location start o (λ l s k e is r. omega (arith, big k is, r.samples))) samples

  start-fits : (location : Option (List ℕ)) (y d h m s f samples : Option ℕ)
      → record_with location
      (start_with (option_and_then (up_to 65535) y) (option_and_then (up_to 65535) d)
      (option_and_then (up_to 255) h) (option_and_then (up_to 255) m) (option_and_then (up_to 255) s)
      (option_and_then (up_to 65535) f)) samples
      ≡ record_with location (start_with y d h m s f) samples
  start-fits location y d h m s f samples =
      fit 65535
      (λ o. record_with location
      (start_with o (option_and_then (up_to 65535) d) (option_and_then (up_to 255) h)
      (option_and_then (up_to 255) m) (option_and_then (up_to 255) s) (option_and_then (up_to 65535) f)) samples)
      (λ o big. not_told location _ samples
      (λ l t k e is r. omega (arith, big t.year (numbers-there o _ _ _ _ _ t e).year_is, r.year.1))) y
      ∙ fit 65535
      (λ o. record_with location
      (start_with y o (option_and_then (up_to 255) h) (option_and_then (up_to 255) m)
      (option_and_then (up_to 255) s) (option_and_then (up_to 65535) f)) samples)
      (λ o big. not_told location _ samples
      (λ l t k e is r. omega (arith, big t.day (numbers-there y o _ _ _ _ t e).day_is, r.day.1))) d
      ∙ fit 255
      (λ o. record_with location
      (start_with y d o (option_and_then (up_to 255) m) (option_and_then (up_to 255) s)
      (option_and_then (up_to 65535) f)) samples)
      (λ o big. not_told location _ samples
      (λ l t k e is r. omega (arith, big t.hour (numbers-there y d o _ _ _ t e).hour_is, r.hour))) h
      ∙ fit 255
      (λ o. record_with location
      (start_with y d h o (option_and_then (up_to 255) s) (option_and_then (up_to 65535) f)) samples)
      (λ o big. not_told location _ samples
      (λ l t k e is r. omega (arith, big t.minute (numbers-there y d h o _ _ t e).minute_is, r.minute))) m
      ∙ fit 255 (λ o. record_with location (start_with y d h m o (option_and_then (up_to 65535) f)) samples)
      (λ o big. not_told location _ samples
      (λ l t k e is r. omega (arith, big t.second (numbers-there y d h m o _ t e).second_is, r.second))) s
      ∙ fit 65535 (λ o. record_with location (start_with y d h m s o) samples)
      (λ o big. not_told location _ samples
      (λ l t k e is r. omega (arith, big t.fraction (numbers-there y d h m s o t e).fraction_is, r.fraction))) f

  cut-fits : (location : Option (List ℕ)) (parts : Option Six) (samples : Option ℕ)
      → record_with location (option_and_then fitting_start_in parts) samples
      ≡ record_with location (option_and_then start_in parts) samples
  cut-fits location None samples = refl
  cut-fits location (Some p) samples =
      start-fits location (decimal_of p.first) (decimal_of p.second) (decimal_of p.third) (decimal_of p.fourth)
      (decimal_of p.fifth) (decimal_of p.sixth) samples

words-fit : (w : Six) → option_and_then made (fitting_fields_in w) ≡ option_and_then made (fields_in w)
words-fit w =
    samples-fit w.first w.second w.fourth (location_of w.third) (fitting_start_of w.fifth) (decimal_of w.sixth)
    ∙ cut-fits w.first w.second w.fourth (location_of w.third) (six_of 44 w.fifth) (decimal_of w.sixth)

-- the record of a text that is cut into words is that of the fields whose numbers fit
pub record-fitting : (text : List ℕ) (w : Six) → Some w ≡ six_of 32 text
    → option_and_then made (fitting_fields_in w) ≡ record_of text
record-fitting text w e = words-fit w ∙ ap (λ o. option_and_then made (option_and_then fields_in o)) e
