-- What is done every so many seconds.
-- Paces are this project's own. Left out: how time passes between two looks at a clock.
use Rattle.std.specs.Prelude.{◌≡◌, ℕ, zero, suc, ◌+◌, ◌-◌, ◌*◌, ◌<◌, ◌≤◌, ◌↔◌, Bool, true, false}
use Rattle.std.specs.Prelude.{List, [], ◌∷◌, length, slice_index_or, Option, Some, None}
use Rattle.text_parts.specs.Periods.{has_passed}
use Rattle.text_parts.specs.declared.period.Period.{Period}
use Rattle.text_parts.specs.declared.period.Period.TheVariants.{Seconds}
use Rattle.serving.specs.declared.between.Due.{Due}
use Rattle.serving.specs.declared.pace.Pace.{Pace}

-- from the time 0 on
abbrev pub new_pace : Option Period → Pace
new_pace period = record { period = period; last = 0 }

-- It comes at a time, in milliseconds: so many seconds passed since it came last.
abbrev pub comes_by : Option Period → (last : ℕ) → Option ℕ → Bool
comes_by None last now = false
comes_by (Some period) last None = false
comes_by (Some period) last (Some now) = has_passed period (now - last)

abbrev pub comes : Pace → Option ℕ → Bool
comes pace now = comes_by pace.period pace.last now

-- when it came last then
abbrev pub last_by : Bool → (last : ℕ) → Option ℕ → ℕ
last_by true last (Some now) = now
last_by true last None = last
last_by false last now = last

abbrev pub after : Pace → Option ℕ → Pace
after pace now = record pace { last = last_by (comes pace now) pace.last now }

-- By one look at a clock, whatever time it tells, it is said what is due of two that are done every so many seconds.
pub record IsPaced (reread report : Pace) (due : Due) (reread' report' : Pace) : Type 0 where
  pub now : Option ℕ
  pub due_reread : due.reread ≡ comes reread now
  pub due_report : due.report ≡ comes report now
  pub after_reread : reread' ≡ after reread now
  pub after_report : report' ≡ after report now

-- ---- over several looks at a clock, of which some may fail

-- at which of them it comes
abbrev pub comes_at : Option Period → (last : ℕ) → List (Option ℕ) → List Bool
comes_at period last [] = []
comes_at period last (now ∷ times) =
    comes_by period last now ∷ comes_at period (last_by (comes_by period last now) last now) times

-- The times do not fall, from one on.
abbrev pub DontFall : ℕ → List (Option ℕ) → Type 0
DontFall from [] = Unit {0}
DontFall from (None ∷ times) = DontFall from times
DontFall from (Some now ∷ times) = (from ≤ now) × DontFall now times

-- when it came last before the i-th look: at the last look before at which it came, or else at the beginning
abbrev pub last_before : (begin : ℕ) → List (Option ℕ) → List Bool → ℕ → ℕ
last_before begin times came zero = begin
last_before begin (now ∷ times) (c ∷ came) (suc i) = last_before (last_by c begin now) times came i
last_before begin _ _ (suc i) = begin

-- So many seconds have passed since a time.
abbrev pub HavePassed : (seconds since : ℕ) → Option ℕ → Type 0
HavePassed seconds since None = ⊥
HavePassed seconds since (Some now) = since + 1000 * seconds ≤ now

-- Over any times that do not fall, it comes at a look exactly where so many seconds have passed since it came last: so
-- at the first look at which they have. At a look that failed it does not come.
abbrev pub ComesOnTime : Type 0
ComesOnTime = (seconds : ℕ) (times : List (Option ℕ)) → DontFall 0 times → (i : ℕ) → i < length times →
    (slice_index_or (comes_at (Some (Seconds seconds)) 0 times) i false ≡ true)
    ↔ HavePassed seconds (last_before 0 times (comes_at (Some (Seconds seconds)) 0 times) i)
    (slice_index_or times i None)
