-- The last packets of stations that an earlier reader was given, and where wants go on after them.
-- SeedLink 3, DATA, FETCH and TIME. Left out: packets whose records can't be read, which are of no station.
use Rattle.std.specs.Prelude.{◌≡◌, ℕ, ◌+◌, Bool, false, ◌&&◌, if◌then◌else◌, List, [], ◌∷◌, map, Option, Some, None}
use Rattle.std.specs.Str.{bytes_eq}
use Rattle.slreader.specs.Wants.{WantValue, is_code}
use Rattle.slreader.specs.Tallies.{ReachedValue, Resume, TallyValue, reached_of, resume_of}

-- the last packet of a station
pub record LastValue : Type 0 where
  pub network : List ℕ
  pub station : List ℕ
  pub reached : ReachedValue

-- its codes are those of a station
abbrev pub is_named : LastValue → Bool
is_named l = is_code 2 l.network && is_code 5 l.station

-- it is of the station with these codes
abbrev pub is_last_of : (network station : List ℕ) → LastValue → Bool
is_last_of network station l = bytes_eq l.network network && bytes_eq l.station station

-- the first that is of that station
abbrev pub last_at : (network station : List ℕ) → List LastValue → Option ReachedValue
last_at network station [] = None
last_at network station (l ∷ ls) =
    if is_last_of network station l then Some l.reached else last_at network station ls

-- A want goes on after the last packet of its station, if there is one, also if it asks for a number of its own: that
-- is where it began.
abbrev pub resume_after : List LastValue → WantValue → Resume
resume_after lasts w = record (resume_of false w) { last = last_at w.network w.station lasts }

-- what is counted of several wants before the first packet that comes after those
abbrev pub tally_after : List LastValue → List WantValue → TallyValue
tally_after lasts wants = record { records = 0; resumes = map (resume_after lasts) wants }

-- the last packet of a want's station, if there is one, and then others
abbrev pub last_before : WantValue → Option ReachedValue → List LastValue → List LastValue
last_before w None lasts = lasts
last_before w (Some reached) lasts =
    record { network = w.network; station = w.station; reached = reached } ∷ lasts

-- the last packets of wants, of which the first has that number
abbrev pub lasts_from : TallyValue → ℕ → List WantValue → List LastValue
lasts_from t want [] = []
lasts_from t want (w ∷ ws) = last_before w (reached_of t want) (lasts_from t (want + 1) ws)

-- those of all wants
abbrev pub lasts_of : TallyValue → List WantValue → List LastValue
lasts_of t wants = lasts_from t 0 wants

-- ---- wants of which each goes on by a state

-- The wants are of different stations.
abbrev pub Differ : WantValue → WantValue → Type 0
Differ v w = v.network ≡ w.network → v.station ≡ w.station → ⊥

-- The want is of another station than all of these.
abbrev pub IsApart : WantValue → List WantValue → Type 0
IsApart v [] = Unit {0}
IsApart v (w ∷ ws) = Differ v w × IsApart v ws

-- No two of them are of one station.
abbrev pub AreApart : List WantValue → Type 0
AreApart [] = Unit {0}
AreApart (w ∷ ws) = IsApart w ws × AreApart ws
