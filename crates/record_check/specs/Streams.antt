-- The streams of files of records: what each has, and where it has gaps and overlaps in the order of time.
-- SEED Reference Manual 2.4, chapter 8, for what a record says. A stream is the records of one type of a channel.
use Rattle.std.specs.Prelude.{◌≡◌, ◌<◌, ℕ, ℤ, pos, negsuc, ◌-ℤ◌, ◌+◌, ◌-◌, ◌*◌, ◌^◌}
use Rattle.std.specs.Prelude.{◌==◌, ◌&&◌, ◌||◌, not, Bool, true, false}
use Rattle.std.specs.Prelude.{nat_lt, int_lt, min, if◌then◌else◌, List, [], ◌∷◌, ◌++◌, map, length, Option, Some, None}
use Rattle.std.specs.Prelude.{get_or, slice_get, slice_set, IsPermutation, IsSortedByKey}
use Rattle.std.specs.List.{list_any}
use Rattle.std.specs.Ordering.{int_cmp}
use Rattle.std.specs.Str.{bytes_eq}
use Rattle.protocol.specs.declared.record.Kind.{Kind}
use Rattle.protocol.specs.Record.{Facts}
use Rattle.record_check.specs.declared.runs.Seam.{Seam}
use Rattle.record_check.specs.declared.runs.Seam.TheVariants.{Even, Gap, Overlap, Twice}
use Rattle.record_check.specs.Words.{kind_letter}

-- ---- gaps and overlaps

-- the time that a record takes, and how many samples it has
pub record Extent : Type 0 where
  pub start : ℤ
  pub stop : ℤ
  pub samples : ℕ

abbrev pub extent_of : Facts → Extent
extent_of x = record { start = x.start; stop = x.stop; samples = x.samples }

-- a number, and 0 for one below 0
abbrev pub not_below_0 : ℤ → ℕ
not_below_0 (pos n) = n
not_below_0 (negsuc k) = 0

-- by how many ticks a moment is after another one; 0 if it is not
abbrev pub ticks_after : (earlier later : ℤ) → ℕ
ticks_after earlier later = not_below_0 (later -ℤ earlier)

-- So many ticks are more than half a sample of the record, whose samples take the ticks from its start to its end.
abbrev pub is_longer : Extent → ℕ → Bool
is_longer e ticks = nat_lt (ticks_after e.start e.stop) (2 * e.samples * ticks)

-- A record that starts then starts more than half a sample after the end of this one.
abbrev pub is_gap : Extent → ℤ → Bool
is_gap e start = is_longer e (ticks_after e.stop start)

-- by how many ticks it leaves a gap
abbrev pub missing_before : Extent → ℤ → ℕ
missing_before e start = if is_gap e start then ticks_after e.stop start else 0

-- It starts more than half a sample before that end.
abbrev pub is_overlap : Extent → ℤ → Bool
is_overlap e start = is_longer e (ticks_after start e.stop)

-- ---- runs

-- A run: records of a stream that came one after the other, each where the one before it ends, within half a sample.
-- Where the first starts, and the last.
pub record RunValue : Type 0 where
  pub start : ℤ
  pub latest : Extent

-- the run that begins with a record
abbrev pub run_of : Facts → RunValue
run_of x = record { start = x.start; latest = extent_of x }

-- A record that starts then goes on with a run: it leaves no gap, and does not overlap the last one. Only records of
-- data have samples at a rate; between others there are neither gaps nor overlaps.
abbrev pub goes_on : (is_data : Bool) → RunValue → ℤ → Bool
goes_on is_data r start = not (is_data && (is_gap r.latest start || is_overlap r.latest start))

-- one record more goes on with the last run if there is one, or begins one
abbrev pub runs_behind : (is_data : Bool) → Facts → List RunValue → (last : Option RunValue) → List RunValue
runs_behind is_data x runs None = runs ++ run_of x ∷ []
runs_behind is_data x runs (Some r) =
    if goes_on is_data r x.start then slice_set runs (length runs - 1) (record r { latest = extent_of x })
    else runs ++ run_of x ∷ []

abbrev pub runs_with : (is_data : Bool) → Facts → List RunValue → List RunValue
runs_with is_data x runs = runs_behind is_data x runs (slice_get runs (length runs - 1))

-- ---- streams

-- The codes and the type of a stream; how many records it has, at most 2^64 - 1, the earliest start and the latest end;
-- and its runs, as they came.
pub record StreamValue : Type 0 where
  pub network : List ℕ
  pub station : List ℕ
  pub location : List ℕ
  pub channel : List ℕ
  pub kind : Kind
  pub records : ℕ
  pub first : ℤ
  pub last : ℤ
  pub runs : List RunValue

-- The record is one of the stream.
abbrev pub is_of : Facts → StreamValue → Bool
is_of x s =
    bytes_eq s.network x.network && bytes_eq s.station x.station && bytes_eq s.location x.location
    && bytes_eq s.channel x.channel && (kind_letter s.kind == kind_letter x.kind)

-- It has data (68, D).
abbrev pub is_data : StreamValue → Bool
is_data s = kind_letter s.kind == 68

abbrev pub earlier : ℤ → ℤ → ℤ
earlier a b = if int_lt b a then b else a

abbrev pub later : ℤ → ℤ → ℤ
later a b = if int_lt a b then b else a

-- a count, with one more if that is so
abbrev pub more_if : Bool → ℕ → ℕ
more_if is_so n = if is_so then min (n + 1) (2 ^ 64 - 1) else n

-- the stream that begins with a record
abbrev pub begun : Facts → StreamValue
begun x =
    record {
      network = x.network;
      station = x.station;
      location = x.location;
      channel = x.channel;
      kind = x.kind;
      records = 1;
      first = x.start;
      last = x.stop;
      runs = run_of x ∷ [];
    }

-- with one record more
unfoldable pub gone_on : Facts → StreamValue → StreamValue
gone_on x s =
    record s {
      records = more_if true s.records;
      first = earlier s.first x.start;
      last = later s.last x.stop;
      runs = runs_with (is_data s) x s.runs;
    }

-- the same, if the record is one of it
abbrev pub on_if : Facts → StreamValue → StreamValue
on_if x s = if is_of x s then gone_on x s else s

-- One of the streams has the record.
abbrev pub is_known : Facts → List StreamValue → Bool
is_known x streams = list_any (is_of x) streams

-- the streams with one record more: it belongs to one of them, or begins one
abbrev pub streams_with : List StreamValue → Facts → List StreamValue
streams_with streams x = if is_known x streams then map (on_if x) streams else streams ++ begun x ∷ []

-- ---- in the order of time

-- The second is the first stream with its runs in the order of their starts.
pub record IsInOrder (s s' : StreamValue) : Type 0 where
  pub same : s' ≡ record s { runs = s'.runs }
  pub moved : IsPermutation s.runs s'.runs
  pub sorted : IsSortedByKey (λ (r : RunValue). r.start) int_cmp s'.runs

-- Each of the second streams is that of the first, in order.
pub record AreInOrder (streams streams' : List StreamValue) : Type 0 where
  pub count : length streams' ≡ length streams
  pub each : (k : ℕ) (d : StreamValue) → k < length streams
      → IsInOrder (get_or streams k d) (get_or streams' k d)

-- what a run and the records before it have both, which end at `reached`: a part of the run, or all of it
abbrev pub shared : (reached : Extent) → RunValue → Seam
shared reached r =
    if int_lt reached.stop r.latest.stop then Overlap r.start reached.stop else Twice r.start r.latest.stop

-- between the record that ends last and a run that comes next
abbrev pub seam_before : (reached : Extent) → RunValue → Seam
seam_before reached r =
    if is_gap reached r.start then Gap reached.stop r.start
    else if is_overlap reached r.start then shared reached r
    else Even

-- the record that ends last, with a run more
abbrev pub reached_with : (reached : Extent) → RunValue → Extent
reached_with reached r = if int_lt reached.stop r.latest.stop then r.latest else reached

-- before each of some runs
abbrev pub seams_from : (reached : Extent) → List RunValue → List Seam
seams_from reached [] = []
seams_from reached (r ∷ runs) = seam_before reached r ∷ seams_from (reached_with reached r) runs

-- between runs
abbrev pub seams_of : List RunValue → List Seam
seams_of [] = []
seams_of (r ∷ runs) = seams_from r.latest runs

-- ---- how many there are

abbrev pub is_hole : Seam → Bool
is_hole Even = false
is_hole (Gap from to) = true
is_hole (Overlap from to) = false
is_hole (Twice from to) = false

abbrev pub is_double : Seam → Bool
is_double Even = false
is_double (Gap from to) = false
is_double (Overlap from to) = true
is_double (Twice from to) = true

-- so many gaps, and so many overlaps; what is there twice counts as one
pub record SeamCountValue : Type 0 where
  pub gaps : ℕ
  pub overlaps : ℕ

abbrev pub with_seam : SeamCountValue → Seam → SeamCountValue
with_seam c seam =
    record { gaps = more_if (is_hole seam) c.gaps; overlaps = more_if (is_double seam) c.overlaps }

-- with those of seams
abbrev pub with_seams : SeamCountValue → List Seam → SeamCountValue
with_seams c [] = c
with_seams c (seam ∷ seams) = with_seams (with_seam c seam) seams

-- those of runs
abbrev pub seam_count : List RunValue → SeamCountValue
seam_count runs = with_seams (record { gaps = 0; overlaps = 0 }) (seams_of runs)
