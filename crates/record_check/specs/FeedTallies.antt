-- What servers make of the records of a feed: how many of them none takes, which is the first, and where so many in a
-- row can't be read that the feed has lost its records' beginnings.
-- SEED Reference Manual 2.4, chapter 8, for what a record says; the feed is this project's own.
use Rattle.std.specs.Prelude.{ℕ, ◌+◌, ◌-◌, ◌*◌, ◌^◌, ◌==◌, if◌then◌else◌, Bool, min, List, [], ◌∷◌, Option, Some, None}
use Rattle.std.specs.Prelude.{Result, Ok, Err}
use Rattle.record_check.specs.Checks.{piece_read}
use Rattle.record_check.specs.Listing.{judged, reading_of}
use Rattle.record_check.specs.declared.fault.FileFault.{FileFault}
use Rattle.record_check.specs.declared.fault.FileFault.TheVariants.{Record, Station}
use Rattle.record_check.specs.declared.feed_tally.RefusedRecord.{RefusedRecord}
use Rattle.record_check.specs.declared.listing.Refused.{Refused}
use Rattle.record_check.specs.declared.listing.Refused.TheVariants.{Unread, Stranger}
use Rattle.protocol.specs.Record.{Facts}

-- the number in its file of a record that no server takes, and why none does
pub record RefusedValue : Type 0 where
  pub number : ℕ
  pub fault : FileFault

abbrev pub refused_value : RefusedRecord → RefusedValue
refused_value r = record { number = r.number; fault = r.fault }

-- how many bytes of its file are before a record, by its number; at most 2^64 - 1
abbrev pub offset_of : (number : ℕ) → ℕ
offset_of number = min ((number - 1) * 512) (2 ^ 64 - 1)

-- what was judged: the number in its file of the next record, how many no server takes and the first of them, how many
-- of the last ones in a row can't be read and the first of these, and the first of the first sixteen of a file that
-- followed each other and can't be read. No number is above 2^64 - 1.
pub record RefusedCountValue : Type 0 where
  pub next : ℕ
  pub refused : ℕ
  pub first : Option RefusedValue
  pub row : ℕ
  pub row_first : Option RefusedValue
  pub lost : Option RefusedValue

-- nothing was judged, and the next record has that number
abbrev pub nothing_judged : (next : ℕ) → RefusedCountValue
nothing_judged next =
    record { next = next; refused = 0; first = None; row = 0; row_first = None; lost = None }

abbrev pub one_more : ℕ → ℕ
one_more n = min (n + 1) (2 ^ 64 - 1)

-- the first of two, if it is there
abbrev pub either : Option RefusedValue → Option RefusedValue → Option RefusedValue
either None later = later
either (Some first) later = Some first

-- one record more
abbrev pub passed : RefusedCountValue → RefusedCountValue
passed c = record c { next = one_more c.next }

-- it is one that no server takes
abbrev pub with_refused : RefusedCountValue → RefusedValue → RefusedCountValue
with_refused c r = record c { refused = one_more c.refused; first = either c.first (Some r) }

-- no record that can't be read is the last one
abbrev pub row_ended : RefusedCountValue → RefusedCountValue
row_ended c = record c { row = 0; row_first = None }

-- so many in a row can't be read, of which that is the first
abbrev pub with_row : RefusedCountValue → ℕ → Option RefusedValue → RefusedCountValue
with_row c row first =
    record c { row = row; row_first = first; lost = if row == 16 then either c.lost first else c.lost }

-- one more can't be read
abbrev pub row_extended : RefusedCountValue → RefusedValue → RefusedCountValue
row_extended c r = with_row c (one_more c.row) (either c.row_first (Some r))

-- one record more, which has that number, by what it is
abbrev pub judged_as : RefusedCountValue → (number : ℕ) → Result Facts Refused → RefusedCountValue
judged_as c number (Ok x) = row_ended c
judged_as c number (Err (Unread fault)) =
    row_extended (with_refused c (record { number = number; fault = Record fault }))
    (record { number = number; fault = Record fault })
judged_as c number (Err (Stranger x)) =
    row_ended (with_refused c (record { number = number; fault = Station }))

-- the same by its 512 bytes, where a feed may have records of some stations
abbrev pub judged_with : (List ℕ → List ℕ → Bool) → RefusedCountValue → List ℕ → RefusedCountValue
judged_with has_station c bytes = judged_as (passed c) c.next (judged has_station (reading_of bytes))

-- all the records more
abbrev pub all_judged : (List ℕ → List ℕ → Bool) → RefusedCountValue → List (List ℕ) → RefusedCountValue
all_judged has_station c [] = c
all_judged has_station c (bytes ∷ records) = all_judged has_station (judged_with has_station c bytes) records

-- ---- a feed in pieces

-- the bytes of an unfinished record, and what was judged before them
pub record FeedTallyValue : Type 0 where
  pub held : List ℕ
  pub count : RefusedCountValue

-- before the first byte
abbrev pub nothing_seen : FeedTallyValue
nothing_seen = record { held = []; count = nothing_judged 1 }

-- a piece more: its records are judged, and what is left over is held
abbrev pub seen : (List ℕ → List ℕ → Bool) → FeedTallyValue → List ℕ → FeedTallyValue
seen has_station t piece =
    record {
      held = (piece_read t.held piece).rest;
      count = all_judged has_station t.count (piece_read t.held piece).records;
    }

-- a file begins, of which the first record that comes has that number: what is left over of another one is no record
abbrev pub file_begun : FeedTallyValue → (number : ℕ) → FeedTallyValue
file_begun t number =
    record { held = []; count = record (row_ended t.count) { next = number; lost = None } }
