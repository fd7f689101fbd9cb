-- What is counted of the packets that a reader was given.
-- SeedLink 3, data packets. Left out: packets that no want asked for, which are counted like others.
use Rattle.std.specs.Prelude.{ℕ, ℤ, ◌+◌, ◌-◌, ◌^◌, Bool, true, false, ◌&&◌, ◌||◌, if◌then◌else◌, List, [], ◌∷◌, map}
use Rattle.std.specs.Prelude.{min, slice_range, Option, Some, None, option_map, option_and_then, slice_get}
use Rattle.std.specs.Result.{result_ok}
use Rattle.std.specs.Str.{bytes_eq}
use Rattle.protocol.specs.Packet.{next_number, number_of}
use Rattle.protocol.specs.Record.{Facts, header_of}
use Rattle.slreader.specs.Wants.{WantValue, PlanValue}
use Rattle.slreader.specs.Wants.PlanValue.{Uni, Multi}

-- the last packet of a want: its number, and the end of its record if that can be read
pub record ReachedValue : Type 0 where
  pub number : ℕ
  pub end : Option ℤ

-- how far a want is: the last packet of its station, or of any station
pub record Resume : Type 0 where
  pub is_any : Bool
  pub network : List ℕ
  pub station : List ℕ
  pub last : Option ReachedValue

-- how many packets were given, at most 2^64 - 1, and where each want goes on
pub record TallyValue : Type 0 where
  pub records : ℕ
  pub resumes : List Resume

-- The record has those codes; one that can't be read has none.
abbrev pub has_codes : List ℕ → List ℕ → Option Facts → Bool
has_codes network station None = false
has_codes network station (Some x) = bytes_eq x.network network && bytes_eq x.station station

-- the packet with that number and that record
abbrev pub reached_at : Option Facts → ℕ → ReachedValue
reached_at facts number = record { number = number; end = option_map (λ x. x.stop) facts }

-- the want is at the packet with that number and that record
abbrev pub resumed : Option ℕ → Option Facts → Resume → Resume
resumed number facts w = record w { last = option_map (reached_at facts) number }

-- A packet with that number and that record is one of the want's station, or is not.
abbrev pub passed : Option ℕ → Option Facts → Resume → Resume
passed number facts w = if w.is_any || has_codes w.network w.station facts then resumed number facts w else w

-- the number that a packet has behind `SL`
abbrev pub packet_number : List ℕ → Option ℕ
packet_number packet = number_of (slice_range packet 2 8)

-- what its record says, if it can be read
unfoldable pub packet_facts : List ℕ → Option Facts
packet_facts packet = result_ok (header_of (slice_range packet 8 520))

-- one packet more
abbrev pub counted : TallyValue → List ℕ → TallyValue
counted t packet =
    record {
      records = min (t.records + 1) (2 ^ 64 - 1);
      resumes = map (passed (packet_number packet) (packet_facts packet)) t.resumes;
    }

-- before the first packet
abbrev pub resume_of : Bool → WantValue → Resume
resume_of is_any w = record { is_any = is_any; network = w.network; station = w.station; last = None }

abbrev pub resumes_of : PlanValue → List Resume
resumes_of (Uni w) = resume_of true w ∷ []
resumes_of (Multi wants) = map (resume_of false) wants

abbrev pub tally_of : PlanValue → TallyValue
tally_of p = record { records = 0; resumes = resumes_of p }

-- The last packet of a want; one that is not there has none.
abbrev pub reached_of : TallyValue → ℕ → Option ReachedValue
reached_of t want = option_and_then (λ (w : Resume). w.last) (slice_get t.resumes want)

-- the number after a packet's
abbrev pub number_after : ReachedValue → ℕ
number_after r = next_number r.number

-- Where a want goes on; one that is not there goes on nowhere.
abbrev pub next_of : TallyValue → ℕ → Option ℕ
next_of t want = option_map number_after (reached_of t want)
