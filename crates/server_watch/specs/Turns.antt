-- How long turns take: a count for each bound.
-- Prometheus, histograms: a bucket counts what is at most its bound.
use Rattle.std.specs.Prelude.{ℕ, ◌+◌, ◌-◌, ◌^◌, min, nat_le, if◌then◌else◌, List, [], ◌∷◌, codes, map}
use Rattle.status_page.specs.declared.value.TurnBucket.{TurnBucket}
use Rattle.server_watch.specs.declared.turns.Turns.{Turns}

-- the bounds in microseconds, and in seconds as they are told
abbrev pub bounds : List ℕ
bounds = 100 ∷ 500 ∷ 1000 ∷ 5000 ∷ 20000 ∷ 100000 ∷ 1000000 ∷ (2 ^ 64 - 1) ∷ []

abbrev pub bound_texts : List (List ℕ)
bound_texts =
    codes "0.0001" ∷ codes "0.0005" ∷ codes "0.001" ∷ codes "0.005" ∷ codes "0.02" ∷ codes "0.1" ∷ codes "1"
    ∷ codes "+Inf" ∷ []

-- a count with one more, which stays at the largest
abbrev pub one_more : ℕ → ℕ
one_more n = min (n + 1) (2 ^ 64 - 1)

-- a bucket with a turn of so many microseconds
abbrev pub with_turn_in : ℕ → TurnBucket → TurnBucket
with_turn_in micros b = if nat_le micros b.micros then record b { count = one_more b.count } else b

-- all with it
abbrev pub with_turn : ℕ → Turns → Turns
with_turn micros t =
    record {
      buckets = map (with_turn_in micros) t.buckets;
      count = one_more t.count;
      micros = min (t.micros + micros) (2 ^ 64 - 1);
    }
