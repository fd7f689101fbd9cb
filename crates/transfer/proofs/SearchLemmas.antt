-- A search through the records of a ring, by their briefs.
use Rattle.std.proofs.Common.{◌≡◌, ℕ, ◌+◌, zero, suc, List, [], ◌∷◌, ◌++◌, length, slice_get, Some, ap, ◌∙◌}
use Rattle.std.proofs.Common.{arith}
use Rattle.station_ring.specs.declared.held.Brief.{Brief}
use Rattle.station_ring.specs.declared.held.Stream.{Stream}
use Rattle.station_ring.specs.Briefs.{TellFrom}
use Rattle.station_ring.specs.Rings.{RingValue, held_at}
use Rattle.transfer.specs.Filters.{TellAt}

get-front : (xs ys : List Brief) (k : ℕ) (b : Brief) → slice_get xs k ≡ Some b → slice_get (xs ++ ys) k ≡ Some b
get-front [] ys k b e = absurd cc
get-front (x ∷ xs) ys zero b e = e
get-front (x ∷ xs) ys (suc k) b e = get-front xs ys k b e

get-back : (xs ys : List Brief) (k : ℕ) → slice_get (xs ++ ys) (length xs + k) ≡ slice_get ys k
get-back [] ys k = ap (slice_get ys) (omega arith)
get-back (x ∷ xs) ys k = let e : length (x ∷ xs) + k ≡ suc (length xs + k) = omega arith in rw e (get-back xs ys k)

-- the first of two pieces
pub tell-older : (r : RingValue) (place : ℕ) (streams : List Stream) (older newer : List Brief)
    → TellFrom r place streams (older ++ newer) → TellAt r place streams older
tell-older r place streams older newer from = record {
  tell = λ k x b there at. from.tell k x b there (get-front older newer k b at);
}

-- the second
pub tell-newer : (r : RingValue) (place : ℕ) (streams : List Stream) (older newer : List Brief)
    → TellFrom r place streams (older ++ newer) → TellAt r (place + length older) streams newer
tell-newer r place streams older newer from = record {
  tell = λ k x b there at.
      let same : place + (length older + k) ≡ place + length older + k = omega arith in
      from.tell (length older + k) x b (ap (held_at r) same ∙ there) (get-back older newer k ∙ at);
}
