-- How many records a turn brings.
use Rattle.std.proofs.Common.{◌≡◌, ℕ, zero, suc, ◌+◌, ◌*◌, ◌<◌, ◌≤◌, ◌==◌, Bool, true, false, if◌then◌else◌, List, []}
use Rattle.std.proofs.Common.{◌∷◌, ◌++◌, length, map, Option, Some, None, refl, sym, ap, subst, ◌∙◌, arith}
use Rattle.std.proofs.Common.{length-append, eqb-true, zero-add}
use Rattle.std.proofs.Math.Nat.{mul-le-mul_right}
use Rattle.std.proofs.lemmas.Bool.{eqb-false}
use Rattle.std.proofs.lemmas.List.Sums.{sum_by-append}
use Rattle.protocol.specs.Catalog.{Config}
use Rattle.protocol.specs.History.{Arrival}
use Rattle.protocol.specs.Streams.{FeedRead, feed_byte, feed_from}
use Rattle.protocol.specs.World.{World, accepted, arrived, step, world_from}
use Rattle.protocol.specs.World.Event.{Arrive}
use Rattle.protocol.proofs.FoundLemmas.{both}
use Rattle.event_loop.specs.declared.seat.Role.{Role}
use Rattle.event_loop.specs.declared.seat.Role.TheVariants.{Client as ClientRole, Feed as FeedRole}
use Rattle.event_loop.specs.declared.seat.Seat.{Seat}
use Rattle.event_loop.specs.Deeds.{Deed, world_beyond}
use Rattle.event_loop.specs.Feeding.{FeedReads, countable, fed, is_exhausted, world_fed}
use Rattle.event_loop.specs.Feeding.FeedReads.{enough, not_readable, piece, later, closed, failed}
use Rattle.event_loop.specs.Hearing.{Hearing, Heard, feeds_in, is_client}
use Rattle.event_loop.specs.Hearing.Hearing.{enough as heard_enough, quiet, fault, marks, opens, feeds, turns_away}
use Rattle.event_loop.specs.Hearing.Hearing.{turns_away_feed}
use Rattle.event_loop.specs.Passes.{ClientPass, ClientReads, ClientWrites, WritesAfter}
use Rattle.event_loop.specs.Passes.ClientReads.{enough as read_enough, not_readable as not_read, no_room}
use Rattle.event_loop.specs.Passes.ClientReads.{piece as read_piece, later as read_later, closed as read_closed}
use Rattle.event_loop.specs.Passes.ClientReads.{failed as read_failed}
use Rattle.event_loop.specs.Passes.ClientWrites.{enough as wrote_enough, not_writable, idle, ended, took, took_none}
use Rattle.event_loop.specs.Passes.ClientWrites.{later as write_later, failed as write_failed}
use Rattle.event_loop.specs.Turns.{BringsAtMost, PassOf, Passes}
use Rattle.event_loop.specs.Turns.Passes.{done, next}

-- ---- records that become whole

arrived-few : (h : List Arrival) (o : Option Arrival) → length (arrived h o) ≤ length h + 1
arrived-few h None = omega arith
arrived-few h (Some a) = omega (arith, length-append h (a ∷ []))

fed-few : (config : Config) (w : World) (records : List (List ℕ))
    → BringsAtMost (length records) w (world_fed config w records)
fed-few config w [] = omega arith
fed-few config w (r ∷ rs) =
    by (is_exhausted config w r) (fed-few config w rs) (fed-few config (step config w (Arrive r)) rs)
  where
    by : (b : Bool) → BringsAtMost (length rs) w (world_fed config w rs)
        → BringsAtMost (length rs) (step config w (Arrive r)) (world_fed config (step config w (Arrive r)) rs)
        → length (world_from config w (map Arrive
        (if b then countable config w rs else r ∷ countable config (step config w (Arrive r)) rs))).history
        ≤ length w.history + suc (length rs)
    by true passed rest = omega (arith, passed)
    by false passed rest =
        let first = arrived-few w.history (accepted config r) in
        omega (arith, rest, first)

-- A byte more makes a record whole, or is left over.
record IsRead (f g : FeedRead) (count : ℕ) : Type 0 where
  all : 512 * length g.records + length g.rest ≡ 512 * length f.records + length f.rest + count
  short : length g.rest < 512

byte-read : (f : FeedRead) (b : ℕ) → length f.rest < 512 → IsRead f (feed_byte f b) 1
byte-read f b short =
    both (length f.rest == 511)
    (λ y. let last = eqb-true (length f.rest) 511 y in
    rw y (record {
      all = omega (arith, last, length-append f.records ((f.rest ++ b ∷ []) ∷ []));
      short = omega arith;
    }))
    (λ n. let not_last = eqb-false (length f.rest) 511 n in rw n
    (record {
      all = omega (arith, length-append f.rest (b ∷ []));
      short = omega (arith, not_last, short, length-append f.rest (b ∷ []));
    }))

all-read : (f : FeedRead) (bytes : List ℕ) → length f.rest < 512 → IsRead f (feed_from f bytes) (length bytes)
all-read f [] short = record { all = omega arith; short = short }
all-read f (b ∷ bytes) short =
    let one = byte-read f b short in
    let rest = all-read (feed_byte f b) bytes one.short in
    record { all = omega (arith, one.all, rest.all); short = rest.short }

-- One read of a feed's port makes at most one record whole.
one-whole : (rest bytes : List ℕ) → length rest < 512 → length bytes ≤ 512 → length (fed rest bytes).records ≤ 1
one-whole rest bytes short few =
    let read = all-read (record { records = []; rest = rest }) bytes short in
    omega (arith, read.all, short, few)

-- ---- passes

module _ (config : Config) where
  feed-few : {n : ℕ} {w w' : World} {s : Seat} {o : Option Seat} {ds : List Deed} → FeedReads config n w s ds w' o
      → BringsAtMost n w w'
  feed-few enough = omega arith
  feed-few (not_readable shown) = omega arith
  feed-few {w = w} (piece most rest bytes may short is held few more) =
      let one = fed-few config w (fed rest bytes).records in
      let whole = one-whole rest bytes held (omega (arith, short, few)) in
      let rest' = feed-few more in
      omega (arith, one, whole, rest')
  feed-few (later most may short) = omega arith
  feed-few (closed most may short) = omega arith
  feed-few (failed most may short) = omega arith

  reads-bring : {k n : ℕ} {w w' : World} {s : Seat} {o : Option Seat} {ds : List Deed}
      → ClientReads config k n w s ds w' o → w'.history ≡ w.history
  reads-bring read_enough = refl
  reads-bring (not_read shown) = refl
  reads-bring (no_room none) = refl
  reads-bring (read_piece most bytes may short rest) = reads-bring rest
  reads-bring (read_later most may short) = refl
  reads-bring (read_closed most may short) = refl
  reads-bring (read_failed most may short) = refl

  writes-bring : {k n : ℕ} {w w' : World} {s : Seat} {o : Option Seat} {ds : List Deed}
      → ClientWrites config k n w s ds w' o → w'.history ≡ w.history
  writes-bring wrote_enough = refl
  writes-bring (not_writable shown) = refl
  writes-bring (idle may none over) = refl
  writes-bring (ended may over) = refl
  writes-bring (took bytes count may some few rest) = writes-bring rest
  writes-bring (took_none bytes may) = refl
  writes-bring (write_later bytes may) = refl
  writes-bring (write_failed bytes f may) = refl

  after-bring : (k n : ℕ) (w w' : World) (s o : Option Seat) (ds : List Deed)
      → WritesAfter config k n w s ds w' o → w'.history ≡ w.history
  after-bring k n w w' None o ds x = ap (λ (u : World). u.history) x.1
  after-bring k n w w' (Some s) o ds x = writes-bring x

  -- a feed's port brings so many at most, and a client's none
  pass-few : (role : Role) (limit : ℕ) (w w' : World) (s : Seat) (o : Option Seat) (ds : List Deed)
      → PassOf role config limit w s ds w' o
      → BringsAtMost ((if (if is_client role then false else true) then 1 else 0) * limit) w w'
  pass-few (ClientRole k) limit w w' s o ds x =
      let first = ap (λ (h : List Arrival). length h) (reads-bring x.first) in
      let then_ = ap (λ (h : List Arrival). length h) (after-bring k limit x.between w' x.seat o x.writes x.then_) in
      omega (arith, first, then_)
  pass-few (FeedRole rest) limit w w' s o ds x = let few = feed-few x in omega (arith, few)

  pub passes-few : {limit : ℕ} {w w' : World} {ss ss' : List Seat} {ds : List Deed}
      → Passes config limit w ss ds w' ss' → BringsAtMost (feeds_in ss * limit) w w'
  passes-few done = omega arith
  passes-few {limit = limit} {w = w} {w' = last} (next {s = s} {ss = ss} mid o pass rest ss' here others e e') =
      let one = pass-few s.role limit w mid s o pass here in
      let more = passes-few others in
      let here_is : ℕ = if (if is_client s.role then false else true) then 1 else 0 in
      let split : feeds_in (s ∷ ss) ≡ here_is + feeds_in ss =
      sum_by-append (λ (x : Seat). if (if is_client x.role then false else true) then 1 else 0) (s ∷ []) ss
      ∙ ap (λ n. n + feeds_in ss) (zero-add here_is) in
      subst (λ n. BringsAtMost (n * limit) w last) (sym split)
      (first-and-rest here_is (feeds_in ss) limit (length w.history) (length mid.history) (length last.history) one
      more)
    where
      first-and-rest : (a b limit x y z : ℕ) → y ≤ x + a * limit → z ≤ y + b * limit → z ≤ x + (a + b) * limit
      first-and-rest a b limit x y z p q = grind (arith, p, q)

  pub hearing-brings : {max_clients n : ℕ} {w w' : World} {ss : List Seat} {ds : List Deed} {o : Heard}
      → Hearing config max_clients n w ss ds w' o → w'.history ≡ w.history
  hearing-brings heard_enough = refl
  hearing-brings quiet = refl
  hearing-brings (fault f) = refl
  hearing-brings (marks happening old rest) = hearing-brings rest
  hearing-brings (opens port address apart few rest) = hearing-brings rest
  hearing-brings (feeds port apart few rest) = hearing-brings rest
  hearing-brings (turns_away port address apart rest) = hearing-brings rest
  hearing-brings (turns_away_feed port apart rest) = hearing-brings rest

-- what was heard, and then the passes over at most 16 feeds' ports
pub turn-few : (count limit : ℕ) (w mid last : World) → count ≤ 16 → mid.history ≡ w.history
    → BringsAtMost (count * limit) mid last → BringsAtMost (16 * limit) w last
turn-few count limit w mid last few same brings =
    let most : count * limit ≤ 16 * limit = mul-le-mul_right limit few in
    let size : length mid.history ≡ length w.history = ap (λ (h : List Arrival). length h) same in
    omega (arith, most, size, brings)
