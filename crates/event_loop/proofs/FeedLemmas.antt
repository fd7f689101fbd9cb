-- Records that become whole on a feed's port.
use Rattle.std.proofs.Common.{◌≡◌, ◌≢◌, ℕ, ◌+◌, ◌-◌, ◌^◌, ◌<◌, ◌==◌, true, false, if◌then◌else◌, List, [], ◌∷◌, ◌++◌}
use Rattle.std.proofs.Common.{length, take, drop, take-append-drop, append_assoc, refl, sym, ap, ap₂, subst, ◌∙◌}
use Rattle.std.proofs.Common.{append-nil, Option, Result, Ok, Err, is_some, is_ok, OnOk, OnErr, arith}
use Rattle.std.specs.Result.{is_err}
use Rattle.std.proofs.lemmas.Bool.Decides.{nat_tests}
use Rattle.protocol.specs.Catalog.{Config}
use Rattle.protocol.specs.declared.record.RecordFault.{RecordFault}
use Rattle.protocol.specs.World.{World, accepted, step}
use Rattle.protocol.specs.World.Event.{Arrive}
use Rattle.protocol.proofs.FoundLemmas.{both}
use Rattle.server_core.specs.declared.arrivals.ArriveFault.{ArriveFault}
use Rattle.server_core.specs.declared.arrivals.ArriveFault.TheVariants.{Record, UnknownStation, Exhausted}
use Rattle.server_core.specs.Arrivals.{answer_to, IsExhausted}
use Rattle.server_core.proofs.ArriveLemmas.{answered-as-accepted}
use Rattle.server_core.specs.ServerValues.{ServerValue, StandsAt}
use Rattle.event_loop.specs.Deeds.{refused_more}
use Rattle.std.specs.Borrow.{Bor}
use Rattle.protocol.specs.Streams.{FeedRead, feed_byte, feed_from}
use Rattle.protocol.proofs.Feeds.{feed_from-append}
use Rattle.feeder.specs.Feedings.{feed_read, lent_records, left_over}
use Rattle.event_loop.specs.Feeding.{fed, is_full, is_exhausted, world_with, refusal, refusals, world_fed, Arrives}

-- ---- one record after the other

-- the world after a record is the world after its events
world_fed-one : (config : Config) (w : World) (r : List ℕ) (rs : List (List ℕ)) →
    world_fed config w (r ∷ rs) ≡ world_fed config (world_with config w r) rs
world_fed-one config w r rs = both (is_exhausted config w r) (λ y. rw y refl) (λ n. rw n refl)

pub world_fed-append : (config : Config) (w : World) (rs qs : List (List ℕ)) →
    world_fed config w (rs ++ qs) ≡ world_fed config (world_fed config w rs) qs
world_fed-append config w [] qs = refl
world_fed-append config w (r ∷ rs) qs =
    world_fed-one config w r (rs ++ qs) ∙ world_fed-append config (world_with config w r) rs qs
    ∙ ap (λ v. world_fed config v qs) (sym (world_fed-one config w r rs))

pub refusals-append : (config : Config) (w : World) (rs qs : List (List ℕ)) →
    refusals config w (rs ++ qs) ≡ refusals config w rs + refusals config (world_fed config w rs) qs
refusals-append config w [] qs = omega arith
refusals-append config w (r ∷ rs) qs =
    let rest = refusals-append config (world_with config w r) rs qs in
    let e = ap (λ v. refusals config v qs) (world_fed-one config w r rs) in
    omega (arith, rest, e)

refused_more-twice : (d m n : ℕ) → refused_more (refused_more d m) n ≡ refused_more d (m + n)
refused_more-twice d m n = omega arith

pub arrives-none : (config : Config) (w : World) (server : ServerValue) (refused : ℕ) → StandsAt server config w →
    Arrives config w [] server refused refused
arrives-none config w server refused stands = record { stands = stands; counted = omega arith }

pub arrives-then : (config : Config) (w : World) (rs qs : List (List ℕ)) (server' server'' : ServerValue) (d d' d'' : ℕ)
    →
    Arrives config w rs server' d d' → Arrives config (world_fed config w rs) qs server'' d' d'' →
    Arrives config w (rs ++ qs) server'' d d''
arrives-then config w rs qs server' server'' d d' d'' p q = record {
  stands = subst (StandsAt server'' config) (sym (world_fed-append config w rs qs)) q.stands;
  counted =
      q.counted ∙ ap (λ x. refused_more x (refusals config (world_fed config w rs) qs)) p.counted
      ∙ refused_more-twice d (refusals config w rs) (refusals config (world_fed config w rs) qs)
      ∙ ap (refused_more d) (sym (refusals-append config w rs qs));
}

-- ---- what one record is answered

full-false : (w : World) → length w.history < 2 ^ 64 - 1 → is_full w ≡ false
full-false w few = let h : length w.history < 18446744073709551615 = few in grind (arith, nat_tests)

full-true : (w : World) → length w.history ≡ 2 ^ 64 - 1 → is_full w ≡ true
full-true w full = let h : length w.history ≡ 18446744073709551615 = full in grind (arith, nat_tests)

-- a record that is an event, and is refused or not
module _ (config : Config) (w : World) (r : List ℕ) (new : ServerValue) (d d' : ℕ) where
  one-event : is_exhausted config w r ≡ false → StandsAt new config (step config w (Arrive r))
      → d' ≡ refused_more d (refusal config w r) →
      Arrives config w (r ∷ []) new d d'
  one-event event stands counted = record {
    stands = subst (StandsAt new config) (sym (world_fed-one config w r []) ∙ refl) (rw event stands);
    counted = counted ∙ ap (refused_more d) (omega arith);
  }

  no-event : is_exhausted config w r ≡ true → StandsAt new config w → d' ≡ refused_more d (refusal config w r) →
      Arrives config w (r ∷ []) new d d'
  no-event exhausted stands counted = record {
    stands = subst (StandsAt new config) (sym (world_fed-one config w r []) ∙ refl) (rw exhausted stands);
    counted = counted ∙ ap (refused_more d) (omega arith);
  }

-- what `arrive` says of a record
pub record Answers (config : Config) (w : World) (r : List ℕ) (result : Result ℕ ArriveFault)
    (old new : ServerValue) : Type 0 where
  pub stands : result ≢ Err Exhausted → StandsAt new config (step config w (Arrive r))
  pub answer : result ≢ Err Exhausted → result ≡ answer_to config w.history r
  pub exhausted : result ≡ Err Exhausted → IsExhausted config w.history r
  pub counted : OnOk result (length w.history < 2 ^ 64 - 1)
  pub unchanged : OnErr result (new ≡ old)

ok-other : (n : ℕ) → ◌≢◌ {A = Result ℕ ArriveFault} (Ok n) (Err Exhausted)
ok-other n e = cc

unknown-other : ◌≢◌ {A = Result ℕ ArriveFault} (Err UnknownStation) (Err Exhausted)
unknown-other e = cc

record-other : (f : RecordFault) → ◌≢◌ {A = Result ℕ ArriveFault} (Err (Record f)) (Err Exhausted)
record-other f e = cc

pub on-ok : {T E : Type 0} {P Q : Type 0} (r : Result T E) → (P → Q) → OnOk r P → OnOk r Q
on-ok (Ok x) f p = f p
on-ok (Err e) f p = tt

pub arrives-one : (config : Config) (w : World) (r : List ℕ) (result : Result ℕ ArriveFault) (old new : ServerValue)
    (d d' : ℕ) →
    Answers config w r result old new → StandsAt old config w → d' ≡ refused_more d (if is_err result then 1 else 0) →
    Arrives config w (r ∷ []) new d d'
arrives-one config w r (Ok n) old new d d' a stands counted =
    let other = ok-other n in
    let taken : is_some (accepted config r) ≡ true = sym (answered-as-accepted config w.history r)
    ∙ ap is_ok (sym (a.answer other)) in
    let room : is_full w ≡ false = full-false w a.counted in
    let none : refusal config w r ≡ 0 = rw (taken, room) refl in
    one-event config w r new d d' (rw (taken, room) refl) (a.stands other) (counted ∙ rw none refl)
arrives-one config w r (Err Exhausted) old new d d' a stands counted =
    let is = a.exhausted refl in
    let full : is_full w ≡ true = full-true w is.full in
    let one : refusal config w r ≡ 1 = rw (is.would_be_taken, full) refl in
    no-event config w r new d d' (rw (is.would_be_taken, full) refl) (rw a.unchanged stands) (counted ∙ rw one refl)
arrives-one config w r (Err UnknownStation) old new d d' a stands counted =
    let other = unknown-other in
    let refused : is_some (accepted config r) ≡ false = sym (answered-as-accepted config w.history r)
    ∙ ap is_ok (sym (a.answer other)) in
    let one : refusal config w r ≡ 1 = rw refused refl in
    one-event config w r new d d' (rw refused refl) (a.stands other) (counted ∙ rw one refl)
arrives-one config w r (Err (Record f)) old new d d' a stands counted =
    let other = record-other f in
    let refused : is_some (accepted config r) ≡ false = sym (answered-as-accepted config w.history r)
    ∙ ap is_ok (sym (a.answer other)) in
    let one : refusal config w r ≡ 1 = rw refused refl in
    one-event config w r new d d' (rw refused refl) (a.stands other) (counted ∙ rw one refl)

-- ---- a piece that is read in parts

behind_byte : (front : List (List ℕ)) (f : FeedRead) (b : ℕ) →
    feed_byte (feed_read (front ++ f.records) f.rest) b
    ≡ feed_read (front ++ (feed_byte f b).records) (feed_byte f b).rest
behind_byte front f b =
    both (length f.rest == 511)
    (λ y. rw y (ap (λ l. feed_read l []) (append_assoc front f.records ((f.rest ++ b ∷ []) ∷ []))))
    (λ n. rw n)

behind : (front : List (List ℕ)) (f : FeedRead) (piece : List ℕ) →
    feed_from (feed_read (front ++ f.records) f.rest) piece
    ≡ feed_read (front ++ (feed_from f piece).records) (feed_from f piece).rest
behind front f [] = refl
behind front f (b ∷ piece) = ap (λ g. feed_from g piece) (behind_byte front f b) ∙ behind front (feed_byte f b) piece

records_behind : (records : List (List ℕ)) (held piece : List ℕ) →
    feed_from (feed_read records held) piece ≡ feed_read (records ++ (fed held piece).records) (fed held piece).rest
records_behind records held piece = ap (λ l. feed_from (feed_read l held) piece) (sym (append-nil records))
    ∙ behind records (feed_read [] held) piece

-- What a cutter is said to read of a piece.
abbrev CutterReads : (held piece : List ℕ) → ℕ → Option (Bor (List ℕ)) → Type 0
CutterReads held piece n whole = (records : List (List ℕ)) →
    feed_from (feed_read records held) (take n piece)
    ≡ feed_read (records ++ lent_records whole) (left_over held piece whole)

-- So the piece gives the record that was lent, and then what the bytes behind it give.
pub fed-in-two : (held piece held' piece' : List ℕ) (n : ℕ) (whole : Option (Bor (List ℕ)))
    → CutterReads held piece n whole →
    held' ≡ left_over held piece whole → piece' ≡ drop n piece →
    fed held piece ≡ feed_read (lent_records whole ++ (fed held' piece').records) (fed held' piece').rest
fed-in-two held piece held' piece' n whole reads h d =
    ap (feed_from (feed_read [] held)) (sym (take-append-drop n piece))
    ∙ feed_from-append (feed_read [] held) (take n piece) (drop n piece)
    ∙ ap (λ f. feed_from f (drop n piece)) (reads [])
    ∙ ap₂ (λ x y. feed_from (feed_read (lent_records whole) x) y) (sym h) (sym d)
    ∙ records_behind (lent_records whole) held' piece'
