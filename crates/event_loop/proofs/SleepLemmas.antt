-- The pass over a seat that sleeps makes no call.
use Rattle.std.proofs.Common.{◌≡◌, ℕ, zero, suc, true, false, List, [], refl, sym, ap, subst, Option}
use Rattle.std.proofs.Common.{Some, None}
use Rattle.std.proofs.Common.{option_map}
use Rattle.std.specs.Prelude.{is_some, slice_get}
use Rattle.protocol.specs.Catalog.{Config}
use Rattle.protocol.specs.Client.{Client, offered}
use Rattle.protocol.specs.World.{World, client_of}
use Rattle.protocol.proofs.FoundLemmas.{both}
use Rattle.server_core.specs.declared.client.Offer.{Offer}
use Rattle.server_core.specs.declared.client.Offer.TheVariants.{Bytes, Ended, Idle}
use Rattle.server_core.specs.Filling.{client_at}
use Rattle.server_core.specs.Marks.{IsSpared}
use Rattle.server_core.specs.Refusals.{is_idle as finds_none, offer_of}
use Rattle.server_core.specs.ServerValues.{ServerValue, StandsAt, mark_at}
use Rattle.event_loop.specs.declared.seat.Role.{Role}
use Rattle.event_loop.specs.declared.seat.Role.TheVariants.{Client as ClientRole, Feed as FeedRole}
use Rattle.event_loop.specs.declared.seat.Seat.{Seat}
use Rattle.ports.specs.Calls.{Call}
use Rattle.event_loop.specs.Deeds.{Tally, world_beyond}
use Rattle.event_loop.specs.Passes.{ClientReads, ClientWrites}
use Rattle.event_loop.specs.Passes.ClientReads.{enough as enough_reads, not_readable}
use Rattle.event_loop.specs.Feeding.{FeedReads}
use Rattle.event_loop.specs.Feeding.FeedReads.{enough as enough_fed, not_readable as not_fed}
use Rattle.event_loop.specs.Going.{Whole}
use Rattle.event_loop.specs.Turns.{PassOf, SeatPass}
use Rattle.event_loop.specs.Sleeping.{IsAsleep}
use Rattle.event_loop.proofs.DeedLemmas.{does-nothing}
use Rattle.event_loop.proofs.SeatPassLemmas.{pass-both, same-open}
use Rattle.event_loop.proofs.WriteLemmas.{write-spared, write-unwritable}

-- What is known of a server's clients that are not marked.
pub record SparesUnmarked (server : ServerValue) : Type 0 where
  pub spared : (k : ℕ) → mark_at server k ≡ Some false → (config : Config) (w : World) → StandsAt server config w
      → IsSpared config w k
  pub there : (k : ℕ) → mark_at server k ≡ Some false → (config : Config) (w : World) → StandsAt server config w
      → is_some (client_of (slice_get w.connections k)) ≡ true

is-it : (o : Offer) → finds_none o ≡ true → Idle ≡ o
is-it Idle e = refl
is-it Bytes e = absurd cc
is-it Ended e = absurd cc

-- An offer to it finds nothing.
found-idle : (config : Config) (w : World) (k : ℕ) → IsSpared config w k → is_some (client_at w k) ≡ true
    → Some Idle ≡ option_map (λ c. offer_of (offered w.history c)) (client_at w k)
found-idle config w k spared opened = by (client_at w k) refl opened
  where
    by : (o : Option Client) → client_at w k ≡ o → is_some o ≡ true
        → Some Idle ≡ option_map (λ c. offer_of (offered w.history c)) o
    by None e opened = absurd cc
    by (Some c) e opened = ap Some (is-it (offer_of (offered w.history c)) (spared.idle c e))

read-none : (config : Config) (w : World) (k limit : ℕ) (calls : Option (List Call)) (server : ServerValue)
    (t : Tally) (s : Seat) → s.readable ≡ false → StandsAt server config w
    → Whole (ClientReads config k) limit config w calls calls server t t s (Some s)
read-none config w k zero calls server t s shown stands =
    record { deeds = []; does = does-nothing config w calls server t stands; how = enough_reads }
read-none config w k (suc n) calls server t s shown stands =
    record { deeds = []; does = does-nothing config w calls server t stands; how = not_readable shown }

feed-none : (config : Config) (w : World) (limit : ℕ) (calls : Option (List Call)) (server : ServerValue) (t : Tally)
    (s : Seat) → s.readable ≡ false → StandsAt server config w
    → Whole (FeedReads config) limit config w calls calls server t t s (Some s)
feed-none config w zero calls server t s shown stands =
    record { deeds = []; does = does-nothing config w calls server t stands; how = enough_fed }
feed-none config w (suc n) calls server t s shown stands =
    record { deeds = []; does = does-nothing config w calls server t stands; how = not_fed shown }

-- The pass over a seat that sleeps is done without a call, and leaves it.
pub asleep-pass : (config : Config) (limit : ℕ) (w : World) (calls : Option (List Call)) (server : ServerValue)
    (t : Tally) (s : Seat) → SparesUnmarked server → IsAsleep server s → StandsAt server config w
    → Whole (SeatPass config) limit config w calls calls server t t s (Some s)
asleep-pass config limit w calls server t s spares asleep stands = by s.role refl
  where
    writes : (k : ℕ) → s.role ≡ ClientRole k → (v : World) → StandsAt server config v
        → Whole (ClientWrites config k) limit config v calls calls server t t s (Some s)
    writes k e v there =
        both s.writable
        (λ yes.
        let unmarked = asleep.unmarked k e yes in
        let spared = spares.spared k unmarked config v there in
        write-spared config v k limit calls server t s yes
        (found-idle config v k spared (spares.there k unmarked config v there)) spared.nothing there)
        (λ no. write-unwritable config v k limit calls server t s no there)

    by : (r : Role) → s.role ≡ r → Whole (SeatPass config) limit config w calls calls server t t s (Some s)
    by (ClientRole k) e =
        pass-both config limit w calls s k calls calls server server t s (Some s) e
        (subst
        (λ x. Whole (ClientReads config k) limit config w calls calls server t t x (Some s))
        (sym (same-open s (ClientRole k) e))
        (read-none config w k limit calls server t s asleep.unreadable stands))
        (writes k e)
    by (FeedRole rest) e =
        let none = feed-none config w limit calls server t s asleep.unreadable stands in
        record {
          deeds = none.deeds;
          does = none.does;
          how = subst (λ r. PassOf r config limit w s none.deeds (world_beyond config w none.deeds) (Some s)) (sym e)
              none.how;
        }
