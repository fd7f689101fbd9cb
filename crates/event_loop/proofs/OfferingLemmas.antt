-- Writes to a client's port, each of what the client was offered before.
use Rattle.std.proofs.Common.{◌≡◌, ℕ, ◌<◌, ◌≤◌, ◌+◌, ◌-◌, suc, arith, List, [], ◌∷◌, ◌++◌, refl, sym, ap, subst, ◌∙◌}
use Rattle.std.proofs.Common.{append_assoc, append-nil, Option, Some, None, Result, Ok, option_map}
use Rattle.std.specs.Result.{result_ok}
use Rattle.protocol.specs.Catalog.{Config}
use Rattle.protocol.specs.Client.{offered}
use Rattle.protocol.specs.World.{World, step}
use Rattle.protocol.specs.World.Event.{Take}
use Rattle.server_core.specs.declared.client.Gone.{Gone}
use Rattle.server_core.specs.declared.client.Offer.{Offer}
use Rattle.server_core.specs.declared.client.Offer.TheVariants.{Bytes}
use Rattle.server_core.specs.Filling.{IsOffered, client_at}
use Rattle.server_core.specs.Refusals.{offer_of}
use Rattle.server_core.specs.ServerValues.{ServerValue, StandsAt}
use Rattle.server_core.proofs.TakeLemmas.{offer-then-take}
use Rattle.event_loop.specs.declared.seat.Seat.{Seat}
use Rattle.event_loop.specs.declared.passes.Onward.TheVariants.{On, Stop, Over}
use Rattle.ports.specs.Calls.{Call, Tells}
use Rattle.ports.specs.declared.answers.Put.TheVariants.{Took as TookPut}
use Rattle.event_loop.specs.Deeds.{Deed, Tally, calls_of, calls_in, tallied, world_beyond}
use Rattle.event_loop.specs.Deeds.Deed.{Writes}
use Rattle.event_loop.specs.Going.{Does, Once, Whole}
use Rattle.event_loop.specs.Offering.{HandsSome, OnceOffered, SoFarOffered}
use Rattle.event_loop.specs.Passes.{ClientWrites}
use Rattle.event_loop.specs.Passes.ClientWrites.{enough, took}
use Rattle.event_loop.proofs.DeedLemmas.{Tells-nil, Tells-trans, faithful-append, flat_map-append, one-less}
use Rattle.event_loop.proofs.DeedLemmas.{tallied-append, world_beyond-append}
use Rattle.event_loop.proofs.WriteLemmas.{bytes-found, write-took}

-- ---- one write

found-bytes : (found : Result Offer Gone) → found ≡ Ok Bytes → Some Bytes ≡ result_ok found
found-bytes found is = sym (ap result_ok is)

-- The port took some bytes, the client was told so, and is offered something.
pub wrote-on : (config : Config) (w : World) (k count : ℕ) (a b : Option (List Call)) (mid last : ServerValue)
    (t : Tally) (s : Seat) (found next : Result Offer Gone) → IsOffered config w k found mid
    → HandsSome w k a b s found count
    → ((v : World) → StandsAt mid config v
    → StandsAt last config (step config (step config v (Take k count)) (Take k 0)))
    → ((v : World) → StandsAt mid config v → result_ok next ≡ option_map (λ c. offer_of (offered v.history c))
    (client_at (step config v (Take k count)) k))
    → OnceOffered config k w a b last t s s next 1
wrote-on config w k count a b mid last t s found next offers hands stands answer =
    let same : step config (step config w (Take k 0)) (Take k count) ≡ step config w (Take k count) =
    offer-then-take config w k count (bytes-found w k (found-bytes found hands.is ∙ offers.answer)) in
    record {
      deeds = Writes k s.port hands.bytes (Ok (TookPut count)) ∷ [];
      tells = hands.tells;
      offers = record {
        stands = subst (λ v. StandsAt last config (step config v (Take k 0))) same
            (stands (step config w (Take k 0)) offers.stands);
        answer = answer (step config w (Take k 0)) offers.stands
            ∙ ap (λ v. option_map (λ c. offer_of (offered w.history c)) (client_at v k)) same;
      };
      counted = refl;
      faithful = (hands.may.all, tt);
      how = λ n ds w' o rest.
          let more : suc n ≡ n + 1 = omega arith in
          subst (λ m. ClientWrites config k m w s (Writes k s.port hands.bytes (Ok (TookPut count)) ∷ ds) w' o) more
          (took hands.bytes count hands.may hands.some hands.fits rest);
    }

-- The port took some bytes, and the client was told so.
pub wrote-last : (config : Config) (w : World) (k count : ℕ) (a b : Option (List Call)) (mid last : ServerValue)
    (t : Tally) (s : Seat) (found : Result Offer Gone) → IsOffered config w k found mid
    → HandsSome w k a b s found count
    → ((v : World) → StandsAt mid config v → StandsAt last config (step config v (Take k count)))
    → Once (ClientWrites config k) config w a b last t t s s On
wrote-last config w k count a b mid last t s found offers hands stands =
    write-took config w k count hands.bytes a b last t s hands.may hands.some hands.fits
    (found-bytes found hands.is ∙ offers.answer) hands.tells (stands (step config w (Take k 0)) offers.stands)

-- ---- all of them

-- The client is offered something first.
pub offered-begins : (config : Config) (k limit : ℕ) (w : World) (calls : Option (List Call)) (server : ServerValue)
    (t : Tally) (s : Seat) (found : Result Offer Gone) → IsOffered config w k found server
    → SoFarOffered config k limit limit w calls calls server t s s found
offered-begins config k limit w calls server t s found offers = record {
  deeds = [];
  tells = Tells-nil calls;
  offers = offers;
  counted = refl;
  faithful = tt;
  how = λ ds w' o rest. rest;
}

less-by : (left made : ℕ) → made ≤ left → (left - made) + made ≡ left
less-by left made few = omega arith

module _ (config : Config) (k limit left : ℕ) (some : 0 < left) (w : World) (a b c : Option (List Call))
    (mid last : ServerValue) (t : Tally) (s s' : Seat) (found : Result Offer Gone)
    (so_far : SoFarOffered config k limit left w a b mid t s s' found) where
  -- so many writes more
  pub offered-goes-on : (s'' : Seat) (next : Result Offer Gone) (made : ℕ) → made ≤ left
      → ((v : World) → IsOffered config v k found mid → OnceOffered config k v b c last t s' s'' next made)
      → SoFarOffered config k limit (left - made) w a c last t s s'' next
  offered-goes-on s'' next made few once =
      let v : World = world_beyond config w so_far.deeds in
      let x = once v so_far.offers in
      record {
        deeds = so_far.deeds ++ x.deeds;
        tells = subst (Tells a c) (sym (flat_map-append calls_of so_far.deeds x.deeds))
            (Tells-trans a b c (calls_in so_far.deeds) (calls_in x.deeds) so_far.tells x.tells);
        offers = subst (λ u. IsOffered config u k next last) (sym (world_beyond-append config w so_far.deeds x.deeds))
            x.offers;
        counted = x.counted ∙ ap (λ y. tallied y x.deeds) so_far.counted
            ∙ sym (tallied-append t so_far.deeds x.deeds);
        faithful = faithful-append config w so_far.deeds x.deeds so_far.faithful x.faithful;
        how = λ ds w' o p.
            subst (λ l. ClientWrites config k limit w s l w' o) (sym (append_assoc so_far.deeds x.deeds ds))
            (so_far.how (x.deeds ++ ds) w' o
            (subst (λ n. ClientWrites config k n v s' (x.deeds ++ ds) w' o) (less-by left made few)
            (x.how (left - made) ds w' o
            (subst (λ u. ClientWrites config k (left - made) u s'' ds w' o)
            (world_beyond-append config w so_far.deeds x.deeds) p))));
      }

  -- the last one
  pub offered-ends : (o : Option Seat)
      → ((v : World) → IsOffered config v k found mid → (deeds : List Deed) × Does config v b c last t t deeds
      × ClientWrites config k left v s' deeds (world_beyond config v deeds) o)
      → Whole (ClientWrites config k) limit config w a c last t t s o
  offered-ends o once =
      let v : World = world_beyond config w so_far.deeds in
      let x = once v so_far.offers in
      record {
        deeds = so_far.deeds ++ x.0;
        does = record {
          tells = subst (Tells a c) (sym (flat_map-append calls_of so_far.deeds x.0))
              (Tells-trans a b c (calls_in so_far.deeds) (calls_in x.0) so_far.tells x.1.tells);
          stands = subst (StandsAt last config) (sym (world_beyond-append config w so_far.deeds x.0)) x.1.stands;
          counted = x.1.counted ∙ ap (λ y. tallied y x.0) so_far.counted ∙ sym (tallied-append t so_far.deeds x.0);
          faithful = faithful-append config w so_far.deeds x.0 so_far.faithful x.1.faithful;
        };
        how = subst (λ u. ClientWrites config k limit w s (so_far.deeds ++ x.0) u o)
            (sym (world_beyond-append config w so_far.deeds x.0)) (so_far.how x.0 _ o x.2);
      }

  -- a write after which there is none in this turn, or none at all
  pub offered-stops : (s'' : Seat) → ((v : World) → IsOffered config v k found mid
      → Once (ClientWrites config k) config v b c last t t s' s'' Stop)
      → Whole (ClientWrites config k) limit config w a c last t t s (Some s'')
  offered-stops s'' once = offered-ends (Some s'') (λ v offers. let x = once v offers in (
    x.deeds,
    x.does,
    subst (λ n. ClientWrites config k n v s' x.deeds (world_beyond config v x.deeds) (Some s''))
        (sym (one-less left some)) (x.how (left - 1)),
  ))

  pub offered-over : (s'' : Seat) → ((v : World) → IsOffered config v k found mid
      → Once (ClientWrites config k) config v b c last t t s' s'' Over)
      → Whole (ClientWrites config k) limit config w a c last t t s None
  offered-over s'' once = offered-ends None (λ v offers. let x = once v offers in (
    x.deeds,
    x.does,
    subst (λ n. ClientWrites config k n v s' x.deeds (world_beyond config v x.deeds) None)
        (sym (one-less left some)) (x.how (left - 1)),
  ))

  -- the last that the limit lets
  pub offered-runs-out : (s'' : Seat) → left ≡ 1 → ((v : World) → IsOffered config v k found mid
      → Once (ClientWrites config k) config v b c last t t s' s'' On)
      → Whole (ClientWrites config k) limit config w a c last t t s (Some s'')
  offered-runs-out s'' only once = offered-ends (Some s'') (λ v offers. let x = once v offers in (
    x.deeds,
    x.does,
    subst (λ n. ClientWrites config k n v s' x.deeds (world_beyond config v x.deeds) (Some s''))
        (sym only) (subst (λ l. ClientWrites config k 1 v s' l (world_beyond config v x.deeds) (Some s''))
        (append-nil x.deeds) (x.how 0 [] (world_beyond config v x.deeds) (Some s'') enough)),
  ))
