-- The pass over one seat, by whose it is.
use Rattle.std.proofs.Common.{◌≡◌, ℕ, List, [], ◌++◌, refl, sym, ap, subst, append-nil, Option, Some, None}
use Rattle.protocol.specs.Catalog.{Config}
use Rattle.protocol.specs.World.{World}
use Rattle.server_core.specs.ServerValues.{ServerValue, StandsAt}
use Rattle.event_loop.specs.declared.seat.Seat.{Seat}
use Rattle.event_loop.specs.declared.seat.Role.{Role}
use Rattle.event_loop.specs.declared.seat.Role.TheVariants.{Client as ClientRole, Feed as FeedRole}
use Rattle.ports.specs.Calls.{Call}
use Rattle.event_loop.specs.Deeds.{Tally, world_beyond}
use Rattle.event_loop.specs.Going.{Whole}
use Rattle.event_loop.specs.Passes.{ClientReads, ClientWrites, ClientPass}
use Rattle.event_loop.specs.Feeding.{FeedReads, feed_seat}
use Rattle.event_loop.specs.Turns.{PassOf, SeatPass}
use Rattle.event_loop.proofs.DeedLemmas.{does-then, world_beyond-append}

-- a seat with its role written out
pub same-open : (s : Seat) (r : Role) → s.role ≡ r → record s { role = r } ≡ s
same-open s r e = ap (λ (x : Role). record s { role = x }) (sym e)

module _ (config : Config) (limit : ℕ) (w : World) (a : Option (List Call)) (s : Seat) where
  -- the reads, and the writes after them
  pub pass-both : (k : ℕ) (b c : Option (List Call)) (mid last : ServerValue) (t : Tally) (s' : Seat) (o : Option Seat)
      → s.role ≡ ClientRole k →
      Whole (ClientReads config k) limit config w a b mid t t (record s { role = ClientRole k }) (Some s') →
      ((v : World) → StandsAt mid config v → Whole (ClientWrites config k) limit config v b c last t t s' o) →
      Whole (SeatPass config) limit config w a c last t t s o
  pass-both k b c mid last t s' o role reads writes =
      let v : World = world_beyond config w reads.deeds in
      let x : Whole (ClientWrites config k) limit config v b c last t t s' o = writes v reads.does.stands in
      let pass : ClientPass config k limit w s (reads.deeds ++ x.deeds)
      (world_beyond config w (reads.deeds ++ x.deeds)) o = record {
        reads = reads.deeds;
        writes = x.deeds;
        between = v;
        seat = Some s';
        whole = refl;
        first = subst (λ y. ClientReads config k limit w y reads.deeds v (Some s'))
            (same-open s (ClientRole k) role) reads.how;
        then_ = subst (λ u. ClientWrites config k limit v s' x.deeds u o)
            (sym (world_beyond-append config w reads.deeds x.deeds)) x.how;
      } in
      record {
        deeds = reads.deeds ++ x.deeds;
        does = does-then config w a b c mid last t t t reads.deeds x.deeds reads.does x.does;
        how =
            subst (λ r. PassOf r config limit w s (reads.deeds ++ x.deeds)
            (world_beyond config w (reads.deeds ++ x.deeds)) o) (sym role) pass;
      }

  -- The port is shut by its reads.
  pub pass-shut : (k : ℕ) (b : Option (List Call)) (mid : ServerValue) (t : Tally) → s.role ≡ ClientRole k →
      Whole (ClientReads config k) limit config w a b mid t t (record s { role = ClientRole k }) None →
      Whole (SeatPass config) limit config w a b mid t t s None
  pass-shut k b mid t role reads =
      let v : World = world_beyond config w reads.deeds in
      let pass : ClientPass config k limit w s reads.deeds v None = record {
        reads = reads.deeds;
        writes = [];
        between = v;
        seat = None;
        whole = sym (append-nil reads.deeds);
        first = subst (λ y. ClientReads config k limit w y reads.deeds v None)
            (same-open s (ClientRole k) role) reads.how;
        then_ = (refl, refl, refl);
      } in
      record {
        deeds = reads.deeds;
        does = reads.does;
        how = subst (λ r. PassOf r config limit w s reads.deeds v None) (sym role) pass;
      }

  -- a feed's
  pub pass-feed : (rest : List ℕ) (b : Option (List Call)) (mid : ServerValue) (t t' : Tally) (o : Option Seat)
      → s.role ≡ FeedRole rest →
      Whole (FeedReads config) limit config w a b mid t t' (feed_seat s.port rest s.readable s.writable) o →
      Whole (SeatPass config) limit config w a b mid t t' s o
  pass-feed rest b mid t t' o role reads =
      let v : World = world_beyond config w reads.deeds in
      let same : feed_seat s.port rest s.readable s.writable ≡ s = same-open s (FeedRole rest) role in
      record {
        deeds = reads.deeds;
        does = reads.does;
        how = subst (λ r. PassOf r config limit w s reads.deeds v o) (sym role)
            (subst (λ x. FeedReads config limit w x reads.deeds v o) same reads.how);
      }
