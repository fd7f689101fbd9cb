-- One read of a client's port.
use Rattle.std.proofs.Common.{◌≡◌, ℕ, ◌≤◌, false, List, [], ◌∷◌, refl, ap, Option, Result, Ok, Err}
use Rattle.std.specs.Result.{result_ok, result_unwrap_or}
use Rattle.std.specs.Prelude.{unwrap_or}
use Rattle.protocol.specs.Catalog.{Config}
use Rattle.protocol.specs.World.{World, step}
use Rattle.protocol.specs.World.Event.{Bytes, Close}
use Rattle.server_core.specs.ServerValues.{ServerValue, StandsAt}
use Rattle.event_loop.specs.declared.seat.Seat.{Seat}
use Rattle.event_loop.specs.declared.passes.Onward.TheVariants.{On, Stop, Over}
use Rattle.ports.specs.Calls.{Call, Tells}
use Rattle.ports.specs.Calls.Call.{Read, Shut}
use Rattle.ports.specs.Calls.Given.{Piece, Nothing, TheEnd, Failure}
use Rattle.event_loop.specs.Deeds.{Tally}
use Rattle.event_loop.specs.Deeds.Deed.{Reads, Closes}
use Rattle.event_loop.specs.Passes.{ClientReads, MayRead, room_in, unreadable}
use Rattle.event_loop.specs.Passes.ClientReads.{not_readable, no_room, piece, later, closed, failed}
use Rattle.event_loop.specs.Going.{Once}
use Rattle.event_loop.proofs.DeedLemmas.{Tells-nil, Tells-trans}

pub room-told : {E : Type 0} (r : Result ℕ E) (o : Option ℕ) → result_ok r ≡ o → result_unwrap_or r 0 ≡ unwrap_or o 0
room-told (Ok n) o told = ap (λ x. unwrap_or x 0) told
room-told (Err e) o told = ap (λ x. unwrap_or x 0) told

pub read-refused : (config : Config) (w : World) (k : ℕ) (calls : Option (List Call)) (server : ServerValue) (t : Tally)
    (s : Seat) → StandsAt server config w → s.readable ≡ false
    → Once (ClientReads config k) config w calls calls server t t s s Stop
read-refused config w k calls server t s stands shown =
    record {
      deeds = [];
      does = record { tells = Tells-nil calls; stands = stands; counted = refl; faithful = tt };
      how = λ n. not_readable shown;
    }

pub read-full : (config : Config) (w : World) (k : ℕ) (calls : Option (List Call)) (server : ServerValue) (t : Tally)
    (s : Seat) → StandsAt server config w → room_in w k ≡ 0
    → Once (ClientReads config k) config w calls calls server t t s s Stop
read-full config w k calls server t s stands shown =
    record {
      deeds = [];
      does = record { tells = Tells-nil calls; stands = stands; counted = refl; faithful = tt };
      how = λ n. no_room shown;
    }

pub read-piece : (config : Config) (w : World) (k most : ℕ) (bytes : List ℕ) (calls calls' : Option (List Call))
    (server' : ServerValue) (t : Tally) (s : Seat) → MayRead w k s → most ≤ room_in w k
    → Tells calls calls' (Read s.port most (Piece bytes) ∷ []) → StandsAt server' config (step config w (Bytes k bytes))
    → Once (ClientReads config k) config w calls calls' server' t t s s On
read-piece config w k most bytes calls calls' server' t s may fits tells stands =
    record {
      deeds = Reads k s.port most (Piece bytes) ∷ [];
      does = record { tells = tells; stands = stands; counted = refl; faithful = (tt, tt) };
      how = λ n ds w' o rest. piece most bytes may fits rest;
    }

pub read-later : (config : Config) (w : World) (k most : ℕ) (calls calls' : Option (List Call)) (server : ServerValue)
    (t : Tally) (s : Seat) → MayRead w k s → most ≤ room_in w k → Tells calls calls' (Read s.port most Nothing ∷ [])
    → StandsAt server config w → Once (ClientReads config k) config w calls calls' server t t s (unreadable s) Stop
read-later config w k most calls calls' server t s may fits tells stands =
    record {
      deeds = Reads k s.port most Nothing ∷ [];
      does = record { tells = tells; stands = stands; counted = refl; faithful = (tt, tt) };
      how = λ n. later most may fits;
    }

pub read-closed : (config : Config) (w : World) (k most : ℕ) (a b c : Option (List Call)) (server' : ServerValue)
    (t : Tally) (s : Seat) → MayRead w k s → most ≤ room_in w k → Tells a b (Read s.port most TheEnd ∷ [])
    → Tells b c (Shut s.port ∷ []) → StandsAt server' config (step config w (Close k))
    → Once (ClientReads config k) config w a c server' t t s s Over
read-closed config w k most a b c server' t s may fits tells shut stands =
    record {
      deeds = Reads k s.port most TheEnd ∷ Closes k s.port ∷ [];
      does = record {
        tells = Tells-trans a b c _ _ tells shut;
        stands = stands;
        counted = refl;
        faithful = (tt, (tt, tt));
      };
      how = λ n. closed most may fits;
    }

pub read-failed : (config : Config) (w : World) (k most : ℕ) (a b c : Option (List Call)) (server' : ServerValue)
    (t : Tally) (s : Seat) → MayRead w k s → most ≤ room_in w k → Tells a b (Read s.port most Failure ∷ [])
    → Tells b c (Shut s.port ∷ []) → StandsAt server' config (step config w (Close k))
    → Once (ClientReads config k) config w a c server' t t s s Over
read-failed config w k most a b c server' t s may fits tells shut stands =
    record {
      deeds = Reads k s.port most Failure ∷ Closes k s.port ∷ [];
      does = record {
        tells = Tells-trans a b c _ _ tells shut;
        stands = stands;
        counted = refl;
        faithful = (tt, (tt, tt));
      };
      how = λ n. failed most may fits;
    }
