use Rattle.std.proofs.Common.{◌≡◌, ◌≤◌, true}
use Rattle.protocol.specs.Catalog.{Config}
use Rattle.protocol.specs.World.{World}
use Rattle.server_core.specs.Marks.{LeavesOthers}
use Rattle.server_core.specs.ServerValues.{StandsAt}
use Rattle.event_loop.specs.declared.seat.Role.TheVariants.{Client}
use Rattle.event_loop.specs.Deeds.{Tally}
use Rattle.event_loop.specs.Offering.{SoFarOffered}
use Rattle.event_loop.proofs.passes.write_all.Given as goal

abbrev pub invariant-writes : goal.invariant-writes
invariant-writes g l =
    let calls = g.P.Ports.calls in
    record {
      role : l.seat.role ≡ Client l.client;
      writable : l.seat.writable ≡ true;
      port : l.seat.port ≡ l.fn.seat.port;
      some : 1 ≤ l.left;
      others : LeavesOthers l.client l.fn.server l.server;
      goes : (t : Tally) (config : Config) (w : World) → StandsAt l.fn.server config w
          → SoFarOffered config l.client l.limit l.left w (calls l.fn.ports) (calls l.ports) l.server t l.fn.seat
          l.seat l.found;
    }

abbrev pub decreases-writes : goal.decreases-writes
decreases-writes g l = l.left
