use Rattle.std.proofs.Common.{◌≡◌}
use Rattle.protocol.specs.Catalog.{Config}
use Rattle.protocol.specs.World.{World}
use Rattle.server_core.specs.ServerValues.{StandsAt}
use Rattle.event_loop.specs.declared.seat.Role.TheVariants.{Client}
use Rattle.event_loop.specs.Deeds.{Tally}
use Rattle.event_loop.specs.Passes.{ClientReads}
use Rattle.event_loop.specs.Going.{SoFar}
use Rattle.server_core.specs.Marks.{LeavesOthers}
use Rattle.event_loop.proofs.passes.read_client.Given as goal

abbrev pub invariant-reads : goal.invariant-reads
invariant-reads g l =
    let calls = g.P.Ports.calls in
    record {
      role : l.seat.role ≡ Client l.client;
      port : l.seat.port ≡ l.fn.seat.port;
      others : LeavesOthers l.client l.fn.server l.server;
      goes : (t : Tally) (config : Config) (w : World) → StandsAt l.fn.server config w
          → SoFar (ClientReads config l.client) l.limit l.left config w (calls l.fn.ports)
          (calls l.ports) l.server t t l.fn.seat l.seat;
    }

abbrev pub decreases-reads : goal.decreases-reads
decreases-reads g l = l.left
