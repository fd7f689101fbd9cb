use Rattle.std.proofs.Common.{◌≡◌, ◌≤◌, ◌-◌}
use Rattle.protocol.specs.Catalog.{Config}
use Rattle.protocol.specs.World.{World}
use Rattle.server_core.specs.ServerValues.{StandsAt}
use Rattle.event_loop.specs.Deeds.{no_tally}
use Rattle.event_loop.specs.Going.{SoFar}
use Rattle.event_loop.specs.Tables.{HeardBy, heard_so_far}
use Rattle.event_loop.specs.Sleeping.{AreKept}
use Rattle.event_loop.proofs.hearing.hear.Given as goal

abbrev pub invariant-hearing : goal.invariant-hearing
invariant-hearing g l =
    let calls = g.P.Ports.calls in
    record {
      fits : l.left ≤ l.limit;
      kept : AreKept l.server l.seats;
      limit : l.seats.max_clients ≡ l.fn.seats.max_clients;
      failures : g.P.Ports.failures l.ports ≡ g.P.Ports.failures l.fn.ports;
      goes : (config : Config) (w : World) → StandsAt l.fn.server config w
          → SoFar (HeardBy config l.fn.seats.max_clients) l.limit l.left config w (calls l.fn.ports) (calls l.ports)
          l.server
          no_tally (heard_so_far (l.limit - l.left)) l.fn.seats.all.items l.seats.all.items;
    }

abbrev pub decreases-hearing : goal.decreases-hearing
decreases-hearing g l = l.left
