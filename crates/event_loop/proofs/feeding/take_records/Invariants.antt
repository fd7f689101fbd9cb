-- The records so far, and those that will be of the bytes that are left, are the piece's.
use Rattle.std.proofs.Common.{◌≡◌, ◌++◌, ℕ, List, length}
use Rattle.protocol.specs.Catalog.{Config}
use Rattle.protocol.specs.World.{World}
use Rattle.server_core.specs.ServerValues.{StandsAt}
use Rattle.event_loop.specs.Feeding.{fed, Arrives}
use Rattle.event_loop.specs.Sleeping.{IsQuiet}
use Rattle.event_loop.proofs.feeding.take_records.Given as goal

abbrev pub invariant-records : goal.invariant-records
invariant-records g l = record {
  arrives : (config : Config) (w : World) → StandsAt l.fn.server config w →
      (done : List (List ℕ)) × (done ++ (fed l.cutter l.left).records ≡ (fed l.fn.cutter l.piece).records)
      × Arrives config w done l.server l.fn.refused l.refused;
  calls : g.P.Ports.calls l.ports ≡ g.P.Ports.calls l.fn.ports;
  failures : g.P.Ports.failures l.ports ≡ g.P.Ports.failures l.fn.ports;
  rest : (fed l.cutter l.left).rest ≡ (fed l.fn.cutter l.piece).rest;
  quiet : IsQuiet l.fn.server l.server;
}

abbrev pub decreases-records : goal.decreases-records
decreases-records g l = length l.left
