use Rattle.std.proofs.Common.{◌≡◌, ◌≤◌, ◌-◌, ℕ, take, drop, length, vec_len}
use Rattle.protocol.specs.Catalog.{Config}
use Rattle.protocol.specs.World.{World}
use Rattle.server_core.specs.ServerValues.{StandsAt}
use Rattle.event_loop.specs.Feeding.{feed_tally}
use Rattle.event_loop.specs.Sleeping.{AreKept}
use Rattle.event_loop.specs.Tables.{PassesSoFar}
use Rattle.event_loop.proofs.turning.pass_all.Given as goal

abbrev pub invariant-passes : goal.invariant-passes
invariant-passes g l =
    let calls = g.P.Ports.calls in
    record {
      kept : AreKept l.server l.seats;
      limit : l.seats.max_clients ≡ l.fn.seats.max_clients;
      goes : (happenings : ℕ) (config : Config) (w : World) → StandsAt l.fn.server config w →
          PassesSoFar l.limit config w (calls l.fn.ports) (calls l.ports) l.server
          (feed_tally happenings l.fn.refused) (feed_tally happenings l.refused)
          l.fn.seats.all.items (take l.at l.seats.all.items) (drop l.at l.seats.all.items);
      fits : l.at ≤ length l.seats.all.items;
    }

abbrev pub decreases-passes : goal.decreases-passes
decreases-passes g l = vec_len l.seats.all - l.at
