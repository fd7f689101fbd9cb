use Rattle.std.proofs.Common.{◌≡◌, ◌≤◌, ◌<◌, ◌-◌}
use Rattle.protocol.specs.Catalog.{Config}
use Rattle.protocol.specs.World.{World}
use Rattle.server_core.specs.ServerValues.{StandsAt}
use Rattle.event_loop.specs.Hearing.{clients_in, feeds_in}
use Rattle.serving.specs.Runs.{RanSo}
use Rattle.serving.proofs.running.run.Given as goal

abbrev pub invariant-going : goal.invariant-going
invariant-going g l =
    let asked = g.B.Between.asked in
    record {
      ran : (config : Config) (w : World) → StandsAt l.fn.server.server config w →
          RanSo l.timetable config w l.fn.server (asked l.fn.between) l.done l.failures l.kept l.server
          (asked l.between);
      few_failures : l.failures < 16;
      counted : l.failures ≤ l.done;
      within : l.done ≤ l.turns;
      few_clients : clients_in l.fn.server.seats ≤ l.fn.server.max_clients
          → clients_in l.server.seats ≤ l.server.max_clients;
      few_feeds : feeds_in l.fn.server.seats ≤ 16 → feeds_in l.server.seats ≤ 16;
      max_clients : l.server.max_clients ≡ l.fn.server.max_clients;
    }

abbrev pub decreases-going : goal.decreases-going
decreases-going g l = l.turns - l.done
