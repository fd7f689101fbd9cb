use Rattle.std.proofs.Common.{◌∙◌, [], ap, length}
use Rattle.station_ring.proofs.RingsLemmas.{rings_count}
use Rattle.server_core.proofs.MarkLemmas.{marked-none}
use Rattle.server_core.proofs.CurrentLemmas.{current-none}
use Rattle.server_core.proofs.server.Server.new.Goals as goal

pub invariant_of-result : goal.invariant_of-result
invariant_of-result c = (
  c.new-3.ensures.table,
  c.new-3.ensures.settled c.args.config c.in_ok-rings.rings,
  rings_count c.args.config [] c.in_ok-rings.rings c.in_ok-rings.ensures,
  marked-none c.args.config c.in_ok-rings.rings c.in_ok-marks.marks c.new-3.result.slots c.new-3.ensures.free
      c.in_ok-marks.ensures.sending,
  c.in_ok-marks.ensures.stations ∙ ap length c.stations.ensures,
  record { history = []; holds = c.in_ok-rings.ensures },
  current-none c.args.config c.new-3.result c.new-3.ensures.sessions,
)
