use Rattle.std.proofs.Common.{◌≡◌, drop}
use Rattle.slreader.specs.Lasts.{last_at}
use Rattle.slreader.proofs.last_packet.last_at.Given as goal

-- None of those that were looked at is of the station.
abbrev pub invariant-loop-last : goal.invariant-loop-last
invariant-loop-last l =
    last_at l.network l.station l.lasts ≡ last_at l.network l.station (drop l.last-index l.lasts)
