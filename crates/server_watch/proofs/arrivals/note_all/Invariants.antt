use Rattle.std.proofs.Common.{◌≡◌}
use Rattle.server_watch.proofs.ArrivalLemmas.{up_to}
use Rattle.server_watch.proofs.arrivals.note_all.Given as goal

abbrev pub invariant-loop-place : goal.invariant-loop-place
invariant-loop-place l = l.arrivals ≡ up_to l.now l.place l.initial.arrivals l.rings.rings
