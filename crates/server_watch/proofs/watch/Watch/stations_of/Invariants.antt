use Rattle.std.proofs.Common.{length}
use Rattle.server_watch.specs.Watching.{Knows}
use Rattle.server_watch.proofs.StationLemmas.{TellsUpTo}
use Rattle.server_watch.proofs.watch.Watch.stations_of.Given as goal

abbrev pub invariant-loop-place : goal.invariant-loop-place
invariant-loop-place l =
    Knows (length l.all) l.rings l.self.arrivals.items l.self.crowd.followers.items
    → TellsUpTo l.place l.now l.all l.rings l.self.arrivals.items l.listed.users.now l.listed.limits.now l.stations.items
