use Rattle.std.proofs.Common.{◌≡◌, drop}
use Rattle.server_watch.specs.Watching.{behind_from}
use Rattle.server_watch.proofs.behind.behind_of.Given as goal

abbrev pub invariant-loop-request : goal.invariant-loop-request
invariant-loop-request l =
    behind_from 0 l.rings l.requests ≡ behind_from l.sum l.rings (drop l.request-index l.requests)
