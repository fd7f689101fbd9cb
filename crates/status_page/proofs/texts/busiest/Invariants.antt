use Rattle.std.proofs.Common.{◌≡◌, ◌<◌, drop}
use Rattle.status_page.specs.Values.{busiest, busiest_from}
use Rattle.status_page.proofs.texts.busiest.Given as goal

abbrev pub invariant-loop-minute : goal.invariant-loop-minute
invariant-loop-minute l = (busiest l.minutes ≡ busiest_from l.most (drop l.minute-index l.minutes)) × (0 < l.most)
