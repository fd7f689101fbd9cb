use Rattle.std.proofs.Common.{◌-◌, length, Some, unwrap_or}
use Rattle.slreader.specs.Placing.{is_same_name, name_by}
use Rattle.slreader.specs.Tallies.{passed}
use Rattle.slreader.proofs.PlacingLemmas.{IsAt}
use Rattle.slreader.proofs.tally.pass_station.Given as goal

abbrev pub invariant-places : goal.invariant-places
invariant-places l =
    IsAt (passed l.number (Some l.facts)) (λ m. is_same_name m (name_by l.facts.network l.facts.station))
    l.fn.resumes.items l.resumes.items l.next

abbrev pub decreases-places : goal.decreases-places
decreases-places l = length l.fn.resumes.items - unwrap_or l.next (length l.fn.resumes.items)
