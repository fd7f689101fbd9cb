use Rattle.std.proofs.Common.{All, Ok, take}
use Rattle.job_feed.proofs.looks.try_each.Given as goal

-- Each item so far was tried, and did not fail.
abbrev pub invariant-loop-item : goal.invariant-loop-item
invariant-loop-item g l = All (λ item. goal.F-post g l.attempt item (Ok tt)) (take l.item-index l.items)
