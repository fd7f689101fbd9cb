use Rattle.std.proofs.Common.{◌≡◌, ◌/◌}
use Rattle.job_feed.proofs.feeds.send_each.Given as goal

-- As many records are counted as the feed has sent.
abbrev pub invariant-files : goal.invariant-files
invariant-files g l = l.progress.sent.count ≡ l.feed.taken / 512
