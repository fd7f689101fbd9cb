-- The reasons by which the program reports that a feed ended before the server had read all of it.
use Rattle.protocol.specs.declared.reason.Reason.{Reason}
use Rattle.protocol.specs.declared.reason.Reason.TheVariants as reason
use Rattle.feeder.specs.Sending.{send_reason}
use Rattle.job_feed.specs.declared.fault.FeedFault.{FeedFault}
use Rattle.job_feed.specs.declared.fault.FeedFault.TheVariants.{Send, Untaken, Silent, Answered}

abbrev pub feed_reason : FeedFault → Reason
feed_reason (Send fault) = send_reason fault
feed_reason Untaken = reason.Write
feed_reason Silent = reason.Write
feed_reason Answered = reason.BadReply
