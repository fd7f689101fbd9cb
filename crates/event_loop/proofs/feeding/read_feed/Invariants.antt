use Rattle.std.proofs.Common.{ℕ, ◌<◌, ◌≤◌, Bool, length}
use Rattle.protocol.specs.Catalog.{Config}
use Rattle.protocol.specs.World.{World}
use Rattle.server_core.specs.ServerValues.{StandsAt}
use Rattle.event_loop.specs.Feeding.{FeedReads, feed_seat, feed_tally}
use Rattle.event_loop.specs.Going.{SoFar}
use Rattle.event_loop.specs.Sleeping.{IsQuiet}
use Rattle.event_loop.proofs.feeding.read_feed.Given as goal

abbrev pub invariant-reads : goal.invariant-reads
invariant-reads g l =
    let calls = g.P.Ports.calls in
    record {
      goes : (writable : Bool) (happenings : ℕ) (config : Config) (w : World) → StandsAt l.fn.server config w →
          SoFar (FeedReads config) l.limit l.left config w (calls l.fn.ports) (calls l.ports) l.server
          (feed_tally happenings l.fn.refused) (feed_tally happenings l.refused)
          (feed_seat l.port l.fn.cutter l.fn.readable writable) (feed_seat l.port l.cutter l.readable writable);
      some : 0 < length l.buffer;
      quiet : IsQuiet l.fn.server l.server;
      short : length l.buffer ≤ 512;
    }

abbrev pub decreases-reads : goal.decreases-reads
decreases-reads g l = l.left
