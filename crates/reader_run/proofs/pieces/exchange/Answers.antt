-- All was sent, or nothing was read.
use Rattle.std.proofs.Common.{refl}
use Rattle.std.proofs.KnownBytes.{Keeps-refl}
use Rattle.reader_run.proofs.pieces.exchange.Goals as goal

pub returns-in-Err-clause-stopped : goal.returns-in-Err-clause-stopped
returns-in-Err-clause-stopped g c = record { kept = Keeps-refl _; unread = refl; stopped = c.in-Err.ensures.stopped }

pub returns-in-Some-clause-sent : goal.returns-in-Some-clause-sent
returns-in-Some-clause-sent g c = record { written = c.in-Ok.ensures.written; reader = c.in-Ok.ensures.sent }

pub returns-in-None-clause-stopped : goal.returns-in-None-clause-stopped
returns-in-None-clause-stopped g c = record {
  sends = record { written = c.in-Ok.ensures.written; reader = c.in-Ok.ensures.sent };
  kept = c.in-None.ensures.kept;
  ended = c.in-None.ensures.ended;
  quiet = c.in-Ok.ensures.quiet;
}
