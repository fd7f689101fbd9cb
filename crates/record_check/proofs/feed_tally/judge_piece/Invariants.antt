-- What is judged, and what will be of the bytes that are left, is what the piece gives.
use Rattle.std.proofs.Common.{◌≡◌, length}
use Rattle.record_check.specs.Checks.{piece_read}
use Rattle.record_check.specs.FeedTallies.{all_judged}
use Rattle.record_check.proofs.feed_tally.judge_piece.Given as goal

abbrev pub invariant-records : goal.invariant-records
invariant-records g l = record {
  judged : all_judged (g.S.Stations.has_station l.stations) l.count (piece_read l.cutter l.left).records
      ≡ all_judged (g.S.Stations.has_station l.stations) l.fn.count (piece_read l.fn.cutter l.piece).records;
  rest : (piece_read l.cutter l.left).rest ≡ (piece_read l.fn.cutter l.piece).rest;
}

abbrev pub decreases-records : goal.decreases-records
decreases-records g l = length l.left
