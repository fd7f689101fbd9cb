-- What is listed, and what will be of the bytes that are left, is what the piece gives.
use Rattle.std.proofs.Common.{◌≡◌, ◌+◌, ◌≤◌, length}
use Rattle.record_check.specs.Checks.{with_records, piece_read}
use Rattle.record_check.specs.Listing.{rules}
use Rattle.record_check.proofs.check.list_piece.Given as goal

abbrev pub invariant-records : goal.invariant-records
invariant-records g l = record {
  listed : with_records (rules l.options (g.S.Stations.has_station l.stations)) l.listing
      (piece_read l.cutter l.left).records
      ≡ with_records (rules l.options (g.S.Stations.has_station l.stations)) l.fn.listing
      (piece_read l.fn.cutter l.piece).records;
  rest : (piece_read l.cutter l.left).rest ≡ (piece_read l.fn.cutter l.piece).rest;
  good : l.listing.good + length l.left ≤ l.fn.listing.good + length l.piece;
}

abbrev pub decreases-records : goal.decreases-records
decreases-records g l = length l.left
