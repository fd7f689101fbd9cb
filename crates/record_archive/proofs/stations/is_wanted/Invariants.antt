use Rattle.std.proofs.Common.{◌≡◌, drop}
use Rattle.record_archive.specs.Stations.{is_wanted}
use Rattle.record_archive.proofs.stations.is_wanted.Given as goal

-- The record is of none of those that were looked at.
abbrev pub invariant-loop-codes : goal.invariant-loop-codes
invariant-loop-codes l = is_wanted l.stations l.header ≡ is_wanted (drop l.codes-index l.stations) l.header
