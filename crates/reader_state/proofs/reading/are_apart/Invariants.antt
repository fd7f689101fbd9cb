use Rattle.std.proofs.Common.{◌≡◌, drop}
use Rattle.reader_state.specs.States.{are_apart}
use Rattle.reader_state.proofs.reading.are_apart.Given as goal

-- Those that were looked at are of other stations than all behind them.
abbrev pub invariant-loop-place : goal.invariant-loop-place
invariant-loop-place l = are_apart l.lasts ≡ are_apart (drop l.place l.lasts)
