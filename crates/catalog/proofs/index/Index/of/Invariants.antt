use Rattle.std.proofs.Common.{All, take}
use Rattle.catalog.specs.Indexing.{Finds, HasShortCodes}
use Rattle.catalog.proofs.index.Index.of.Given as goal

abbrev pub invariant-loop-place : goal.invariant-loop-place
invariant-loop-place l = record {
  finds : Finds l.index.places (take l.place l.stations);
  short : All HasShortCodes (take l.place l.stations);
}
