use Rattle.std.proofs.Common.{◌≡◌, map, take}
use Rattle.ports_logged.specs.declared.visit.Visit.TheVariants.{Away}
use Rattle.ports_logged.specs.Visits.{Notes}
use Rattle.ports_logged.proofs.logging.note_all.Given as goal

abbrev pub invariant-loop-one : goal.invariant-loop-one
invariant-loop-one g l = record {
  notes : Notes (g.J.Journal.noted l.fn.journal) (g.J.Journal.noted l.journal) (map Away (take l.one-index l.away));
  passed : g.J.Journal.passed l.journal ≡ g.J.Journal.passed l.fn.journal;
}
