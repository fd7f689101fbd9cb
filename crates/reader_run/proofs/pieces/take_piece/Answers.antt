-- A part of the piece was read, and what it gave is told or waits.
use Rattle.std.proofs.Common.{ap, refl, sym, ◌∙◌}
use Rattle.slreader.specs.Dialogue.Outcome.{Gave}
use Rattle.slreader.specs.Whats.{what_value}
use Rattle.reader_run.proofs.PieceLaws.{takes-nothing, takes-end, fails-in, taken-no-limit}
use Rattle.reader_run.proofs.OrderLaws.{tells-first}
use Rattle.reader_run.proofs.WaitLaws.{beside-first, beside-on, stops-given}
use Rattle.reader_run.proofs.pieces.take_piece.Goals as goal

pub given-init : goal.given-init
given-init g c = record {
  taken = beside-first _ _ _ _ c.requires.output c.requires.waits;
  written = refl;
  failures = refl;
  empty = refl;
}

pub returns-in-Err-clause-failed : goal.returns-in-Err-clause-failed
returns-in-Err-clause-failed g c =
    let t = c.given.invariant.taken in
    record {
      records = t.records;
      fails = λ _. fails-in _ _ _ _ _ _ _ _ t.taken c.in-Err.ensures.outcome c.incoming.ensures.left;
      late = taken-no-limit _ _ _ _ _ _ _ t.taken c.in-Err.ensures.outcome c.requires.plan;
      first = tells-first _ _ _ _ _ _ t.taken;
      waiting = t.waiting;
    }

pub returns-in-Nothing-clause-taken : goal.returns-in-Nothing-clause-taken
returns-in-Nothing-clause-taken g c =
    let t = c.given.invariant.taken in
    let gave = ap (λ w. Gave c.in-Ok.came.used (what_value w)) (sym c.in-Nothing.is) ∙ c.in-Ok.ensures.outcome in
    record {
      records = t.records;
      takes = takes-nothing _ _ _ _ _ _ _ _ t.taken gave c.incoming.ensures.left;
      first = tells-first _ _ _ _ _ _ t.taken;
      waiting = t.waiting;
    }

pub returns-in-End-clause-taken : goal.returns-in-End-clause-taken
returns-in-End-clause-taken g c =
    let t = c.given.invariant.taken in
    let gave = ap (λ w. Gave c.in-Ok.came.used (what_value w)) (sym c.in-End.is) ∙ c.in-Ok.ensures.outcome in
    record {
      records = t.records;
      takes = takes-end _ _ _ _ _ _ _ _ t.taken gave c.incoming.ensures.left;
      first = tells-first _ _ _ _ _ _ t.taken;
      waiting = t.waiting;
    }

pub returns-in-Err-Write : goal.returns-in-Err-Write
returns-in-Err-Write g c =
    let i = c.given.invariant in
    record {
      taken = tt;
      failed = tt;
      written = tt;
      quiet = tt;
      stopped = stops-given _ _ _ _ _ _ _ _ _ _ _ _ _ _ _ _ _ _ _ _ _ i.taken c.in-Ok.ensures.outcome
          c.incoming.ensures.left c.in-Err-Write.field-0-is c.in-Err-Write.ensures.stopped i.written i.failures
          i.empty;
    }

pub given-preserved : goal.given-preserved
given-preserved g c =
    let i = c.given.invariant in
    record {
      taken = beside-on _ _ _ _ _ _ _ _ _ _ _ _ i.taken c.in-Ok.ensures.outcome c.incoming.ensures.left
          c.in-Ok-put.ensures.lines c.in-Ok-put.ensures.waits;
      written = c.in-Ok-put.ensures.written ∙ i.written;
      failures = c.in-Ok-put.ensures.quiet.0 ∙ i.failures;
      empty = c.in-Ok-put.ensures.quiet.1 ∙ i.empty;
    }
