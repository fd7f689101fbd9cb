-- Each way out says what was sent of the whole.
use Rattle.std.proofs.Common.{◌∙◌, ◌<◌, ◌+◌, ◌/◌, ℕ, length-take-le, rules, arith, subst, sym}
use Rattle.std.proofs.Common.{ap}
use Rattle.std.proofs.lemmas.Result.{err_from_is_err_and}
use Rattle.sl_io.proofs.TotalLemmas.{Made-more}
use Rattle.feeder.proofs.SendLemmas.{SoFar, goes_on, begins, breaks, count_at_end, written_at_end, nothing_left}
use Rattle.feeder.proofs.SendLemmas.{partial_at_end, begins_at_end, more_sent}
use Rattle.feeder.proofs.sending.send.Goals as goal

pub returns-in_err-count-clause-begun : goal.returns-in_err-count-clause-begun
returns-in_err-count-clause-begun g c =
    let p = err_from_is_err_and c.from_residual.result c.from_residual.ensures.1 in
    rw p.1 (breaks _ _ _ _ _ _ _ _ c.reads.invariant.stands.1 c.in_err-count.ensures.begun)

pub returns-then-held-eq0-clause-count : goal.returns-then-held-eq0-clause-count
returns-then-held-eq0-clause-count g c =
    let s = c.reads.invariant.stands in
    count_at_end _ _ _ _ _ _ _ _ _ _ s.1 c.in_ok-count.ensures.passes c.if-count-eq0.true
    (c.in_ok-count.ensures.end c.if-count-eq0.true) _ s.2

pub returns-then-held-eq0-clause-ok : goal.returns-then-held-eq0-clause-ok
returns-then-held-eq0-clause-ok g c =
    let s = c.reads.invariant.stands in
    written_at_end _ _ _ _ _ _ _ _ _ _ s.1 c.in_ok-count.ensures.passes c.if-count-eq0.true
    (c.in_ok-count.ensures.end c.if-count-eq0.true)

pub returns-then-held-eq0-clause-all : goal.returns-then-held-eq0-clause-all
returns-then-held-eq0-clause-all g c =
    let s = c.reads.invariant.stands in
    let size = c.reads.invariant.size in
    nothing_left _ _ _ _ _ _ _ _ _ _ s.1 c.in_ok-count.ensures.passes c.if-count-eq0.true
    (c.in_ok-count.ensures.end c.if-count-eq0.true)
    (size ∙ c.if-held-eq0.true)

pub returns-else-held-eq0-clause-partial : goal.returns-else-held-eq0-clause-partial
returns-else-held-eq0-clause-partial g c = λ is.
    let s = c.reads.invariant.stands in
    let size = c.reads.invariant.size in
    let some : 0 < c.reads.held = omega (arith, c.if-held-eq0.false) in
    partial_at_end _ _ _ _ _ _ _ _ _ _ s.1 c.in_ok-count.ensures.passes c.if-count-eq0.true
    (c.in_ok-count.ensures.end c.if-count-eq0.true)
    (subst (λ m. 0 < m) (sym size) some)

pub returns-else-held-eq0-clause-begun : goal.returns-else-held-eq0-clause-begun
returns-else-held-eq0-clause-begun g c =
    let s = c.reads.invariant.stands in
    begins_at_end _ _ _ _ _ _ _ _ _ _ s.1 c.in_ok-count.ensures.passes c.if-count-eq0.true
    (c.in_ok-count.ensures.end c.if-count-eq0.true)

pub reads-preserved : goal.reads-preserved
reads-preserved g c =
    let h = c.reads.invariant in
    let s = h.stands in
    let size = c.reads.invariant.size in
    let next = goes_on _ _ _ _ _ _ _ _ _ _ s.1 c.in_ok-count.ensures.passes in
    let more : ℕ = (c.reads.held + c.in_ok-count.count) / 512 in
    record {
      stands = (
        s.0 + more,
        subst (SoFar _ _ _ _ _) (ap (λ m. s.0 + (m + c.in_ok-count.count) / 512) size) next,
        more_sent c.reads.sent _ s.0 more s.2 (search rules),
      );
      held = omega arith;
      size = length-take-le _ c.send_once.new.rest (search (rules, arith));
      failures = c.in_ok-count.ensures.same.0 ∙ h.failures;
      made = Made-more _ _ _ _ h.made c.in_ok-count.ensures.call;
      write_failures = c.in_ok-count.ensures.same.1 ∙ h.write_failures;
      empty = c.in_ok-count.ensures.same.2 ∙ h.empty;
    }

pub returns-clause-begun : goal.returns-clause-begun
returns-clause-begun g c = begins _ _ _ _ _ _ c.reads.invariant.stands.1
