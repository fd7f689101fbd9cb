-- Each way out says what the check that stands there says of the whole.
use Rattle.std.proofs.Common.{ap, ◌∙◌, arith}
use Rattle.sl_io.proofs.TotalLemmas.{Made-more}
use Rattle.record_check.specs.Checks.{Progress}
use Rattle.record_check.specs.Listing.{rules}
use Rattle.record_check.proofs.CheckLemmas.{stands_read, stands_written, stands_begun, stands_failed, stands_listed}
use Rattle.record_check.proofs.CheckLemmas.{stands_whole}
use Rattle.record_check.proofs.CheckLemmas.{stands_whole}
use Rattle.record_check.proofs.CheckLemmas.{stands_ended, stands_finding, answers_finding, on_ok, on_err, always}
use Rattle.record_check.proofs.check.check_blocks.Goals as goal

pub returns-then-branch-eq0-clause-finding : goal.returns-then-branch-eq0-clause-finding
returns-then-branch-eq0-clause-finding g c =
    let stands = stands_read _ _ _ _ _ _ _ _ _ _ _ _ c.reads.invariant.stands c.in_ok-list_block.ensures.consumed
    c.in_ok-list_block.ensures.listed c.in_ok-list_block.ensures.rest in
    answers_finding (rules c.args.options (g.S.Stations.has_station c.args.stations.now)) _ _ _
    c.finish.ensures.answer
    (stands_finding _ _ _ _ _ _ _ _ _ stands (c.in_ok-list_block.ensures.end c.if-branch-eq0.true) c.rest.ensures.rest)

pub returns-then-branch-eq0-clause-written : goal.returns-then-branch-eq0-clause-written
returns-then-branch-eq0-clause-written g c =
    let stands = stands_read _ _ _ _ _ _ _ _ _ _ _ _ c.reads.invariant.stands c.in_ok-list_block.ensures.consumed
    c.in_ok-list_block.ensures.listed c.in_ok-list_block.ensures.rest in
    on_ok _ _ _ c.finish.ensures.ok
    (stands_whole _ _ _ _ _ _ _ _ _ _ stands (c.in_ok-list_block.ensures.end c.if-branch-eq0.true) c.rest.ensures.rest)

pub returns-then-branch-eq0-clause-listed : goal.returns-then-branch-eq0-clause-listed
returns-then-branch-eq0-clause-listed g c =
    let stands = stands_read _ _ _ _ _ _ _ _ _ _ _ _ c.reads.invariant.stands c.in_ok-list_block.ensures.consumed
    c.in_ok-list_block.ensures.listed c.in_ok-list_block.ensures.rest in
    on_ok _ _ _ c.finish.ensures.listed
    (stands_listed _ _ _ _ _ _ _ _ _ stands (c.in_ok-list_block.ensures.end c.if-branch-eq0.true))

pub returns-then-branch-eq0-clause-begun : goal.returns-then-branch-eq0-clause-begun
returns-then-branch-eq0-clause-begun g c =
    let stands = stands_read _ _ _ _ _ _ _ _ _ _ _ _ c.reads.invariant.stands c.in_ok-list_block.ensures.consumed
    c.in_ok-list_block.ensures.listed c.in_ok-list_block.ensures.rest in
    on_err _ _ _ c.finish.ensures.err
    (stands_ended _ _ _ _ _ _ _ _ _ _ stands (c.in_ok-list_block.ensures.end c.if-branch-eq0.true) c.rest.ensures.rest)

pub returns-in_err-list_block-clause-begun : goal.returns-in_err-list_block-clause-begun
returns-in_err-list_block-clause-begun g c = always _ _ (stands_begun _ _ _ _ _ _ _ _ c.reads.invariant.stands)

pub returns-in_err-write_many-clause-begun : goal.returns-in_err-write_many-clause-begun
returns-in_err-write_many-clause-begun g c =
    let stands = stands_read _ _ _ _ _ _ _ _ _ _ _ _ c.reads.invariant.stands c.in_ok-list_block.ensures.consumed
    c.in_ok-list_block.ensures.listed c.in_ok-list_block.ensures.rest in
    always _ _ (stands_failed _ _ _ _ _ _ _ _ _ stands c.in_err-write_many.ensures.err)

pub reads-preserved : goal.reads-preserved
reads-preserved g c =
    let h = c.reads.invariant in
    let stands = stands_read _ _ _ _ _ _ _ _ _ _ _ _ h.stands c.in_ok-list_block.ensures.consumed
    c.in_ok-list_block.ensures.listed c.in_ok-list_block.ensures.rest in
    let w = c.in_ok-write_many.ensures in
    let kept = ap (λ (p : Progress). p.good) w.kept in
    let listed = c.in_ok-list_block.ensures.good in
    let so_far = h.good in
    record {
      stands = stands_written _ _ _ _ _ _ _ _ w.ok.0 _ _ stands w.ok.1 w.ok.2 w.kept;
      failures = c.in_ok-list_block.ensures.failures ∙ h.failures;
      made = Made-more _ _ _ _ h.made c.in_ok-list_block.ensures.call;
      write_failures = w.same.0 ∙ h.write_failures;
      empty = w.same.1 ∙ h.empty;
      good = omega arith;
    }

pub returns-clause-begun : goal.returns-clause-begun
returns-clause-begun g c = stands_begun _ _ _ _ _ _ _ _ c.reads.invariant.stands
