-- Each turn judges the record that it makes whole, if it makes one whole, and goes on behind it.
use Rattle.std.proofs.Common.{◌≡◌, ◌∙◌}
use Rattle.std.proofs.lemmas.List.{take_rest}
use Rattle.feeder.specs.Feedings.{lent_records, left_over}
use Rattle.record_check.specs.FeedTallies.{all_judged}
use Rattle.record_check.proofs.PieceLemmas.{judged_by_feeding, rest_by_feeding}
use Rattle.record_check.proofs.feed_tally.judge_piece.Goals as goal
use Rattle.record_check.proofs.feed_tally.judge_piece.Goals.{in-Some, in-None}

pub records-preserved : goal.records-preserved
records-preserved g c =
    let has = g.S.Stations.has_station c.args.stations.now in
    let h = c.records.invariant in
    let whole = c.feed.result.whole in
    let after : c.match-whole.cutter ≡ left_over c.records.cutter c.records.left.now whole = elim c.match-whole.branch [
      | in-Some w ↦ w.cutter-is ∙ c.feed.follows.holds-at-none
      | in-None w ↦ w.cutter-is ∙ c.feed.follows.holds-at-none
    ] in
    let judged : c.match-whole.count ≡ all_judged has c.records.count (lent_records whole) = elim c.match-whole.branch [
      | in-Some w ↦ rw w.in-Some.is (w.count-is ∙ w.judge.ensures)
      | in-None w ↦ rw w.in-None.is w.count-is
    ] in
    let rest = take_rest c.records.left.now c.feed.result.used in
    record {
      judged = judged_by_feeding has _ _ _ _ c.feed.result.used whole _ _ c.feed.ensures.read after rest judged
          ∙ h.judged;
      rest = rest_by_feeding _ _ _ _ c.feed.result.used whole c.feed.ensures.read after rest ∙ h.rest;
    }
