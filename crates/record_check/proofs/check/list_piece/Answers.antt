-- Each turn lists the record that it makes whole, if it makes one whole, and goes on behind it.
use Rattle.std.proofs.Common.{◌≡◌, ◌≤◌, ◌+◌, ap, ◌∙◌, arith, length-drop}
use Rattle.std.proofs.lemmas.Grind.{common_steps}
use Rattle.std.proofs.lemmas.List.{take_rest}
use Rattle.feeder.specs.Feedings.{lent_records, left_over}
use Rattle.record_check.specs.Checks.{Progress, with_records}
use Rattle.record_check.specs.Listing.{rules}
use Rattle.record_check.proofs.CheckLemmas.{good_rises}
use Rattle.record_check.proofs.PieceLemmas.{listed_by_feeding, rest_by_feeding}
use Rattle.record_check.proofs.check.list_piece.Goals as goal
use Rattle.record_check.proofs.check.list_piece.Goals.{in-Some+in_ok-list-in-Some, in-None}

pub records-preserved : goal.records-preserved
records-preserved g c =
    let h = c.records.invariant in
    let whole = c.feed.result.whole in
    let after : c.match-whole.cutter ≡ left_over c.records.cutter c.records.left.now whole = elim c.match-whole.branch [
      | in-Some+in_ok-list-in-Some w ↦ w.cutter-is ∙ c.feed.follows.holds-at-none
      | in-None w ↦ w.cutter-is ∙ c.feed.follows.holds-at-none
    ] in
    let listed : c.match-whole.listing
    ≡ with_records (rules c.args.options (g.S.Stations.has_station c.args.stations.now)) c.records.listing
    (lent_records whole) = elim c.match-whole.branch [
      | in-Some+in_ok-list-in-Some w ↦ rw w.in-Some.is (w.listing-is ∙ w.in_ok-list-in-Some.ensures)
      | in-None w ↦ rw w.in-None.is w.listing-is
    ] in
    let good : c.match-whole.listing.good ≤ c.records.listing.good + 1 = elim c.match-whole.branch [
      | in-Some+in_ok-list-in-Some w ↦ rw (ap (λ (p : Progress). p.good) (w.listing-is ∙ w.in_ok-list-in-Some.ensures))
          (good_rises c.records.listing.good _)
      | in-None w ↦ let e = ap (λ (p : Progress). p.good) w.listing-is in omega arith
    ] in
    let rest = take_rest c.records.left.now c.feed.result.used in
    let used = c.feed.ensures.used in
    let bound = c.feed.ensures.bound in
    let so_far = h.good in
    let size = length-drop c.feed.result.used c.records.left.now in
    record {
      listed = listed_by_feeding (rules c.args.options (g.S.Stations.has_station c.args.stations.now)) _ _ _ _
          c.feed.result.used whole c.records.listing _ c.feed.ensures.read after rest listed
          ∙ h.listed;
      rest = rest_by_feeding _ _ _ _ c.feed.result.used whole c.feed.ensures.read after rest ∙ h.rest;
      good = rw (rest, size) (grind (arith, common_steps));
    }
