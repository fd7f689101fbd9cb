use Rattle.std.proofs.Common.{rules, ◌≡◌, ◌∙◌, ◌<◌, ◌≤◌, nat_lt, get_or, length, ap, sym}
use Rattle.catalog.specs.Indexing.{rank}
use Rattle.catalog.specs.Orders.{rank_at}
use Rattle.catalog.proofs.OrderLemmas.{first_by, first_of_none}
use Rattle.catalog.proofs.view.first_from.Goals as goal

pub returns-in-Some : goal.returns-in-Some
returns-in-Some c = λ rises.
    let r = rank_at c.args.stations.now in
    let ps = c.args.by_codes.now in
    let at = c.border-at.result in
    let within : at < length ps = search rules in
    let place : c.in-Some.place.now ≡ get_or ps at 0 = search rules in
    let same : nat_lt (r (get_or ps at 0)) c.rank-rank.result ≡ nat_lt c.rank_at.result c.rank-rank.result =
    ap (λ n. nat_lt n c.rank-rank.result) (sym (c.rank_at.ensures ∙ ap r place)) in
    rw (sym c.rank-rank.ensures)
    (first_by r c.rank-rank.result ps rises at c.step.result (nat_lt c.rank_at.result c.rank-rank.result) within same
    c.step.ensures.yes c.step.ensures.no (c.border-at.ensures.border rises))

pub returns-in-None : goal.returns-in-None
returns-in-None c = λ rises.
    let over : length c.args.by_codes.now ≤ c.border-at.result = search rules in
    first_of_none (rank_at c.args.stations.now) (rank c.args.sought) c.args.by_codes.now rises c.border-at.result
    c.border-at.ensures.inside over
