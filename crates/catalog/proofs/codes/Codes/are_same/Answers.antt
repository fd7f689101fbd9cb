use Rattle.std.proofs.Common.{rules, ◌∙◌, ◌^◌, ◌<◌, ◌==◌, ap₂}
use Rattle.catalog.proofs.OrderLemmas.{equal_ranks}
use Rattle.catalog.proofs.codes.Codes.are_same.Goals as goal

pub returns : goal.returns
returns c =
    let a : c.args.self.code < 2 ^ 64 = search rules in
    let b : c.args.others.code < 2 ^ 64 = search rules in
    ap₂ (λ x y. x == y) c.rank.ensures c.rank-2.ensures
    ∙ equal_ranks c.args.self.network c.args.others.network c.args.self.code c.args.others.code a b
