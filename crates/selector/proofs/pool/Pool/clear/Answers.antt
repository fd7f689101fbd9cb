use Rattle.std.proofs.Common.{◌≡◌, length, ap, ◌∙◌, arith, set, []}
use Rattle.selector.proofs.PoolLemmas.{end_fits, few_after, laid-emptied, view-emptied}
use Rattle.selector.proofs.pool.Pool.clear.Goals as goal

pub take_away-requires : goal.take_away-requires
take_away-requires c =
    let p = c.self.inside in
    let lists : length p.counts ≡ 255 = c.self.invariant.0.lists in
    end_fits p.patterns.items p.starts p.counts c.args.list c.self.invariant.0 (omega (arith, c.requires))

pub lay_out-requires-clause-few : goal.lay_out-requires-clause-few
lay_out-requires-clause-few c =
    let p = c.self.inside in
    let lists : length p.counts ≡ 255 = c.self.invariant.0.lists in
    few_after p.patterns.items p.starts p.counts c.args.list 0 c.self.invariant.0 (omega (arith, c.requires))
    (omega arith)

pub invariant_of-self : goal.invariant_of-self
invariant_of-self c =
    let p = c.self.inside in
    let lists : length p.counts ≡ 255 = c.self.invariant.0.lists in (
      laid-emptied p.patterns.items _ p.starts p.counts _ c.args.list c.self.invariant.0
          (omega (arith, c.requires)) c.take_away.ensures.items c.lay_out.ensures,
      omega (arith, c.self.invariant.1, c.take_away.ensures.capacity),
    )

pub returns : goal.returns
returns c =
    let p = c.self.inside in
    let lists : length p.counts ≡ 255 = c.self.invariant.0.lists in
    view-emptied p.patterns.items _ p.starts p.counts c.args.list c.self.invariant.0
    (omega (arith, c.requires)) c.take_away.ensures.items
    ∙ ap (λ l. set l c.args.list []) c.self.view_is
