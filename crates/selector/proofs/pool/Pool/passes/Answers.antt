use Rattle.std.proofs.Common.{◌≡◌, ◌+◌, ◌≤◌, get_or, length, slice_range, ap, ◌∙◌, arith}
use Rattle.selector.specs.Matching.{passes_parts}
use Rattle.selector.specs.Pools.{list_at}
use Rattle.selector.proofs.PassesLemmas.{passes_by_parts}
use Rattle.selector.proofs.PoolLemmas.{part, end_fits}
use Rattle.selector.proofs.pool.Pool.passes.Goals as goal

pub slice_bounds-passes_among-end : goal.slice_bounds-passes_among-end
slice_bounds-passes_among-end c =
    let p = c.self.inside in
    let lists : length p.counts ≡ 255 = c.self.invariant.0.lists in
    let fits : get_or p.starts c.args.list 0 + get_or p.counts c.args.list 0 ≤ length p.patterns.items =
    end_fits p.patterns.items p.starts p.counts c.args.list c.self.invariant.0 (omega (arith, c.requires)) in
    omega (arith, fits, ap length c.deref.ensures.value)

parts : (c : goal.After-passes_among)
    → c.passes_among.result ≡ passes_parts c.args.location.now c.args.channel.now c.args.kind
    (list_at c.args.self.now c.args.list)
parts c =
    let p = c.self.inside in
    let i = c.args.list in
    let lists : length p.counts ≡ 255 = c.self.invariant.0.lists in
    let whole : slice_range c.deref.result.now (get_or p.starts i 0) (get_or p.starts i 0 + get_or p.counts i 0)
    ≡ list_at c.args.self.now i =
    ap (λ xs. slice_range xs (get_or p.starts i 0) (get_or p.starts i 0 + get_or p.counts i 0)) c.deref.ensures.value
    ∙ (part p.patterns.items p.starts p.counts i c.self.invariant.0 (omega (arith, c.requires))
    ∙ ap (λ l. list_at l i) c.self.view_is) in
    c.passes_among.ensures ∙ ap (passes_parts c.args.location.now c.args.channel.now c.args.kind) whole

pub returns-clause-parts : goal.returns-clause-parts
returns-clause-parts c = parts c

pub returns-clause-facts : goal.returns-clause-facts
returns-clause-facts c = λ x l ch k. parts c ∙ passes_by_parts (list_at c.args.self.now c.args.list) x _ _ _ l ch k
