use Rattle.std.proofs.Common.{◌≡◌, ◌≤◌, ◌+◌, ◌⊎◌, inl, inr, length, get_or, refl, not, ap, ◌∙◌, arith, set, [], ◌∷◌}
use Rattle.std.proofs.Common.{◌++◌, subst}
use Rattle.std.specs.Prelude.{◌≢◌}
use Rattle.std.specs.List.{insert}
use Rattle.selector.specs.Pools.{HasRoom, list_at, together}
use Rattle.selector.proofs.PoolLemmas.{all_full, at_most, end_fits, few_after, has_room, laid-inserted, list_full}
use Rattle.selector.proofs.PoolLemmas.{no_room, taken_where_ok, view-inserted}
use Rattle.selector.proofs.pool.Pool.add.Goals as goal
use Rattle.selector.proofs.pool.Pool.add.Goals.{then-count-eq-EACH-via-then-count-eq-EACH}
use Rattle.selector.proofs.pool.Pool.add.Goals.{then-count-eq-EACH-via-else-count-eq-EACH+then-len-eq-TOGETHER}

-- Where nothing is added, the list or all lists are full.
full : (c : goal.Joined-then-count-eq-EACH)
    → (length (list_at c.args.self.now c.args.list) ≡ 64) ⊎ (together c.args.self.now ≡ 1024)
full c =
    let p = c.self.inside in
    let i = c.args.list in
    let b = c.then-count-eq-EACH.branch in
    let lists : length p.counts ≡ 255 = c.self.invariant.0.lists in
    subst (λ ls. (length (list_at ls i) ≡ 64) ⊎ (together ls ≡ 1024)) c.self.view_is (elim b [
      | then-count-eq-EACH-via-then-count-eq-EACH w ↦
          inl
          (list_full p.patterns.items p.starts p.counts i c.self.invariant.0
          (omega (arith, c.requires)) w.if-count-eq-EACH.true)
      | then-count-eq-EACH-via-else-count-eq-EACH+then-len-eq-TOGETHER w ↦
          inr
          (all_full p.patterns.items p.starts p.counts c.self.invariant.0
          (omega (arith, w.len.ensures, w.if-len-eq-TOGETHER.true, p.patterns.ok.0)))
    ])

pub returns-then-count-eq-EACH-clause-full : goal.returns-then-count-eq-EACH-clause-full
returns-then-count-eq-EACH-clause-full c = full c

pub returns-then-count-eq-EACH-clause-room : goal.returns-then-count-eq-EACH-clause-room
returns-then-count-eq-EACH-clause-room c =
    (λ e. absurd (cc), λ room. absurd (no_room c.args.self.now c.args.list (full c) room))

pub insert-requires : goal.insert-requires
insert-requires c =
    let p = c.self.inside in
    let lists : length p.counts ≡ 255 = c.self.invariant.0.lists in
    let fits : get_or p.starts c.args.list 0 + get_or p.counts c.args.list 0 ≤ length p.patterns.items =
    end_fits p.patterns.items p.starts p.counts c.args.list c.self.invariant.0 (omega (arith, c.requires)) in
    omega (arith, fits, p.patterns.ok.0)

pub lay_out-requires-clause-few : goal.lay_out-requires-clause-few
lay_out-requires-clause-few c =
    let p = c.self.inside in
    let lists : length p.counts ≡ 255 = c.self.invariant.0.lists in
    let few : get_or p.counts c.args.list 0 ≤ 64 =
    at_most p.patterns.items p.starts p.counts c.args.list c.self.invariant.0 (omega (arith, c.requires)) in
    few_after p.patterns.items p.starts p.counts c.args.list _ c.self.invariant.0 (omega (arith, c.requires))
    (omega arith)

inserted : (c : goal.After-lay_out) →
    c.insert.new.self.items ≡ insert c.self.inside.patterns.items
    (get_or c.self.inside.starts c.args.list 0 + get_or c.self.inside.counts c.args.list 0) c.args.pattern
inserted c = c.insert.ensures.items
    ∙ taken_where_ok c.insert.result _ _ (c.is_err.ensures.negation ∙ ap not c.if-is_err.false)

pub invariant_of-self-2 : goal.invariant_of-self-2
invariant_of-self-2 c =
    let p = c.self.inside in
    let i = c.args.list in
    let lists : length p.counts ≡ 255 = c.self.invariant.0.lists in
    let apart : length p.patterns.items
    ≢ 1024 = λ e. c.if-len-eq-TOGETHER.false (omega (arith, e, c.len.ensures, p.patterns.ok.0)) in (
      laid-inserted p.patterns.items _ p.starts p.counts _ i c.args.pattern c.self.invariant.0
          (omega (arith, c.requires)) c.if-count-eq-EACH.false apart (inserted c) c.lay_out.ensures,
      omega (arith, c.self.invariant.1, c.insert.ensures.capacity),
    )

pub returns-clause-room : goal.returns-clause-room
returns-clause-room c =
    let p = c.self.inside in
    let i = c.args.list in
    let lists : length p.counts ≡ 255 = c.self.invariant.0.lists in
    let apart : length p.patterns.items
    ≢ 1024 = λ e. c.if-len-eq-TOGETHER.false (omega (arith, e, c.len.ensures, p.patterns.ok.0)) in (
      λ _. subst (λ ls. HasRoom ls i) c.self.view_is
          (has_room p.patterns.items p.starts p.counts i c.self.invariant.0
          (omega (arith, c.requires)) c.if-count-eq-EACH.false apart),
      λ _. refl,
    )

pub returns-clause-added : goal.returns-clause-added
returns-clause-added c =
    let p = c.self.inside in
    let i = c.args.list in
    let lists : length p.counts ≡ 255 = c.self.invariant.0.lists in
    view-inserted p.patterns.items _ p.starts p.counts i c.args.pattern c.self.invariant.0 (omega (arith, c.requires))
    (inserted c)
    ∙ ap (λ ls. set ls i (list_at ls i ++ c.args.pattern ∷ [])) c.self.view_is
