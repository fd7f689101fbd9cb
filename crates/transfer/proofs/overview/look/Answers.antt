use Rattle.std.proofs.Common.{◌≡◌, ◌≤◌, ◌∙◌, ap, length, sym, arith}
use Rattle.session_state.specs.declared.choices.Entry.{Entry}
use Rattle.session_state.specs.NamedValues.{ahead_of}
use Rattle.transfer.specs.Firsts.{earlier}
use Rattle.transfer.proofs.EntryLemmas.{entry-at, same-length}
use Rattle.transfer.proofs.BestLemmas.{best-more, best-whole, rest-more}
use Rattle.transfer.proofs.overview.look.Goals as goal

pub loop-index-init : goal.loop-index-init
loop-index-init c = λ cs same. (λ j x low high at. absurd (omega (arith, low, high)), λ e. e)

pub loop-index-preserved : goal.loop-index-preserved
loop-index-preserved c = λ cs same.
    let x = entry-at cs c.args.entries.now c.loop-index.index c.index-entries-index.result same
    (omega (arith, c.loop-index-test.true)) c.index-entries-index.is in
    let so_far = c.loop-index.invariant cs same in (
      rest-more c.args.rings.now c.args.next c.args.from c.loop-index.index cs x.choice x.there
          (c.is_fresh.ensures c.if-not-is_fresh.false x.choice x.entry) so_far.0,
      λ e. c.earlier-best.ensures
          ∙ ap (earlier c.loop-index.best c.loop-index.index) c.ahead.ensures
          ∙ ap (λ (y : Entry). earlier c.loop-index.best c.loop-index.index (ahead_of y.cursor)) (sym x.entry)
          ∙ ap (λ b. earlier b c.loop-index.index (ahead_of x.choice.cursor)) (so_far.1 e)
          ∙ sym (best-more cs c.loop-index.index x.choice x.within x.item),
    )

pub returns-then-not-is_fresh : goal.returns-then-not-is_fresh
returns-then-not-is_fresh c = λ cs same.
    let long : length cs ≡ length c.args.entries.now = same-length cs c.args.entries.now same in
    let so_far = c.loop-index.invariant cs same in
    record {
      after = omega arith;
      within = omega (arith, long, c.loop-index-test.true);
      rests = so_far.0;
      best = so_far.1;
    }

pub returns : goal.returns
returns c = λ cs same.
    let long : length cs ≡ length c.args.entries.now = same-length cs c.args.entries.now same in
    let all : length cs ≤ c.loop-index.index = omega (arith, long, c.loop-index-test.false) in
    let so_far = c.loop-index.invariant cs same in
    record {
      rests = λ j x low high at. so_far.0 j x low (omega (arith, high, all)) at;
      best = λ e. best-whole cs c.loop-index.index c.loop-index.best all (so_far.1 e);
    }
