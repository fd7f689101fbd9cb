use Rattle.std.proofs.Common.{◌≡◌, ◌<◌, ◌∙◌, ap, arith, false, length, refl, subst, sym}
use Rattle.std.specs.Prelude.{slice_index}
use Rattle.session_state.specs.Orders.{IsEarliest, ahead_at, is_sooner}
use Rattle.session_state.proofs.OrderLemmas.{ahead-read, earliest-none, earliest-some, none-there}
use Rattle.session_state.proofs.order.first_of.Goals as goal

pub returns-in-Some : goal.returns-in-Some
returns-in-Some c =
    let is : c.from-index.result ≡ slice_index c.args.order.now 0 = c.from-index.ensures
    ∙ c.in_ok-first.ensures.item.3.1 0 in
    let some = c.in_ok-first.ensures.item.3.0 in
    let low : c.from-index.result < length c.args.entries.now =
    subst (λ x. x < length c.args.entries.now) (sym is)
    (c.requires.order.named 0 (omega (arith, some, c.requires.order.count))) in (
      ahead-read c.args.entries.now c.from-index.result c.index-entries-index.result low ∙ sym c.ahead.ensures
          ∙ c.in-Some.is,
      λ j. subst (λ x. is_sooner (ahead_at c.args.entries.now j) (ahead_at c.args.entries.now x) ≡ false) (sym is)
          (earliest-some _ c.args.entries.now c.args.order.now c.requires.order refl c.requires.sorted j),
    )

pub returns-in-None : goal.returns-in-None
returns-in-None c =
    let is : c.from-index.result ≡ slice_index c.args.order.now 0 = c.from-index.ensures
    ∙ c.in_ok-first.ensures.item.3.1 0 in
    let some = c.in_ok-first.ensures.item.3.0 in
    let low : c.from-index.result < length c.args.entries.now =
    subst (λ x. x < length c.args.entries.now) (sym is)
    (c.requires.order.named 0 (omega (arith, some, c.requires.order.count))) in
    earliest-none _ c.args.entries.now c.args.order.now c.requires.order refl c.requires.sorted
    (ap (ahead_at c.args.entries.now) (sym is)
    ∙ ahead-read c.args.entries.now c.from-index.result c.index-entries-index.result low ∙ sym c.ahead.ensures
    ∙ c.in-None.is)

pub returns-in_err-first : goal.returns-in_err-first
returns-in_err-first c =
    subst (IsEarliest c.args.entries.now) (sym c.from_residual.ensures)
    (none-there c.args.entries.now c.args.order.now c.requires.order c.in_err-first.ensures.value)
