use Rattle.std.proofs.Common.{◌≡◌, ◌<◌, ◌≤◌, ◌+◌, ◌-◌, ◌/◌, ◌∙◌, ℕ, arith, length, sym, true}
use Rattle.std.specs.Prelude.{slice_index}
use Rattle.session_state.specs.Orders.{ahead_at, is_sooner}
use Rattle.session_state.proofs.OrderLemmas.{all-sooner, none-sooner, sooner-apart, sooner-later}
use Rattle.session_state.proofs.order.place_of.Goals as goal

pub is_sooner-requires : goal.is_sooner-requires
is_sooner-requires c = record {
  a = c.requires.order.named 0 (omega (arith, c.requires.some, c.requires.order.count));
  b = c.requires.order.named _ (omega (arith, c.requires.some, c.requires.order.count));
}

pub returns-then-not-is_sooner : goal.returns-then-not-is_sooner
returns-then-not-is_sooner c = record {
  within = omega (arith, c.requires.some);
  before = λ k above low. none-sooner c.args.entries.now c.args.order.now (length c.args.order.now - 1) k
      c.requires.sorted above low (omega (arith, c.requires.some)) (sym c.is_sooner.ensures ∙ c.if-not-is_sooner.true);
  after = λ k high within. absurd (omega arith);
}

pub loop-low-init : goal.loop-low-init
loop-low-init c =
    let last : ℕ = length c.args.order.now - 1 in
    let is : is_sooner (ahead_at c.args.entries.now (slice_index c.args.order.now 0))
    (ahead_at c.args.entries.now (slice_index c.args.order.now last)) ≡ true = sym c.is_sooner.ensures
    ∙ c.if-not-is_sooner.false in
    let more : 0 < last = sooner-apart c.args.entries.now c.args.order.now last is in (
      more,
      omega (arith, c.requires.some),
      λ k above low. absurd (omega arith),
      λ k high within. all-sooner c.args.entries.now c.args.order.now last k c.requires.sorted more high within is,
    )

pub loop-low-preserved-then-is_sooner : goal.loop-low-preserved-then-is_sooner
loop-low-preserved-then-is_sooner c =
    let low = c.loop-low.low in
    let high = c.loop-low.high in
    let middle : ℕ = low + (high - low) / 2 in
    let more : low + 1 < high = c.loop-low-test.true in
    let up : low < middle = omega arith in
    let down : middle < high = omega arith in
    let within : high < length c.args.order.now = c.loop-low.invariant.1 in (
      up,
      omega (arith, down, within),
      c.loop-low.invariant.2,
      λ k late inside. all-sooner c.args.entries.now c.args.order.now middle k c.requires.sorted (omega arith) late
          inside (sym c.is_sooner-in-loop-low.ensures ∙ c.if-is_sooner.true),
    )

pub loop-low-preserved : goal.loop-low-preserved
loop-low-preserved c =
    let low = c.loop-low.low in
    let high = c.loop-low.high in
    let middle : ℕ = low + (high - low) / 2 in
    let more : low + 1 < high = c.loop-low-test.true in
    let down : middle < high = omega arith in
    let within : high < length c.args.order.now = c.loop-low.invariant.1 in (
      down,
      within,
      λ k above early. none-sooner c.args.entries.now c.args.order.now middle k c.requires.sorted above early
          (omega (arith, down, within)) (sym c.is_sooner-in-loop-low.ensures ∙ c.if-is_sooner.false),
      c.loop-low.invariant.3,
    )

pub returns : goal.returns
returns c =
    let low = c.loop-low.low in
    let high = c.loop-low.high in
    let up : low < high = c.loop-low.invariant.0 in
    let within : high < length c.args.order.now = c.loop-low.invariant.1 in
    let near : high ≤ low + 1 = c.loop-low-test.false in
    record {
      within = omega (arith, up, within);
      before = c.loop-low.invariant.2;
      after = λ k late inside. sooner-later (ahead_at c.args.entries.now (slice_index c.args.order.now 0))
          (ahead_at c.args.entries.now (slice_index c.args.order.now k))
          (c.loop-low.invariant.3 k (omega (arith, late, near)) inside);
    }
