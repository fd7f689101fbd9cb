use Rattle.std.proofs.Common.{◌≡◌, ◌∙◌, ◌<◌, refl, arith, [], length, get_or}
use Rattle.std.proofs.lemmas.List.{get_or_default}
use Rattle.server_core.specs.declared.clients.Opened.{Opened}
use Rattle.server_core.proofs.ReloadLemmas.{all-reviewed, done-step, left-step}
use Rattle.server_core.proofs.CurrentLemmas.{current-at}
use Rattle.server_core.proofs.reviewing.review_all.Goals as goal

pub loop-one-init : goal.loop-one-init
loop-one-init c = record {
  done = λ j below. absurd (omega (arith, below));
  left = λ j past inside. refl;
  settled = c.requires.settled;
  marked = c.requires.marked;
  stations = refl;
  kept = λ slot some. some;
}

pub loop-one-preserved : goal.loop-one-preserved
loop-one-preserved c =
    let so_far = c.loop-one.invariant in
    let made = c.review_unless_spared.ensures in
    let os = c.args.opened.now in
    let i = c.loop-one.one-index in
    let within : i < length os = c.loop-one-test.true in
    let nobody : Opened = record { number = 0; slot = 0; address = record { octets = [] } } in
    let one : Opened = get_or os i nobody in
    let is : one ≡ get_or os i one = get_or_default os i nobody one within in
    record {
      done = done-step c.args.config.now os c.args.slots.now c.requires.rising c.requires.apart i one within is
          c.loop-one.slots c.review_unless_spared.new.slots made.here made.others so_far.done so_far.left;
      left = left-step c.args.config.now os c.args.slots.now c.requires.rising c.requires.apart i one within is
          c.loop-one.slots c.review_unless_spared.new.slots made.here made.others so_far.left;
      settled = made.settled;
      marked = made.marked;
      stations = made.stations ∙ so_far.stations;
      kept = λ slot some. made.kept slot (so_far.kept slot some);
    }

pub returns-clause-each : goal.returns-clause-each
returns-clause-each c =
    all-reviewed c.args.config.now c.args.opened.now c.args.slots.now c.loop-one.slots c.loop-one.one-index
    (omega arith) c.loop-one.invariant.done

pub review_unless_spared-requires-clause-current : goal.review_unless_spared-requires-clause-current
review_unless_spared-requires-clause-current c =
    let os = c.args.opened.now in
    let i = c.loop-one.one-index in
    let nobody : Opened = record { number = 0; slot = 0; address = record { octets = [] } } in
    let one : Opened = get_or os i nobody in
    current-at c.args.config.now c.args.old.now os c.args.slots.now c.loop-one.slots c.requires.rising
    c.requires.apart i one c.loop-one-test.true
    (get_or_default os i nobody one c.loop-one-test.true) c.loop-one.invariant.left c.requires.current
