use Rattle.std.proofs.Common.{◌∙◌, ◌<◌, ◌≤◌, arith, length, subst, ap, sym}
use Rattle.session_state.specs.Choices.{chosen_of}
use Rattle.session_state.specs.Sessions.{SessionValue}
use Rattle.transfer.specs.Cursors.{BeginsIn, OfAll}
use Rattle.transfer.proofs.StartLemmas.{client-same, starts-passed}
use Rattle.transfer.proofs.EntryLemmas.{choice-there, item-is}
use Rattle.transfer.proofs.KeptLemmas.{all-begin, has-firsts, keeps-on, one-begin, one-first}
use Rattle.transfer.proofs.starting.start.Goals as goal

pub loop-i-preserved : goal.loop-i-preserved
loop-i-preserved c =
    let within : c.loop-i.i < length (chosen_of c.loop-i.session.mode) = omega (
      arith,
      c.loop-i-test.true,
      c.loop-i.invariant.2,
      c.loop-i.invariant.0.count,
    ) in
    let cs = chosen_of c.loop-i.session.mode in
    let x = choice-there cs c.loop-i.i within in
    let entry = sym (c.choice.ensures x.0 x.1) in
    let item = item-is cs c.loop-i.i x.0 x.1 in (
      keeps-on c.args.rings.now c.loop-i.session c.begin_at.new.self c.args.session.now c.loop-i.i
          c.first_of-first.result c.requires c.begin_at.ensures
          (one-first c.args.rings.now cs c.loop-i.i c.first_of-first.result x.0 within item
          (c.first_of-first.ensures.first x.0 entry))
          (one-begin c.args.rings.now cs c.loop-i.i c.first_of-first.result x.0 within item
          (c.first_of-first.ensures.before x.0 entry))
          c.loop-i.invariant.0,
      omega (arith, c.loop-i-test.true),
      c.loop-i.invariant.2,
    )

pub returns-clause-client : goal.returns-clause-client
returns-clause-client c = λ config h holds.
    let all : length (chosen_of c.args.session.now.mode) ≤ c.loop-i.i = omega (
      arith,
      c.loop-i-test.false,
      c.loop-i.invariant.2,
    ) in
    client-same config h c.place_cursors.new.session c.enter.new.self c.place_cursors.ensures.same
    ∙ c.enter.ensures.client config h
    (has-firsts c.args.rings.now c.loop-i.session c.args.session.now c.loop-i.i all c.loop-i.invariant.0 config h
    holds)
    ∙ c.loop-i.invariant.0.same config h

pub returns-clause-passed : goal.returns-clause-passed
returns-clause-passed c =
    let all : length (chosen_of c.args.session.now.mode) ≤ c.loop-i.i = omega (
      arith,
      c.loop-i-test.false,
      c.loop-i.invariant.2,
    ) in
    starts-passed c.args.rings.now c.place_cursors.new.session
    (c.place_cursors.ensures.looked ∙ ap (λ (s : SessionValue). s.looked) c.enter.ensures.state)
    c.place_cursors.ensures.starts
    (c.place_cursors.ensures.begin
    (subst (λ (s : SessionValue). OfAll (BeginsIn c.args.rings.now) (chosen_of s.mode)) (sym c.enter.ensures.state)
    (all-begin c.args.rings.now c.loop-i.session c.args.session.now c.loop-i.i all c.loop-i.invariant.0)))

pub returns-clause-state : goal.returns-clause-state
returns-clause-state c = ap (λ (s : SessionValue). s.state) c.place_cursors.ensures.same
    ∙ ap (λ (s : SessionValue). s.state) c.enter.ensures.state

pub returns-clause-places : goal.returns-clause-places
returns-clause-places c = ap (λ (s : SessionValue). s.places) c.place_cursors.ensures.same
    ∙ ap (λ (s : SessionValue). s.places) c.enter.ensures.state ∙ c.loop-i.invariant.0.places

pub returns-clause-unread : goal.returns-clause-unread
returns-clause-unread c = ap (λ (s : SessionValue). s.unread) c.place_cursors.ensures.same
    ∙ ap (λ (s : SessionValue). s.unread) c.enter.ensures.state ∙ c.loop-i.invariant.0.unread

pub returns-clause-waiting : goal.returns-clause-waiting
returns-clause-waiting c = ap (λ (s : SessionValue). s.waiting) c.place_cursors.ensures.same
    ∙ ap (λ (s : SessionValue). s.waiting) c.enter.ensures.state ∙ c.loop-i.invariant.0.waiting
