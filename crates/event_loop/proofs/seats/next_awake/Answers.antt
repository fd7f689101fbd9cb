use Rattle.std.proofs.Common.{◌≡◌, ◌∙◌, ◌+◌, ◌-◌, ap, arith, length, rules}
use Rattle.std.specs.Prelude.{slice_index}
use Rattle.std.proofs.lemmas.Bool.{eq-eqb}
use Rattle.std.proofs.lemmas.List.{get_or-drop, take_rest, length-drop}
use Rattle.event_loop.proofs.seats.next_awake.Goals as goal

pub returns-in-Some-clause-asleep : goal.returns-in-Some-clause-asleep
returns-in-Some-clause-asleep c = λ i le lt one.
    let xs = c.args.awake.now in
    let from = c.args.from in
    let back : from + (i - from) ≡ i = omega (arith, le) in
    let found = c.in-Some.ensures in
    found.0.before (i - from) (omega arith) (omega (arith, le, lt))
    (eq-eqb _ 1
    (ap (λ l. slice_index l (i - from)) (take_rest xs from) ∙ get_or-drop from xs (i - from) 0
    ∙ ap (slice_index xs) back ∙ one))

pub returns-in-None-clause-asleep : goal.returns-in-None-clause-asleep
returns-in-None-clause-asleep c = λ i le lt one.
    let xs = c.args.awake.now in
    let from = c.args.from in
    let back : from + (i - from) ≡ i = omega (arith, le) in
    let same = ap length (take_rest xs from) in
    let n = length-drop from xs in
    c.in-None.ensures (i - from) (omega arith) (omega (arith, le, lt, same, n))
    (eq-eqb _ 1
    (ap (λ l. slice_index l (i - from)) (take_rest xs from) ∙ get_or-drop from xs (i - from) 0
    ∙ ap (slice_index xs) back ∙ one))
