use Rattle.std.proofs.Common.{rules, ◌≡◌, ◌∙◌, ◌++◌, ◌∷◌, [], sym, ap, Err}
use Rattle.std.proofs.lemmas.Result.{err_from_is_err_and}
use Rattle.number_file.proofs.ReadLemmas.{read-fails, read-on}
use Rattle.number_file.proofs.reading.numbers_in.Goals as goal

pub loop-value-preserved : goal.loop-value-preserved
loop-value-preserved c =
    let earlier = c.loop-value.numbers.items in
    let more : c.push.new.self.items ≡ earlier ++ c.in_ok-number.number ∷ [] = search rules in
    read-on earlier c.args.values.now c.loop-value.value-index c.value-item.result c.loop-value-test.true
    c.value-item.is c.push.new.self.items c.in_ok-number.number more c.in_ok-number.ensures.ok
    ∙ c.loop-value.invariant

pub returns-in_err-number-clause-fault : goal.returns-in_err-number-clause-fault
returns-in_err-number-clause-fault c =
    let p = err_from_is_err_and c.from_residual.result c.from_residual.ensures.1 in
    rw (p.1 ∙ ap Err p.2) (λ not_memory.
    sym c.loop-value.invariant
    ∙ read-fails c.loop-value.numbers.items c.args.values.now c.loop-value.value-index c.value-item.result
    c.loop-value-test.true c.value-item.is c.in_err-number.field-0.0 (c.in_err-number.ensures.fault not_memory))
