use Rattle.std.proofs.Common.{refl, arith}
use Rattle.session_state.specs.Choices.{chosen_of}
use Rattle.transfer.proofs.RestLemmas.{choice-within}
use Rattle.transfer.proofs.choosing.found_next.Goals as goal

pub returns-in-None-clause-none : goal.returns-in-None-clause-none
returns-in-None-clause-none c = λ all nothing i x at.
    c.in-None.ensures.first.reached c.args.next (c.in-None.ensures.rest all) refl i x
    (choice-within (chosen_of c.rest.new.session.mode) i x _ (omega arith) at) at
