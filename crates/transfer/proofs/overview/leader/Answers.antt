use Rattle.std.proofs.Common.{rules, subst, sym}
use Rattle.session_state.specs.Choices.{chosen_of}
use Rattle.session_state.specs.Sessions.{SessionValue}
use Rattle.transfer.specs.Firsts.{IsBest}
use Rattle.transfer.proofs.EarliestLemmas.{best-is}
use Rattle.transfer.proofs.overview.leader.Goals as goal

pub returns-in-Fresh-clause-rest : goal.returns-in-Fresh-clause-rest
returns-in-Fresh-clause-rest c = λ all.
    c.in-Fresh.ensures.rests c.args.rings.now (all.looked.seen (search rules)) all.passed

pub returns-in-Fresh-clause-best : goal.returns-in-Fresh-clause-best
returns-in-Fresh-clause-best c = c.in-Fresh.ensures.best

pub returns-clause-best : goal.returns-clause-best
returns-clause-best c =
    subst (λ (s : SessionValue). IsBest (chosen_of s.mode) c.rest_all-first.result) (sym c.keep_look.ensures)
    (best-is (chosen_of c.rest_all-first.new.session.mode) c.rest_all-first.result c.rest_all-first.ensures.best)
