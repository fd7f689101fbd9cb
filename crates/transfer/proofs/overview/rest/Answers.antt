use Rattle.std.proofs.Common.{length, subst, sym}
use Rattle.session_state.specs.Choices.{chosen_of}
use Rattle.session_state.specs.Sessions.{SessionValue}
use Rattle.transfer.specs.Cursors.{OfAll, RestsIn}
use Rattle.transfer.specs.Firsts.{LeadsSoFar}
use Rattle.transfer.proofs.AloneLemmas.{none-first}
use Rattle.transfer.proofs.EarliestLemmas.{best-leads-too, none-best}
use Rattle.transfer.proofs.overview.rest.Goals as goal

pub keep_quiet-requires : goal.keep_quiet-requires
keep_quiet-requires c = λ none.
    let cs = chosen_of c.leader-first.new.session.mode in
    none-first cs (none-best cs c.leader-first.result c.leader-first.ensures.best none)

pub returns-clause-rest : goal.returns-clause-rest
returns-clause-rest c = λ all.
    subst (λ (s : SessionValue). OfAll (RestsIn c.args.rings.now c.args.next) (chosen_of s.mode))
    (sym c.keep_quiet.ensures) (c.leader-first.ensures.rest (c.catch_up.ensures.passed all))

pub returns-clause-first : goal.returns-clause-first
returns-clause-first c =
    subst
    (λ (s : SessionValue). LeadsSoFar c.args.rings.now (chosen_of s.mode) (length (chosen_of s.mode))
    c.leader-first.result)
    (sym c.keep_quiet.ensures)
    (best-leads-too c.args.rings.now (chosen_of c.leader-first.new.session.mode) c.leader-first.result
    c.leader-first.ensures.best)
