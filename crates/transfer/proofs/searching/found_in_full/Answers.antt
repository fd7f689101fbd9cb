use Rattle.std.proofs.Common.{sym}
use Rattle.transfer.proofs.searching.found_in_full.Goals as goal

pub returns-then-not-matches-clause-filter : goal.returns-then-not-matches-clause-filter
returns-then-not-matches-clause-filter c = λ streams x at tells is.
    c.ask.ensures streams x at (λ k e. (tells c.in-Some.held.now (sym c.in-Some.ensures)).stream k e) is
