use Rattle.std.proofs.Common.{map, subst}
use Rattle.session_state.specs.Choices.{chosen_of}
use Rattle.session_state.specs.NamedValues.{entry_of}
use Rattle.session_state.specs.Orders.{IsEarliest}
use Rattle.transfer.proofs.EarliestLemmas.{glance-none, glance-some}
use Rattle.transfer.proofs.overview.look_ahead.Goals as goal

pub returns-in-None : goal.returns-in-None
returns-in-None c =
    let cs = chosen_of c.args.session.now.mode in
    glance-none c.args.next cs (subst (IsEarliest (map entry_of cs)) c.in-None.is c.earliest.ensures)

pub returns-else-first-next : goal.returns-else-first-next
returns-else-first-next c =
    glance-some c.args.next (chosen_of c.args.session.now.mode) c.in-Some.first c.in-Some.ensures
    c.if-first-next.false
