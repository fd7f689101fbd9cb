use Rattle.std.proofs.Common.{Some, None, ◌∙◌}
use Rattle.station_ring.proofs.HeldNumberLemmas.{position-none, position-at}
use Rattle.station_ring.proofs.FirstLemmas.{begins-found, found-held}
use Rattle.station_ring.proofs.rings.position_with.Goals as goal

pub returns-in_err-place-clause-position : goal.returns-in_err-place-clause-position
returns-in_err-place-clause-position c = λ s h is. c.from_residual.ensures
    ∙ position-none s h c.args.number c.args.ring.now is c.in_err-place.ensures

pub returns-in_err-held-clause-position : goal.returns-in_err-held-clause-position
returns-in_err-held-clause-position c = λ s h is. c.from_residual-in_err-held.ensures
    ∙ position-at s h c.args.number c.args.ring.now c.in_ok-place.place None is c.in_ok-place.ensures
    c.in_err-held.ensures

pub returns-clause-position : goal.returns-clause-position
returns-clause-position c = λ s h is. position-at s h c.args.number c.args.ring.now c.in_ok-place.place
    (Some c.in_ok-held.held.now) is c.in_ok-place.ensures c.in_ok-held.ensures

pub returns-in_err-held-clause-none : goal.returns-in_err-held-clause-none
returns-in_err-held-clause-none c = λ none.
    absurd
    (found-held c.args.ring.now c.args.number c.in_ok-place.place c.holds_its_last.ensures c.in_ok-place.ensures
    c.in_err-held.ensures)

pub returns-clause-before : goal.returns-clause-before
returns-clause-before c =
    begins-found c.args.ring.now c.args.number c.in_ok-place.place c.in_ok-held.held.now c.holds_its_last.ensures
    c.in_ok-place.ensures c.in_ok-held.ensures
