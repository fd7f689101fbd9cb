use Rattle.std.proofs.Common.{◌∙◌, ℕ, Option, Some, None, slice_get, ap}
use Rattle.station_ring.specs.HeldRecords.{next_numbers}
use Rattle.station_ring.proofs.HeldNumberLemmas.{number-at_place, numbers-held}
use Rattle.station_ring.proofs.rings.Rings.next_number.Goals as goal

pub returns-in-Some-clause-history : goal.returns-in-Some-clause-history
returns-in-Some-clause-history c = λ config h is.
    ap {B = Option ℕ} Some c.next_number.ensures
    ∙ number-at_place c.args.self.now.rings c.args.place (Some c.in-Some.ring.now) c.in-Some.ensures.ring
    ∙ ap (λ v. slice_get (next_numbers v) c.args.place) is
    ∙ ap (λ ns. slice_get ns c.args.place) (numbers-held config h)

pub returns-in-None-clause-ring : goal.returns-in-None-clause-ring
returns-in-None-clause-ring c = number-at_place c.args.self.now.rings c.args.place None c.in-None.ensures.ring

pub returns-in-None-clause-history : goal.returns-in-None-clause-history
returns-in-None-clause-history c = λ config h is.
    number-at_place c.args.self.now.rings c.args.place None c.in-None.ensures.ring
    ∙ ap (λ v. slice_get (next_numbers v) c.args.place) is
    ∙ ap (λ ns. slice_get ns c.args.place) (numbers-held config h)
