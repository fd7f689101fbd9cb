use Rattle.std.proofs.Common.{◌+◌, ◌%◌, ◌∙◌, ℕ, Option, Some, None, sym, ap}
use Rattle.protocol.specs.Packet.{numbers}
use Rattle.station_ring.specs.Rings.{RingValue}
use Rattle.serving.specs.Ahead.{number_ahead}
use Rattle.serving.proofs.AheadLemmas.{ahead-place}
use Rattle.serving.proofs.ahead.NumbersAhead.number.Goals as goal

pub returns-in-Some : goal.returns-in-Some
returns-in-Some c =
    let r : RingValue = c.in-Some.ring.now in
    ap {B = Option ℕ} Some
    (c.number_ahead.ensures r.first
    (c.next_number.ensures ∙ ap (λ n. (r.first + n) % numbers) (sym c.pushes.ensures))
    ∙ ap (number_ahead r.first) c.pushes.ensures)
    ∙ ahead-place c.args.self.now.rings.now.rings c.args.place (Some r) c.in-Some.ensures.ring

pub returns-in-None : goal.returns-in-None
returns-in-None c = ahead-place c.args.self.now.rings.now.rings c.args.place None c.in-None.ensures.ring
