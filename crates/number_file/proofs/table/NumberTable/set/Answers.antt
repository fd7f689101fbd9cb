use Rattle.std.proofs.Common.{◌<◌, subst}
use Rattle.protocol.specs.Packet.{numbers}
use Rattle.number_file.proofs.TableKeeping.{kept-with_next}
use Rattle.number_file.proofs.table.NumberTable.set.Goals as goal

pub invariant_of-self : goal.invariant_of-self
invariant_of-self c =
    kept-with_next c.self.inside.numbers.items c.set_next.new.numbers.items c.args.place c.args.next
    (subst (λ n. n < numbers) c.value-below.ensures.same c.value-below.ensures.below) c.self.invariant
    c.set_next.ensures
