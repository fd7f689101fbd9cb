use Rattle.std.proofs.Common.{sym, arith}
use Rattle.transfer.proofs.starting.place_from.Goals as goal

pub returns-in-Some-clause-within : goal.returns-in-Some-clause-within
returns-in-Some-clause-within c =
    let held = (c.places_found.ensures c.args.ring.now c.args.number c.in-Some.place c.holds_its_last.ensures).0
    (sym c.in-Some.ensures) in
    omega (arith, held.1)
