use Rattle.std.proofs.Common.{Some, subst}
use Rattle.std.specs.HashMap.{Updates}
use Rattle.slreader.specs.Placing.{codes_eq, name_by}
use Rattle.slreader.specs.declared.places.WantCodes.{WantCodes}
use Rattle.slreader.proofs.PlacingLemmas.{put_in}
use Rattle.slreader.proofs.places.put.Goals as goal

pub returns-in_ok-next-in-Some-clause-firsts : goal.returns-in_ok-next-in-Some-clause-firsts
returns-in_ok-next-in-Some-clause-firsts c =
    put_in c.args.firsts.now c.insert.new.self (name_by c.args.network.now c.args.station.now) c.args.place
    c.in-Some.ensures.short
    (subst (λ (k : WantCodes). Updates codes_eq c.args.firsts.now c.insert.new.self k (Some c.args.place))
    c.in-Some.ensures.some c.in_ok-next-in-Some.ensures.updates)
