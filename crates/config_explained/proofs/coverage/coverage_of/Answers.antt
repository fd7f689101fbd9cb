use Rattle.std.proofs.lemmas.Grind.{common_steps}
use Rattle.std.proofs.Common.{◌<◌, ◌^◌, sym, ◌∙◌, arith, rules}
use Rattle.protocol.specs.Access.{HasMask}
use Rattle.config_explained.proofs.CoverageLemmas.{all_tested, none_met, none_tested, not_all_tested, not_none_tested}
use Rattle.config_explained.proofs.CoverageLemmas.{some_met}
use Rattle.config_explained.proofs.coverage.coverage_of.Goals as goal

pub returns-then-have_all : goal.returns-then-have_all
returns-then-have_all c =
    let all = all_tested c.args.networks.now c.args.network (c.have_all.ensures.all c.if-have_all.true) in
    rw all

pub returns-in-Some : goal.returns-in-Some
returns-in-Some c =
    let part = not_all_tested c.args.networks.now c.args.network (c.have_all.ensures.not_all c.if-have_all.false) in
    let met = sym c.first_met.ensures ∙ c.in-Some.is in
    let masked : HasMask c.in-Some.field-0 = first_of (search rules, grind (arith, common_steps)) in
    let masked' : HasMask c.args.network = first_of (search rules, grind (arith, common_steps)) in
    let low : c.args.network.address < 2 ^ 32 = first_of (search rules, grind (arith, common_steps)) in
    let low' : c.in-Some.field-0.address < 2 ^ 32 = first_of (search rules, grind (arith, common_steps)) in
    let some = not_none_tested c.args.networks.now c.args.network
    (some_met c.args.networks.now c.args.network c.in-Some.field-0 masked masked' low low' met) in
    rw (part, some)

pub returns-in-None : goal.returns-in-None
returns-in-None c =
    let part = not_all_tested c.args.networks.now c.args.network (c.have_all.ensures.not_all c.if-have_all.false) in
    let none = none_tested c.args.networks.now c.args.network
    (none_met c.args.networks.now c.args.network (sym c.first_met.ensures ∙ c.in-None.is)) in
    rw (part, none)
