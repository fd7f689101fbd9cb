use Rattle.std.proofs.lemmas.Grind.{common_steps}
use Rattle.std.proofs.Common.{◌≡◌, ◌<◌, ◌^◌, sym, ap, subst, ◌∙◌, arith, bit_or, rules}
use Rattle.protocol.specs.Access.{HasMask}
use Rattle.config_explained.specs.Coverage.{AdmitsAll, IsBitOf}
use Rattle.config_explained.proofs.CoverageLemmas.{IsFree, all_of_halves, falls, first_of_all, halving, second_of_all}
use Rattle.config_explained.proofs.CoverageLemmas.{some_free}
use Rattle.config_explained.proofs.coverage.+have_all.Goals as goal

pub highest_bit-bit-requires : goal.highest_bit-bit-requires
highest_bit-bit-requires t c =
    let met = sym c.first_met.ensures ∙ c.in-Some.is in
    let part = sym c.is_within_one.ensures ∙ c.if-is_within_one.false in
    let masked : HasMask c.in-Some.network = first_of (search rules, grind (arith, common_steps)) in
    let masked' : HasMask c.args.other = first_of (search rules, grind (arith, common_steps)) in
    let free = some_free c.args.networks.now c.in-Some.network c.args.other masked masked' met part in
    subst (λ x. 0 < x) (sym c.outside-free.ensures) free

pub have_all-requires : goal.have_all-requires
have_all-requires t c =
    let masked : HasMask c.args.other = first_of (search rules, grind (arith, common_steps)) in
    let free : IsFree c.highest_bit-bit.result c.args.other =
    halving c.args.networks.now c.in-Some.network c.args.other c.highest_bit-bit.result masked
    (subst (IsBitOf c.highest_bit-bit.result) c.outside-free.ensures c.highest_bit-bit.ensures) in
    let is : c.without.result.mask ≡ bit_or c.args.other.mask c.highest_bit-bit.result =
    ap (λ n. n.mask) c.without.ensures in
    let low : c.without.result.mask < 2 ^ 32 = first_of (search rules, grind (arith, common_steps)) in
    let less = falls c.args.other c.highest_bit-bit.result free masked (subst (λ x. x < 2 ^ 32) is low) in
    first_of (search (rules, less, is), grind (arith, common_steps, less, is))

pub have_all-requires-then-have_all : goal.have_all-requires-then-have_all
have_all-requires-then-have_all t c =
    let masked : HasMask c.args.other = first_of (search rules, grind (arith, common_steps)) in
    let free : IsFree c.highest_bit-bit.result c.args.other =
    halving c.args.networks.now c.in-Some.network c.args.other c.highest_bit-bit.result masked
    (subst (IsBitOf c.highest_bit-bit.result) c.outside-free.ensures c.highest_bit-bit.ensures) in
    let is : c.with.result.mask ≡ bit_or c.args.other.mask c.highest_bit-bit.result =
    ap (λ n. n.mask) c.with.ensures in
    let low : c.with.result.mask < 2 ^ 32 = first_of (search rules, grind (arith, common_steps)) in
    let less = falls c.args.other c.highest_bit-bit.result free masked (subst (λ x. x < 2 ^ 32) is low) in
    first_of (search (rules, less, is), grind (arith, common_steps, less, is))

pub returns-then-have_all-clause-all : goal.returns-then-have_all-clause-all
returns-then-have_all-clause-all t c is =
    let masked : HasMask c.args.other = first_of (search rules, grind (arith, common_steps)) in
    let free : IsFree c.highest_bit-bit.result c.args.other =
    halving c.args.networks.now c.in-Some.network c.args.other c.highest_bit-bit.result masked
    (subst (IsBitOf c.highest_bit-bit.result) c.outside-free.ensures c.highest_bit-bit.ensures) in
    all_of_halves c.args.networks.now c.args.other c.highest_bit-bit.result free masked
    (subst (AdmitsAll c.args.networks.now) c.without.ensures (c.have_all.ensures.all c.if-have_all.true))
    (subst (AdmitsAll c.args.networks.now) c.with.ensures (c.have_all-then-have_all.ensures.all is))

pub returns-then-have_all-clause-not_all : goal.returns-then-have_all-clause-not_all
returns-then-have_all-clause-not_all t c is all =
    let masked : HasMask c.args.other = first_of (search rules, grind (arith, common_steps)) in
    let free : IsFree c.highest_bit-bit.result c.args.other =
    halving c.args.networks.now c.in-Some.network c.args.other c.highest_bit-bit.result masked
    (subst (IsBitOf c.highest_bit-bit.result) c.outside-free.ensures c.highest_bit-bit.ensures) in
    c.have_all-then-have_all.ensures.not_all is
    (subst (AdmitsAll c.args.networks.now) (sym c.with.ensures)
    (second_of_all c.args.networks.now c.args.other c.highest_bit-bit.result free masked all))

pub returns-else-have_all-clause-not_all : goal.returns-else-have_all-clause-not_all
returns-else-have_all-clause-not_all t c is all =
    let masked : HasMask c.args.other = first_of (search rules, grind (arith, common_steps)) in
    let free : IsFree c.highest_bit-bit.result c.args.other =
    halving c.args.networks.now c.in-Some.network c.args.other c.highest_bit-bit.result masked
    (subst (IsBitOf c.highest_bit-bit.result) c.outside-free.ensures c.highest_bit-bit.ensures) in
    c.have_all.ensures.not_all is
    (subst (AdmitsAll c.args.networks.now) (sym c.without.ensures)
    (first_of_all c.args.networks.now c.args.other c.highest_bit-bit.result free masked all))
