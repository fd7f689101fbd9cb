-- The law.
use Rattle.std.proofs.Common.{◌≡◌, ◌<◌, ◌^◌, ◌++◌, List, ap, arith, rules, subst, ◌∙◌}
use Rattle.std.proofs.lemmas.Grind.{common_steps}
use Rattle.protocol.specs.Access.{Token, allows}
use Rattle.config_explained.specs.Gains.{everything, gains, gains_in}
use Rattle.config_explained.proofs.GainLaw.{gains_allow}
use Rattle.config_explained.proofs.gains.gains.Goals as goal

pub returns-clause-words : goal.returns-clause-words
returns-clause-words c a below =
    let old : List Token = c.args.old.now in
    let new : List Token = c.args.new.now in
    let low : c.masks_at-masks.result < 2 ^ 32 = first_of (search rules, grind (arith, common_steps)) in
    let all : c.put_gains.new.gains.items ≡ gains old new =
    c.in_ok-put_gains.ensures ∙ ap (λ xs. xs ++ gains_in old new 32 everything) c.new-gains.ensures.items in
    ap (λ xs. allows xs a) all ∙ gains_allow old new (subst (λ m. m < 2 ^ 32) c.masks_at-masks.ensures low) a below
