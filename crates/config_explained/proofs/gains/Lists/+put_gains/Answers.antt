-- The networks of both halves, one after the other.
use Rattle.std.proofs.Common.{◌≡◌, ◌<◌, ◌-◌, ◌*◌, ◌%◌, ◌^◌, ◌++◌, ℕ, List, OnOk, arith}
use Rattle.std.proofs.Common.{sym, ap, subst, ◌∙◌, append_assoc, bit_and}
use Rattle.std.proofs.lemmas.Nat.{one_shl}
use Rattle.protocol.specs.Access.{Token}
use Rattle.config_explained.specs.Coverage.{with, without}
use Rattle.config_explained.specs.Gains.{gains_in, masks_at}
use Rattle.config_explained.proofs.GainLemmas.{halves_of}
use Rattle.config_explained.proofs.gains.Lists.+put_gains.Goals as goal

pub returns-in_ok-put_gains-in-Part : goal.returns-in_ok-put_gains-in-Part
returns-in_ok-put_gains-in-Part t c =
    let old : List Token = c.args.self.now.old.now in
    let new : List Token = c.args.self.now.new.now in
    let masks : ℕ = masks_at old new c.args.network in
    let k : ℕ = c.args.bits - 1 in
    let some : 0 < c.args.bits = omega arith in
    let within : k < 32 = omega (arith, some, c.requires) in
    let bit : 1 * 2 ^ k % 4294967296 ≡ 2 ^ k = one_shl k 32 within in
    let one : bit_and masks (2 ^ k) ≡ 0 → ⊥ =
    subst (λ m. bit_and m (2 ^ k) ≡ 0 → ⊥) c.masks_at-masks.ensures
    (subst (λ x. bit_and c.masks_at-masks.result x ≡ 0 → ⊥) bit c.if-masks-bit-eq0.false) in
    let part = sym c.gain_of.ensures ∙ c.in-Part.is in
    let first : List Token = gains_in old new k (without (2 ^ k) c.args.network) in
    let second : List Token = gains_in old new k (with (2 ^ k) c.args.network) in
    let put : c.put_gains-in-Part.new.gains.items ≡ c.args.gains.now.items ++ first =
    c.in_ok-put_gains-in-Part.ensures
    ∙ ap (λ n. c.args.gains.now.items ++ gains_in old new k n) (c.without.ensures ∙ ap (λ x. without x c.args.network) bit) in
    let whole : c.put_gains-in-Part.new.gains.items ++ gains_in old new k c.with.result
    ≡ c.args.gains.now.items ++ gains_in old new c.args.bits c.args.network =
    ap (λ n. c.put_gains-in-Part.new.gains.items ++ gains_in old new k n)
    (c.with.ensures ∙ ap (λ x. with x c.args.network) bit)
    ∙ ap (λ g. g ++ second) put
    ∙ append_assoc c.args.gains.now.items first second
    ∙ ap (λ g. c.args.gains.now.items ++ g) (sym (halves_of old new c.args.bits c.args.network some one part)) in
    subst (λ g. OnOk c.put_gains-in-Part-2.result (c.put_gains-in-Part-2.new.gains.items ≡ g)) whole
    c.put_gains-in-Part-2.ensures
