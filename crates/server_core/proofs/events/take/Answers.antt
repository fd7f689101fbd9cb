use Rattle.std.proofs.Common.{◌≡◌, ◌∙◌, ap, ap₂, sym, subst, refl, arith, true, false, Bool, length, take, List, ℕ, ◌<◌}
use Rattle.std.proofs.Common.{◌≤◌, [], ◌∷◌}
use Rattle.std.proofs.lemmas.Grind.{common_steps}
use Rattle.std.specs.Result.{result_ok}
use Rattle.protocol.specs.Client.{Taken, is_nothing}
use Rattle.protocol.specs.World.{step, told}
use Rattle.protocol.specs.World.Event.{Take}
use Rattle.server_core.specs.ServerValues.{StandsAt}
use Rattle.server_core.proofs.TakeLemmas.{none-taken, some-taken, taken-told}
use Rattle.server_core.proofs.events.take.Goals as goal
use Rattle.server_core.proofs.events.take.Goals.{then-not-is_empty, else-not-is_empty}

pub took-requires : goal.took-requires
took-requires c = λ s there.
    let is = c.in_ok-bytes.ensures.session s there in
    let fits : length (take c.args.count s.waiting) ≤ length s.waiting = grind (arith, common_steps) in
    let count : c.len.result ≡ length (take c.args.count s.waiting) = grind (arith, common_steps) in
    let some : 0 < c.len.result = grind (arith, common_steps) in
    (some, omega (arith, fits, count))

pub returns-clause-stands : goal.returns-clause-stands
returns-clause-stands c = λ config w stands.
    let there = c.offer-found.ensures.stands config w stands in
    let bytes = c.in_ok-bytes.ensures.answer config _ there in
    elim c.if-not-is_empty.branch [
      | then-not-is_empty x ↦
          let count : x.len.result ≡ length c.in_ok-bytes.bytes.items = grind (arith, common_steps) in
          let some : is_nothing c.in_ok-bytes.bytes.items
          ≡ false = some-there c.in_ok-bytes.bytes.items (grind (arith, common_steps)) in
          subst (λ s. StandsAt s config (step config w (Take c.args.client.now c.args.count))) (sym x.server-is)
          (subst (StandsAt x.took.new.self config)
          (ap (λ n. step config (step config w (Take c.args.client.now 0)) (Take c.args.client.now n)) count
          ∙ some-taken config w c.args.client.now c.args.count c.in_ok-bytes.bytes.items bytes some)
          (x.took.ensures.stands config _ there))
      | else-not-is_empty x ↦
          let none : is_nothing c.in_ok-bytes.bytes.items
          ≡ true = none-there c.in_ok-bytes.bytes.items (grind (arith, common_steps)) in
          subst (λ s. StandsAt s config (step config w (Take c.args.client.now c.args.count))) (sym x.server-is)
          (subst (StandsAt c.offer-found.new.self config)
          (none-taken config w c.args.client.now c.args.count c.in_ok-bytes.bytes.items bytes none) there)
    ]
  where
    some-there : (xs : List ℕ) → 0 < length xs → is_nothing xs ≡ false
    some-there [] lt = absurd (omega (arith, lt))
    some-there (x ∷ xs) lt = refl

    none-there : (xs : List ℕ) → length xs ≡ 0 → is_nothing xs ≡ true
    none-there [] e = refl
    none-there (x ∷ xs) e = absurd cc

pub returns-clause-handed : goal.returns-clause-handed
returns-clause-handed c = λ config w stands.
    let bytes = c.in_ok-bytes.ensures.answer config _ (c.offer-found.ensures.stands config w stands) in
    ap₂ (λ n (t : Taken). told n t) c.number.ensures
    (ap (λ (b : Bool). let t : Taken = record { bytes = c.in_ok-bytes.bytes.items; ended = b } in t) c.is_over.ensures
    ∙ taken-told config w c.args.client.now c.args.count c.in_ok-bytes.bytes.items (result_ok c.offer-found.result)
    bytes
    (c.offer-found.ensures.answer config w stands))
