use Rattle.std.proofs.Common.{◌≡◌, ◌∙◌, ◌+◌, ◌-◌, ◌++◌, ◌∷◌, [], ℕ, length, replicate, rules, sym, ap, append_assoc}
use Rattle.std.proofs.Common.{arith}
use Rattle.std.proofs.lemmas.Grind.{common_steps}
use Rattle.std.proofs.lemmas.List.{replicate-append-replicate}
use Rattle.config_explained.proofs.lines.put_padded.Goals as goal

-- one space more
pub loop-preserved : goal.loop-preserved
loop-preserved c =
    let n : ℕ = c.loop.counter - length c.args.code.now in
    let more : c.loop.counter + 1 - length c.args.code.now ≡ n + 1 = omega (arith, c.loop.invariant.1) in
    let pushed : c.push.new.self.items ≡ c.loop.text.items ++ 32 ∷ [] =
    first_of (search rules, grind (arith, common_steps, c.push.ensures.items, c.in_ok-push.was)) in (
      pushed
          ∙ ap (λ xs. xs ++ 32 ∷ []) c.loop.invariant.0
          ∙ append_assoc (c.args.text.now.items ++ c.args.code.now) (replicate n 32) (32 ∷ [])
          ∙ ap (λ xs. (c.args.text.now.items ++ c.args.code.now) ++ xs)
          (replicate-append-replicate n 1 32 ∙ ap (λ k. replicate k 32) (sym more)),
      omega (arith, c.loop.invariant.1),
      omega (arith, c.loop.invariant.2, c.loop-test.true),
    )
