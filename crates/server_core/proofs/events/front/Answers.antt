use Rattle.std.proofs.Common.{◌≡◌, ◌∙◌, ap, arith, take, List, ℕ, Some, None, Option, option_map, unwrap_or}
use Rattle.std.proofs.lemmas.Grind.{common_steps}
use Rattle.protocol.specs.Client.{Client}
use Rattle.server_core.specs.Runs.{first_waiting}
use Rattle.server_core.proofs.events.front.Goals as goal

first-of : (n : ℕ) (bytes : List ℕ) (o : Option Client) → Some bytes ≡ option_map (λ c. c.waiting) o
    → take n bytes ≡ first_waiting n o
first-of n bytes None e = absurd cc
first-of n bytes (Some c) e = ap (λ (x : Option (List ℕ)). take n (unwrap_or x bytes)) e

pub returns-clause-answer : goal.returns-clause-answer
returns-clause-answer c = λ config w stands.
    let got : c.in_ok-bytes.bytes.items ≡ take c.args.count c.in-Ok.waiting.now = grind (arith, common_steps) in
    got ∙ first-of c.args.count c.in-Ok.waiting.now _ (c.in-Ok.ensures.answer config w stands)
