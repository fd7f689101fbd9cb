-- What is written is read back.
use Rattle.std.proofs.Common.{◌≡◌, ℕ, ℤ, Some, None, ap, ap₂, ◌∙◌}
use Rattle.std.specs.Prelude.{Option}
use Rattle.protocol.specs.Packet.{number_of}
use Rattle.protocol.proofs.Digits.{number_of-digits}
use Rattle.slreader.specs.Tallies.{ReachedValue}
use Rattle.reader_state.proofs.reading.reached_of.Goals as goal

never : {A X : Type 0} → (x : X) → None ≡ Some x → A
never x e = absurd cc

both-same : (n : ℕ) (e : Option ℤ) (r : ReachedValue) → Some n ≡ Some r.number → Some e ≡ Some r.end
    → Some (let v : ReachedValue = record { number = n; end = e } in v) ≡ Some r
both-same n e r is ends =
    let a : n ≡ r.number = cc in let b : e ≡ r.end = cc in
    ap₂ (λ (m : ℕ) (f : Option ℤ). Some (let v : ReachedValue = record { number = m; end = f } in v)) a b

pub returns-in-None : goal.returns-in-None
returns-in-None c = λ r small ends is spelled.
    never r.number (c.in-None.ensures ∙ ap number_of is ∙ number_of-digits r.number small)

pub returns-in-None-end_of : goal.returns-in-None-end_of
returns-in-None-end_of c = λ r small ends is spelled. never r.end (c.in-None-end_of.ensures r.end ends spelled)

pub returns : goal.returns
returns c = λ r small ends is spelled.
    both-same _ _ r (c.in-Some.ensures ∙ ap number_of is ∙ number_of-digits r.number small)
    (c.in-Some-end_of.ensures r.end ends spelled)
