-- A place more was looked at, at which no record begins.
use Rattle.std.proofs.Common.{◌≡◌, ◌∙◌, ap, drop, false, sym, subst, arith, inl, inr}
use Rattle.std.proofs.lemmas.Bool.{cases_lt}
use Rattle.job_feed.specs.Aligning.{begins}
use Rattle.job_feed.proofs.aligned.first_beginning.Goals as goal

pub loop-place-preserved : goal.loop-place-preserved
loop-place-preserved c = λ place below. elim (cases_lt place c.loop-place.place) [
  | inl before ↦ c.loop-place.invariant place before
  | inr here ↦
      let same : c.loop-place.place ≡ place = omega (arith, here, below) in
      subst (λ p. begins (drop p c.args.bytes.now) ≡ false) same
      (sym (ap begins c.split_at.ensures.back) ∙ sym c.begins.ensures ∙ c.if-begins.false)
]
