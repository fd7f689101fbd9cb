-- The first lines with one byte more.
use Rattle.std.proofs.Common.{◌≡◌, ◌∙◌, ◌+◌, ◌<◌, ◌≤◌, ◌==◌, if◌then◌else◌, take, get_or, length, ap, refl, arith}
use Rattle.std.proofs.Common.{ℕ, Bool, true, false, sym, inl, inr}
use Rattle.std.proofs.lemmas.Bool.Decides.{leb_tells}
use Rattle.config_explained.specs.Unknown.{line_ends}
use Rattle.config_explained.proofs.LineLemmas.{ends_next, lines_next}
use Rattle.config_explained.proofs.first_lines.first_lines.Goals as goal

no_fewer : (b : Bool) (n : ℕ) → n ≤ (if b then n + 1 else n)
no_fewer true n = omega arith
no_fewer false n = omega arith

one_more : (b : Bool) (n : ℕ) → (if b then n + 1 else n) ≤ n + 1
one_more true n = omega arith
one_more false n = omega arith

no_longer : (ends n size' size k : ℕ) → size ≤ k → (ends < n → size' ≡ k + 1) → (n ≤ ends → size' ≡ size)
    → size' ≤ k + 1
no_longer ends n size' size k bound opened done =
    elim (leb_tells n ends) [
      | inl many ↦ let e = done many.1 in omega (arith, e, bound)
      | inr few ↦ let e = opened few.1 in omega (arith, e)
    ]

pub loop-at-init : goal.loop-at-init
loop-at-init c = record {
  lines = refl;
  within = omega arith;
  ends = refl;
  few = omega arith;
  whole = λ h. refl;
}

pub loop-at-preserved : goal.loop-at-preserved
loop-at-preserved c =
    let h = c.loop-at.invariant in
    let text = c.args.text.now in
    let k = c.loop-at.at in
    let within : k < length text = c.loop-at-test.true in
    let opened = c.length_with-length.ensures.«open» in
    let done = c.length_with-length.ensures.done in
    let more : line_ends (take (k + 1) text) ≡ (if get_or text k 0 == 10 then c.loop-at.ends + 1 else c.loop-at.ends) =
    ends_next text k 0 within
    ∙ ap (λ n. if get_or text k 0 == 10 then n + 1 else n) (sym h.ends) in
    let grows : c.loop-at.ends ≤ c.ends_with-ends.result =
    rw c.ends_with-ends.ensures (no_fewer (get_or text k 0 == 10) _) in
    let few : c.ends_with-ends.result ≤ c.loop-at.ends + 1 =
    rw c.ends_with-ends.ensures (one_more (get_or text k 0 == 10) _) in
    record {
      lines = lines_next text k 0 64 c.loop-at.length _ c.loop-at.ends within h.ends h.lines h.whole opened done;
      within = no_longer c.loop-at.ends 64 _ c.loop-at.length k h.within opened done;
      ends = c.ends_with-ends.ensures ∙ sym more;
      few = let below = h.few in omega (arith, below, few);
      whole = λ less. opened (omega (arith, less, grows));
    }
