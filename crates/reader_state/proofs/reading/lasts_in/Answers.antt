-- One line more, or none.
use Rattle.std.proofs.Common.{◌≡◌, ◌++◌, ◌∷◌, [], None, Some, refl, sym, ap, ◌∙◌, append_assoc, append-nil}
use Rattle.std.proofs.Common.{Err}
use Rattle.std.proofs.lemmas.Result.{err_from_is_err_and}
use Rattle.std.specs.Prelude.{MatchOption, Option}
use Rattle.reader_state.proofs.TextLemmas.{line-first, no-line}
use Rattle.reader_state.proofs.reading.lasts_in.Goals as goal

-- nothing was cut off
back-none : {X : Type 0} → (r : Option X) (P : X → Type 0) → MatchOption r ⊥ P → ((x : X) → r ≡ Some x → ⊥) → ⊥
back-none None P m n = m
back-none (Some x) P m n = n x refl

pub returns-in_err-last : goal.returns-in_err-last
returns-in_err-last c = λ ls h is.
    let inv = c.lines.invariant ls h is in
    let f = line-first inv.0 _ c.in-Some.line.front.now c.in-Some.line.rest.now inv.2 inv.3 c.in-Some.ensures.smaller
    c.in-Some.ensures.back in
    let p = err_from_is_err_and c.from_residual.result c.from_residual.ensures.1 in
    rw (p.1 ∙ ap Err p.2) (c.in_err-last.ensures {u = tt} f.first f.is_last f.line)

pub lines-smaller : goal.lines-smaller
lines-smaller c = c.in-Some.ensures.smaller

pub lines-preserved : goal.lines-preserved
lines-preserved c = λ ls h is.
    let inv = c.lines.invariant ls h is in
    let f = line-first inv.0 _ c.in-Some.line.front.now c.in-Some.line.rest.now inv.2 inv.3 c.in-Some.ensures.smaller
    c.in-Some.ensures.back in
    let one = c.in_ok-last.ensures {u = tt} f.first f.is_last f.line in (
      f.others,
      inv.1 ∙ ap (λ l. c.lines.lasts.items ++ l) f.whole
          ∙ sym (append_assoc c.lines.lasts.items (f.first ∷ []) f.others)
          ∙ ap (λ l. (c.lines.lasts.items ++ l ∷ []) ++ f.others) (sym one)
          ∙ ap (λ l. l ++ f.others) (sym (c.in-Ok.ensures {u = tt}).items),
      f.are_last,
      f.left,
    )

pub returns : goal.returns
returns c = λ ls h is.
    let inv = c.lines.invariant ls h is in
    let none = no-line inv.0 _ inv.2 inv.3
    (λ xs ys lacks whole. back-none c.cut.result _ (c.cut.ensures.back xs ys lacks whole) c.in_default.not-Some) in
    sym (inv.1 ∙ ap (λ l. c.lines.lasts.items ++ l) none ∙ append-nil c.lines.lasts.items)
