-- One line more, or none.
use Rattle.std.proofs.Common.{◌≡◌, ◌++◌, ◌∷◌, [], None, Some, refl, sym, ap, ◌∙◌, append_assoc, append-nil}
use Rattle.std.proofs.Common.{Err}
use Rattle.std.proofs.lemmas.Result.{err_from_is_err_and}
use Rattle.std.specs.Prelude.{MatchOption, Option}
use Rattle.reader_state.proofs.FileLemmas.{file-first, no-file}
use Rattle.reader_state.proofs.files.lengths_in.Goals as goal

-- nothing was cut off
back-none : {X : Type 0} → (r : Option X) (P : X → Type 0) → MatchOption r ⊥ P → ((x : X) → r ≡ Some x → ⊥) → ⊥
back-none None P m n = m
back-none (Some x) P m n = n x refl

pub returns-in_err-file : goal.returns-in_err-file
returns-in_err-file c = λ fs h is.
    let inv = c.lines.invariant fs h is in
    let f = file-first inv.0 _ c.in-Some.line.front.now c.in-Some.line.rest.now inv.2 inv.3 c.in-Some.ensures.smaller
    c.in-Some.ensures.back in
    let p = err_from_is_err_and c.from_residual.result c.from_residual.ensures.1 in
    rw (p.1 ∙ ap Err p.2) (c.in_err-file.ensures {u = tt} f.first f.is_length f.line)

pub lines-smaller : goal.lines-smaller
lines-smaller c = c.in-Some.ensures.smaller

pub lines-preserved : goal.lines-preserved
lines-preserved c = λ fs h is.
    let inv = c.lines.invariant fs h is in
    let f = file-first inv.0 _ c.in-Some.line.front.now c.in-Some.line.rest.now inv.2 inv.3 c.in-Some.ensures.smaller
    c.in-Some.ensures.back in
    let one = c.in_ok-file.ensures {u = tt} f.first f.is_length f.line in (
      f.others,
      inv.1 ∙ ap (λ l. c.lines.files.items ++ l) f.whole
          ∙ sym (append_assoc c.lines.files.items (f.first ∷ []) f.others)
          ∙ ap (λ l. (c.lines.files.items ++ l ∷ []) ++ f.others) (sym one)
          ∙ ap (λ l. l ++ f.others) (sym (c.in-Ok.ensures {u = tt}).items),
      f.are_lengths,
      f.left,
    )

pub returns : goal.returns
returns c = λ fs h is.
    let inv = c.lines.invariant fs h is in
    let none = no-file inv.0 _ inv.2 inv.3
    (λ xs ys lacks whole. back-none c.cut.result _ (c.cut.ensures.back xs ys lacks whole) c.in_default.not-Some) in
    sym (inv.1 ∙ ap (λ l. c.lines.files.items ++ l) none ∙ append-nil c.lines.files.items)
