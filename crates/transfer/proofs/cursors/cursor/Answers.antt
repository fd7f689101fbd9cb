use Rattle.std.proofs.Common.{◌≡◌, ◌∙◌, ◌<◌, ◌-◌, ◌+◌, [], ap, sym, subst, arith, length, drop, refl, slice_get}
use Rattle.std.proofs.lemmas.List.{drop_all}
use Rattle.transfer.specs.Cursors.{entry_cursors}
use Rattle.session_state.specs.Choices.{chosen_of}
use Rattle.transfer.proofs.RequestLemmas.{cursors-entries, cursors-other, cursors-request, get-first, get-past}
use Rattle.transfer.proofs.cursors.cursor.Goals.{then-is_request+else-left-eq0, else-is_request}
use Rattle.transfer.proofs.cursors.cursor.Goals as goal

pub loop-entry-init : goal.loop-entry-init
loop-entry-init c = (
  refl,
  subst (λ xs. c.args.i < length xs) (cursors-entries (chosen_of c.args.session.now.mode)
      ∙ ap entry_cursors (sym c.choices-entry-items.ensures)) c.requires,
)

pub returns-then-left-eq0 : goal.returns-then-left-eq0
returns-then-left-eq0 c =
    let items = c.choices-entry-items.result.now in
    let here = cursors-request items c.loop-entry.entry-index c.entry-item.result c.loop-entry-test.true c.entry-item.is
    (sym c.if-is_request.true ∙ c.is_request.ensures) in
    get-first c.entry-item.result.cursor.ring_place _ c.loop-entry.left c.if-left-eq0.true
    ∙ ap (λ xs. slice_get xs c.loop-entry.left) (sym here)
    ∙ c.loop-entry.invariant.0
    ∙ ap (λ xs. slice_get xs c.args.i) (ap entry_cursors c.choices-entry-items.ensures
    ∙ sym (cursors-entries (chosen_of c.args.session.now.mode)))

pub loop-entry-preserved : goal.loop-entry-preserved
loop-entry-preserved c =
    let items = c.choices-entry-items.result.now in
    elim c.if-is_request.branch [
      | then-is_request+else-left-eq0 w ↦
          let here = cursors-request items c.loop-entry.entry-index c.entry-item.result c.loop-entry-test.true
          c.entry-item.is (sym w.if-is_request.true ∙ c.is_request.ensures) in
          let past = get-past c.entry-item.result.cursor.ring_place _ c.loop-entry.left
          (subst (λ xs. c.loop-entry.left < length xs) here c.loop-entry.invariant.1) (omega arith) in
          let left : c.if-is_request.left ≡ c.loop-entry.left - 1 = w.left-is in (
            ap (slice_get (entry_cursors (drop (c.loop-entry.entry-index + 1) items))) left ∙ past.0
                ∙ ap (λ xs. slice_get xs c.loop-entry.left) (sym here) ∙ c.loop-entry.invariant.0,
            subst (λ n. n < length (entry_cursors (drop (c.loop-entry.entry-index + 1) items))) (sym left) past.1,
          )
      | else-is_request w ↦
          let here = cursors-other items c.loop-entry.entry-index c.entry-item.result c.loop-entry-test.true
          c.entry-item.is (sym w.if-is_request.false ∙ c.is_request.ensures) in
          let left : c.if-is_request.left ≡ c.loop-entry.left = w.left-is in (
            ap (slice_get (entry_cursors (drop (c.loop-entry.entry-index + 1) items))) left
                ∙ ap (λ xs. slice_get xs c.loop-entry.left) (sym here) ∙ c.loop-entry.invariant.0,
            subst (λ n. n < length (entry_cursors (drop (c.loop-entry.entry-index + 1) items))) (sym left)
                (subst (λ xs. c.loop-entry.left < length xs) here c.loop-entry.invariant.1),
          )
    ]

pub returns : goal.returns
returns c = absurd (
    let none : entry_cursors (drop c.loop-entry.entry-index c.choices-entry-items.result.now)
    ≡ [] =
    ap entry_cursors (drop_all c.loop-entry.entry-index c.choices-entry-items.result.now c.loop-entry-test.false) in
    let low : c.loop-entry.left < 0 = subst (λ xs. c.loop-entry.left < length xs) none c.loop-entry.invariant.1 in
    omega arith)
