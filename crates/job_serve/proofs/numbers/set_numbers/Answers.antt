use Rattle.std.proofs.Common.{◌≡◌, ◌∙◌, ◌<◌, ℕ, zero, suc, List, [], ◌∷◌, Some, ap, sym, length, slice_get}
use Rattle.std.proofs.Common.{get_or}
use Rattle.std.proofs.Common.{add-one, arith, take}
use Rattle.number_file.specs.Tables.{with_next, with_nexts}
use Rattle.number_file.proofs.TableLemmas.{with_nexts-more, with_nexts-none}
use Rattle.serving.specs.Ahead.{ahead_of}
use Rattle.serving.proofs.AheadLemmas.{some-there}
use Rattle.job_serve.proofs.numbers.set_numbers.Goals as goal
use Rattle.job_serve.proofs.numbers.set_numbers.Goals.{in-Some, in-None}

-- the number that is there
there : (xs : List ℕ) (i n : ℕ) → Some n ≡ slice_get xs i → (i < length xs) × (n ≡ get_or xs i 0)
there [] i n e = absurd (cc)
there (x ∷ xs) zero n e = let same : n ≡ x = cc in (omega arith, same)
there (x ∷ xs) (suc i) n e = let h = there xs i n e in (omega (arith, h.0), h.1)

pub loop-place-init : goal.loop-place-init
loop-place-init c = sym (with_nexts-none c.args.table.now)

pub loop-place-preserved : goal.loop-place-preserved
loop-place-preserved c =
    let all = ahead_of c.args.numbers.now in
    let old = c.args.table.now in
    let i = c.loop-place.place in
    elim c.match-number.branch [
      | in-Some w ↦
          let h = there all i w.in-Some.number w.in-Some.ensures in
          w.table-is ∙ w.set.ensures
          ∙ ap (λ t. with_next t i w.in-Some.number) c.loop-place.invariant
          ∙ ap (with_next (with_nexts old (take i all)) i) h.1
          ∙ with_nexts-more old all i h.0
          ∙ ap (λ n. with_nexts old (take n all)) (sym (add-one i))
      | in-None w ↦
          absurd (some-there all i w.in-None.ensures (omega (arith, c.loop-place-test.true, c.count-place-end.ensures)))
    ]
