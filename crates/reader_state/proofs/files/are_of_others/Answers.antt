-- The names that were seen are those of the files behind the place.
use Rattle.std.proofs.Common.{◌≡◌, ◌∙◌, ◌+◌, ◌-◌, ◌<◌, Bool, ap, arith, cond, drop, false, length, not, refl, sym, true}
use Rattle.std.specs.Str.{bytes_eq}
use Rattle.continued_files.specs.Lengths.{LengthValue}
use Rattle.reader_state.specs.States.{are_of_others}
use Rattle.reader_state.proofs.OtherLemmas.{are_named, named-more, others-end, others-more}
use Rattle.reader_state.proofs.files.are_of_others.Goals as goal

not-is : (b c : Bool) → c ≡ not b → c ≡ false → b ≡ true
not-is true c is no_ = refl
not-is false c is no_ = absurd (let bad : true ≡ false = sym is ∙ no_ in cc)

not-was : (b c : Bool) → c ≡ not b → c ≡ true → b ≡ false
not-was true c is yes_ = absurd (let bad : false ≡ true = sym is ∙ yes_ in cc)
not-was false c is yes_ = refl

pub returns-in-Ok-false : goal.returns-in-Ok-false
returns-in-Ok-false c =
    let file = c.index-files-at.result in
    let low : c.loop-at.at - 1 < length c.args.files.now =
    omega (arith, c.loop-at-test.true, c.loop-at.invariant.within) in
    let next : c.loop-at.at ≡ c.loop-at.at - 1 + 1 = omega (arith, c.loop-at-test.true) in
    let seen = not-is _ _ (c.in-Ok-false.ensures {u = tt}).added c.in-Ok-false.field-0-test in
    others-end c.args.files.now (c.loop-at.at - 1) file file low c.index-files-at.is
    (ap (λ n. are_named (drop n c.args.files.now) file.name) (sym next)
    ∙ ap (are_named (drop c.loop-at.at c.args.files.now)) (sym c.name.ensures)
    ∙ sym (c.loop-at.invariant.names c.name.result.now) ∙ seen)

pub loop-at-preserved : goal.loop-at-preserved
loop-at-preserved c =
    let file = c.index-files-at.result in
    let files = c.args.files.now in
    let low : c.loop-at.at - 1 < length files = omega (arith, c.loop-at-test.true, c.loop-at.invariant.within) in
    let next : c.loop-at.at ≡ c.loop-at.at - 1 + 1 = omega (arith, c.loop-at-test.true) in
    let unseen = not-was _ _ (c.in-Ok-true.ensures {u = tt}).added c.in-Ok-true.field-0-test in
    record {
      within = omega (arith, low);
      names = λ name.
          (c.in-Ok-true.ensures {u = tt}).updates.0 (record { ref_ptr = (0, 0); now = name })
          ∙ ap (λ b. cond (bytes_eq c.name.result.now name) true b) (c.loop-at.invariant.names name)
          ∙ ap (λ n. cond (bytes_eq n name) true (are_named (drop c.loop-at.at files) name)) c.name.ensures
          ∙ ap (λ n. cond (bytes_eq file.name name) true (are_named (drop n files) name)) next
          ∙ sym (named-more files (c.loop-at.at - 1) file file name low c.index-files-at.is);
      others = others-more files (c.loop-at.at - 1) file file low c.index-files-at.is
          (ap (λ n. are_named (drop n files) file.name) (sym next)
          ∙ ap (are_named (drop c.loop-at.at files)) (sym c.name.ensures)
          ∙ sym (c.loop-at.invariant.names c.name.result.now) ∙ unseen)
          (ap (λ n. are_of_others (drop n files)) (sym next) ∙ c.loop-at.invariant.others);
    }
