use Rattle.std.proofs.Common.{◌≡◌, ◌∙◌, ◌/◌, ◌%◌, ◌^◌, ◌<◌, ◌+◌, min, arith, ap, inl, inr}
use Rattle.std.proofs.lemmas.Bool.{cases_lt}
use Rattle.server_core.specs.Rows.{bit_in}
use Rattle.server_core.proofs.WordLemmas.{lowest, lowest-set, none-below, nothing-left}
use Rattle.server_core.proofs.marks.BitRow.next_set.Goals as goal

pub returns-then-rest-ne0-clause-set : goal.returns-then-rest-ne0-clause-set
returns-then-rest-ne0-clause-set c = λ inside.
    let words = c.args.self.now.words.items in
    let some : 0 < c.word.result / 2 ^ (c.groups.at % 64) = omega (arith, c.if-rest-ne0.true) in
    let is : c.min.result ≡ min c.args.end
    (c.groups.at + lowest words c.groups.at c.word.result c.word.ensures c.word.type_inv some) = c.min.ensures in
    let there : c.min.result
    ≡ c.groups.at + lowest words c.groups.at c.word.result c.word.ensures c.word.type_inv some =
    omega (arith, is, inside) in
    ap (bit_in words) there ∙ lowest-set words c.groups.at c.word.result c.word.ensures c.word.type_inv some

pub returns-then-rest-ne0-clause-passed : goal.returns-then-rest-ne0-clause-passed
returns-then-rest-ne0-clause-passed c = λ slot from below.
    let words = c.args.self.now.words.items in
    let some : 0 < c.word.result / 2 ^ (c.groups.at % 64) = omega (arith, c.if-rest-ne0.true) in
    let is : c.min.result ≡ min c.args.end
    (c.groups.at + lowest words c.groups.at c.word.result c.word.ensures c.word.type_inv some) = c.min.ensures in
    elim (cases_lt slot c.groups.at) [
      | inl before ↦ c.groups.invariant.passed slot from before
      | inr here ↦ none-below words c.groups.at c.word.result c.word.ensures c.word.type_inv some slot here
          (omega (arith, is, below))
    ]

pub groups-preserved : goal.groups-preserved
groups-preserved c =
    let words = c.args.self.now.words.items in
    record {
      after = omega (arith, c.groups.invariant.after);
      passed = λ slot from below. elim (cases_lt slot c.groups.at) [
        | inl before ↦ c.groups.invariant.passed slot from before
        | inr here ↦ nothing-left words c.groups.at c.word.result c.word.ensures c.if-rest-ne0.false slot here below
      ];
    }
