-- The last line without the value, and the next one with it.
use Rattle.std.proofs.Common.{◌≡◌, ◌-◌, ◌<◌, ◌≤◌, List, ℕ, Some, true, length, take, get_or, arith, rules}
use Rattle.std.proofs.lemmas.Grind.{common_steps}
use Rattle.config_explained.specs.ValueLines.{Reads}
use Rattle.config_explained.proofs.value_line.begin_of.Goals as goal

pub returns-in-Some-true-clause-begins : goal.returns-in-Some-true-clause-begins
returns-in-Some-true-clause-begins c =
    let text : List ℕ = c.args.text.now in
    let offset : ℕ = c.in-Some.offset in
    let until : ℕ = c.in-Some-true.field-0.end in
    let later : offset < until = rw c.in-Some-true.is at c.in_ok-next_beginning.ensures.later in
    let within : until ≤ length text = rw c.in-Some-true.is at c.in_ok-next_beginning.ensures.within in
    let begins : offset < length text → 0 < offset → get_or text (offset - 1) 0 ≡ 10 =
    rw c.in-Some.is at c.in_ok-offset.ensures.begins in
    let reads : Reads (take until text) c.args.step (Some c.in-Some-true.field-0.has_value) =
    rw c.in-Some-true.is at c.in_ok-next_beginning.ensures.reads in
    let there : Reads (take until text) c.args.step (Some true) =
    first_of (search rules, grind (arith, common_steps, reads)) in
    record {
      begins = λ above. begins (omega (arith, later, within)) above;
      before = rw c.in-Some.is at c.in_ok-offset.ensures.before;
      until = until;
      after = later;
      within = within;
      there = there;
      between = rw c.in-Some-true.is at c.in_ok-next_beginning.ensures.between;
    }
