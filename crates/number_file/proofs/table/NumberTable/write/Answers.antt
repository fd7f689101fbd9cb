use Rattle.std.proofs.Common.{◌≡◌, ◌++◌}
use Rattle.std.proofs.lemmas.Result.{on_ok_weaker}
use Rattle.number_file.specs.Text.{text_of}
use Rattle.number_file.proofs.TableKeeping.{table-back}
use Rattle.number_file.proofs.table.NumberTable.write.Goals as goal

pub returns-clause-read : goal.returns-clause-read
returns-clause-read c =
    let text = c.push_numbers.new.text.items in
    let before = c.clear.new.self.items in
    let slice = c.as_slice.result.now in
    on_ok_weaker c.push_numbers.result
    (λ (written : text ≡ before ++ text_of slice). table-back text before slice c.self.inside.numbers.items c.args.self.now
    c.self.invariant c.clear.ensures.items c.as_slice.ensures.value c.self.view_is written)
    c.push_numbers.ensures
