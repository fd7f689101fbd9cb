use Rattle.std.proofs.Common.{◌≡◌, Ok, Some}
use Rattle.std.proofs.lemmas.Result.{IfOk-weaker}
use Rattle.std.specs.List.{All}
use Rattle.toml.specs.View.{table_view}
use Rattle.number_file.specs.Keeping.{IsKeepable}
use Rattle.number_file.specs.Reading.{numbers_of}
use Rattle.number_file.proofs.KeepableLemmas.{text_keepable}
use Rattle.number_file.proofs.reading.read_numbers.Goals as goal

pub returns-clause-keepable : goal.returns-clause-keepable
returns-clause-keepable c =
    let members = table_view c.in_ok-table.table in
    IfOk-weaker c.numbers_of.result (λ numbers. numbers_of members ≡ Ok numbers.items)
    (λ numbers. All IsKeepable numbers.items) (λ numbers read. text_keepable (Some members) numbers.items read)
    c.numbers_of.ensures.ok
