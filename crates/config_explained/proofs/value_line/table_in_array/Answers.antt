-- Neither end makes it TOML, or the second one does.
use Rattle.std.proofs.Common.{◌≡◌, ◌∙◌, ◌++◌, List, ℕ, None, ap, codes, option_map}
use Rattle.std.specs.Str.{IsUtf8}
use Rattle.std.proofs.lemmas.Result.{IfOk-weaker}
use Rattle.toml.specs.Parse.{parse_document}
use Rattle.toml.specs.View.{table_view}
use Rattle.config_explained.specs.ValueLines.{array_reading}
use Rattle.config_explained.proofs.ValueLineLemmas.{array_closed, or_second, table_closed}
use Rattle.config_explained.proofs.value_line.table_in_array.Goals as goal

pub returns-in-None : goal.returns-in-None
returns-in-None c =
    let text : List ℕ = c.args.text.now in
    IfOk-weaker c.table_with_end-in-None.result
    (λ table. IsUtf8 (text ++ codes "}]") → parse_document (text ++ codes "}]") ≡ option_map table_view table)
    (λ table. IsUtf8 text → array_reading text ≡ option_map table_view table)
    (λ table read u. or_second (parse_document (text ++ codes "]")) (parse_document (text ++ codes "}]"))
    (option_map table_view table)
    (c.in_ok-table.ensures (array_closed text u) ∙ ap (option_map table_view) c.in-None.is)
    (read (table_closed text u))) c.table_with_end-in-None.ensures
