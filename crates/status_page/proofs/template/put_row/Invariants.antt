use Rattle.std.proofs.Common.{◌≡◌, ◌++◌, take, flat_map}
use Rattle.status_page.specs.Places.{value_text}
use Rattle.status_page.specs.Templates.{piece_text}
use Rattle.status_page.proofs.template.put_row.Given as goal

abbrev pub invariant-loop-piece : goal.invariant-loop-piece
invariant-loop-piece l = l.text.items ≡ l.fn.text.items
    ++ flat_map (piece_text l.language (value_text l.row)) (take l.piece-index l.pieces)
