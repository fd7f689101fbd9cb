-- What a contract sees of an `ErrorLines`.
use Rattle.error_lines.specs.declared.lines.ErrorLines.{ErrorLines}
use Rattle.error_lines.specs.Lines.{LinesValue}

-- what is kept between two lines
abbrev pub lines_value : {D : Type 0} → ErrorLines D → LinesValue
lines_value lines = record { dropped = lines.dropped; is_cut = lines.is_cut }
