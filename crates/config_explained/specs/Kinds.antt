-- The kinds of TOML's values.
use Rattle.std.specs.Prelude.{Option, Some, None, if◌then◌else◌, is_some}
use Rattle.toml.specs.Data.{Data, as_str, as_integer, as_float, as_bool, as_datetime, as_array}
use Rattle.config_explained.specs.declared.kind.ValueKind.{ValueKind}
use Rattle.config_explained.specs.declared.kind.ValueKind.TheVariants.{Nothing, Text, WholeNumber, Fraction}
use Rattle.config_explained.specs.declared.kind.ValueKind.TheVariants.{Truth, Moment}
use Rattle.config_explained.specs.declared.kind.ValueKind.TheVariants.{Array, Table}

-- the kind of a value
abbrev pub kind_in : Data → ValueKind
kind_in d = if is_some (as_str d) then Text else
    if is_some (as_integer d) then WholeNumber else
    if is_some (as_float d) then Fraction else
    if is_some (as_bool d) then Truth else
    if is_some (as_datetime d) then Moment else
    if is_some (as_array d) then Array else Table

-- the kind of a value, if one is there
abbrev pub kind_of : Option Data → ValueKind
kind_of None = Nothing
kind_of (Some d) = kind_in d
