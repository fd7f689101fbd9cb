-- How times are written, by the words of a command line.
use Rattle.std.specs.Prelude.{Bool, true, false}
use Rattle.record_check.specs.declared.options.Times.{Times}
use Rattle.record_check.specs.declared.options.Times.TheVariants.{Ticks, Iso}

-- how times are written, by whether `--iso` was given
abbrev pub times_by : Bool → Times
times_by false = Ticks
times_by true = Iso
