-- What a check lists, by the words of a command line.
use Rattle.std.specs.Prelude.{Bool, not}
use Rattle.record_check.specs.declared.options.ListingOptions.{ListingOptions}
use Rattle.job_base.specs.Times.{times_by}

-- what is listed, by `--iso`, `--summary`, `--quiet` and `--gaps`
abbrev pub listing_by : (is_iso has_summary is_quiet has_gaps : Bool) → ListingOptions
listing_by is_iso has_summary is_quiet has_gaps =
    record { times = times_by is_iso; has_lines = not is_quiet; has_summary = has_summary; has_gaps = has_gaps }
