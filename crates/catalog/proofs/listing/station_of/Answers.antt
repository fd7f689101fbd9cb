use Rattle.std.proofs.Common.{length, subst, sym, ap, ◌∙◌, Err}
use Rattle.std.proofs.lemmas.Result.{err_from_is_err_and}
use Rattle.catalog.specs.Failing.{FailsWithin}
use Rattle.catalog.specs.Groups.{groups_value}
use Rattle.catalog.proofs.listing.station_of.Goals as goal

pub returns-in_err-station-clause-step : goal.returns-in_err-station-clause-step
returns-in_err-station-clause-step c =
    let p = err_from_is_err_and c.from_residual.result c.from_residual.ensures.1 in
    rw (p.1 ∙ ap Err p.2) (λ not_memory.
    let earlier = c.args.earlier.now in
    subst (λ t. FailsWithin (groups_value c.args.groups.now) (length earlier) earlier t c.in_err-station.field-0.0) (sym c.in-Ok.ensures.ok)
    (c.in_err-station.ensures.step not_memory earlier))
