use Rattle.std.proofs.Common.{◌∙◌, option_map, sym, ap}
use Rattle.catalog.specs.Places.{station_at, Seen}
use Rattle.catalog.proofs.OrderLemmas.{halved, long_codes_nowhere}
use Rattle.catalog.proofs.view.View.find_codes.Goals as goal

pub returns-in_err-sought-clause-found : goal.returns-in_err-sought-clause-found
returns-in_err-sought-clause-found c = λ fits.
    ap (option_map (station_at c.args.config.now.entries)) c.from_residual.ensures
    ∙ sym (long_codes_nowhere c.args.config.now.entries c.args.self.now.places c.args.network.now c.args.code.now
    fits.within c.codes_are_short.ensures c.in_err-sought.ensures.none)

pub returns-clause-found : goal.returns-clause-found
returns-clause-found c = λ fits.
    halved c.args.config.now.entries c.stations-stations.result.now c.args.self.now.places c.args.self.now.by_codes
    c.as_slice-by_codes.result.now c.args.network.now c.args.code.now c.in_ok-sought.sought c.first_from-at.result
    c.codes_at.result fits.within fits.ordered c.codes_are_short.ensures c.codes_are_distinct.ensures
    c.in_ok-sought.ensures.spelled c.stations-stations.ensures
    (c.as_slice-by_codes.ensures.value ∙ ap (λ (s : Seen). s.by_codes) c.self.view_is)
    c.in_ok-sought.ensures.some c.codes_at.ensures.some c.codes_at.ensures.none c.first_from-at.ensures
