use Rattle.std.proofs.Common.{◌∙◌, ap, subst, sym}
use Rattle.server_core.specs.ServerValues.{ServerValue}
use Rattle.station_ring.specs.HeldRecords.{holdings_of}
use Rattle.server_core.specs.ServerValues.{StandsAt}
use Rattle.server_core.proofs.server.Server.arrivals.Goals as goal

pub returns-clause-count : goal.returns-clause-count
returns-clause-count c = λ config w stands.
    let here = subst (λ s. StandsAt s config w) (sym c.self.view_is) stands in
    c.arrivals.ensures.count config w.history (here.holds ∙ ap (λ g. holdings_of g w.history) here.config_is)

pub returns-clause-value : goal.returns-clause-value
returns-clause-value c = c.arrivals.ensures.value ∙ ap (λ (s : ServerValue). s.rings.arrivals) c.self.view_is
