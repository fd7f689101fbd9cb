use Rattle.std.proofs.Common.{◌∙◌, sym, ap₂, position}
use Rattle.protocol.specs.Catalog.{has_codes}
use Rattle.server_core.proofs.ArriveLemmas.{placed-unknown}
use Rattle.server_core.proofs.arrivals.placed.Goals as goal

pub returns-in-Some-clause-ok : goal.returns-in-Some-clause-ok
returns-in-Some-clause-ok c = record {
  facts = c.in-Ok.header;
  is_read = sym c.in-Ok.ensures;
  at = ap₂ (λ network station. position (λ e. has_codes network station e.station) c.args.config.now.entries)
      (sym c.network.ensures.code) (sym c.station.ensures.code) ∙ sym c.in-Some.ensures.value;
  kept = sym c.summary_of.ensures;
}

pub returns-in-None-clause-err : goal.returns-in-None-clause-err
returns-in-None-clause-err c =
    placed-unknown c.args.config.now c.args.bytes.now c.in-Ok.header (sym c.in-Ok.ensures)
    (ap₂ (λ network station. position (λ e. has_codes network station e.station) c.args.config.now.entries)
    (sym c.network.ensures.code) (sym c.station.ensures.code) ∙ sym c.in-None.ensures.value)
