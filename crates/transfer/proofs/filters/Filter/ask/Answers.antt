use Rattle.std.proofs.Common.{◌≡◌, false, sym, ap, ◌∙◌, arith}
use Rattle.station_ring.specs.declared.held.Stream.{Stream}
use Rattle.station_ring.specs.Briefs.{stream_of}
use Rattle.transfer.specs.Wanting.{facts_of}
use Rattle.transfer.proofs.FilterLemmas.{filter-refuses}
use Rattle.transfer.proofs.filters.Filter.ask.Goals as goal

pub returns-then-not-passes : goal.returns-then-not-passes
returns-then-not-passes c = λ streams x at there is.
    let refused : c.passes.result ≡ false = grind arith in
    filter-refuses c.args.self.now c.refuse.new.self streams x c.in-Some.number (stream_of c.args.summary.now)
    c.refuse.ensures
    (there c.in-Some.number c.in-Some.is)
    (λ y e. sym (c.passes.ensures x (facts_of y) at (ap (λ (s : Stream). s.location) e)
    (ap (λ (s : Stream). s.channel) e) (ap (λ (s : Stream). s.kind) e)) ∙ refused) is
