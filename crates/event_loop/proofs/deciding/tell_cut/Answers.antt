use Rattle.std.proofs.Common.{◌<◌, ◌∙◌, ◌++◌, ◌∷◌, [], ap, arith, length, refl, sym, take}
use Rattle.std.proofs.lemmas.List.{take_more}
use Rattle.event_loop.specs.declared.seat.Seat.{Seat}
use Rattle.event_loop.specs.Decided.{cuts_in}
use Rattle.event_loop.proofs.DecidedLemmas.{cuts-more, decides-none, decides-then}
use Rattle.event_loop.proofs.deciding.tell_cut.Goals as goal

pub loop-seat-init : goal.loop-seat-init
loop-seat-init g c = record { calls = refl; failures = refl; decides = decides-none _ }

pub loop-seat-preserved : goal.loop-seat-preserved
loop-seat-preserved g c =
    let xs = c.args.seats.now in
    let i = c.loop-seat.seat-index in
    let inside : i < length xs = omega arith in
    record {
      calls = c.tell_if_cut.ensures.calls ∙ c.loop-seat.invariant.calls;
      failures = c.tell_if_cut.ensures.failures ∙ c.loop-seat.invariant.failures;
      decides = decides-then _ _ _ (cuts_in c.args.server.now (take i xs)) _ _ c.loop-seat.invariant.decides
          c.tell_if_cut.ensures.decides
          (ap (cuts_in c.args.server.now)
          (take_more xs i c.seat-item.result inside
          ∙ ap (λ (s : Seat). take i xs ++ s ∷ []) (sym c.seat-item.is))
          ∙ cuts-more c.args.server.now (take i xs) c.seat-item.result);
    }
