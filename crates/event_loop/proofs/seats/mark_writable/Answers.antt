use Rattle.std.proofs.Common.{rules, ◌∙◌, ap, sym, true, set, refl}
use Rattle.std.proofs.lemmas.List.{get_or_default}
use Rattle.event_loop.specs.declared.seat.Seat.{Seat}
use Rattle.event_loop.specs.Hearing.{writable_at}
use Rattle.event_loop.specs.Tables.{no_seat, IsSeatOf, IsGapFor}
use Rattle.event_loop.proofs.TableLemmas.{one-marked, none-marked-unseated, is-unseated, rise-from}
use Rattle.event_loop.proofs.seats.mark_writable.Goals as goal

pub returns-in-Ok-clause-marks : goal.returns-in-Ok-clause-marks
returns-in-Ok-clause-marks c =
    let ss = c.args.seats.now.items in
    let found : IsSeatOf ss c.args.port c.in-Ok.at = search rules in
    let is = get_or_default ss c.in-Ok.at c.index_mut.result.now no_seat found.inside in
    let here = c.index_mut.ensures.value ∙ is in
    ap (λ (s : Seat). set ss c.in-Ok.at (record s { writable = true })) here
    ∙ sym (one-marked c.args.port (λ s. record s { writable = true }) (writable_at c.args.port) ss c.in-Ok.at
    (λ s. refl) (rise-from ss c.requires.rising) found)

pub returns-in_default-clause-marks : goal.returns-in_default-clause-marks
returns-in_default-clause-marks c =
    let ss = c.args.seats.now.items in
    let gap : IsGapFor ss c.args.port c.in_default.field-0 = search rules in
    sym (none-marked-unseated c.args.port (λ s. record s { writable = true }) (writable_at c.args.port) ss (λ s. refl)
    (is-unseated ss c.args.port c.in_default.field-0 gap))
