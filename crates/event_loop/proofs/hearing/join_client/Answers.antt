use Rattle.std.proofs.Common.{rules, ◌≡◌, ◌<◌, ◌≤◌, ◌∙◌, length, vec_len, refl, sym, ap, subst, arith}
use Rattle.std.specs.List.{insert}
use Rattle.std.specs.Vec.{vec_capacity}
use Rattle.std.specs.Result.{IsOk}
use Rattle.std.proofs.lemmas.Grind.{common_steps}
use Rattle.event_loop.specs.declared.seat.Seat.{Seat}
use Rattle.event_loop.specs.declared.seat.Role.TheVariants.{Client as ClientRole}
use Rattle.ports.specs.declared.answers.Happening.TheVariants.{Joined}
use Rattle.event_loop.specs.Decided.ClientDecided.{full, is_open, let_in, no_memory}
use Rattle.event_loop.specs.Hearing.{joining, clients_in, feeds_in}
use Rattle.event_loop.specs.Tables.{IsTable, IsSeatOf, IsGapFor, HearsOnce}
use Rattle.event_loop.specs.declared.hearing.Heard.TheVariants.{Happened}
use Rattle.event_loop.proofs.TableLemmas.{client-more, is-seated, is-unseated, inserted, table-client}
use Rattle.event_loop.proofs.HearLemmas.{hears-old, hears-away, hears-open}
use Rattle.std.proofs.Common.{List, ℕ}
use Rattle.event_loop.specs.Sleeping.{AreKnown, AreSeated}
use Rattle.event_loop.proofs.AwakeLemmas.{known-more, seated-more, some-number}
use Rattle.event_loop.proofs.hearing.join_client.Goals as goal

pub returns-in_default-clause-goes : goal.returns-in_default-clause-goes
returns-in_default-clause-goes g c = λ t calls config w tells stands.
    let ss = c.args.seats.now.all.items in
    let found : IsSeatOf ss c.args.port c.in_default.field-0 = search rules in
    hears-old config c.args.seats.now.max_clients w calls (g.P.Ports.calls c.args.ports.now) c.args.server.now t ss ss
    (Joined c.args.port c.args.address)
    refl (is-seated ss c.args.port c.in_default.field-0 found) refl tells stands

pub returns-then-clients-seats-clause-goes : goal.returns-then-clients-seats-clause-goes
returns-then-clients-seats-clause-goes g c = λ t calls config w tells stands.
    let ss = c.args.seats.now.all.items in
    let gap : IsGapFor ss c.args.port c.in-Err.at = search rules in
    hears-away config c.args.seats.now.max_clients w calls (g.P.Ports.calls c.args.ports.now) c.args.server.now t ss
    (g.P.Ports.calls c.turn_away.new.ports)
    c.args.port c.args.address (is-unseated ss c.args.port c.in-Err.at gap) tells c.turn_away.ensures.call stands

pub returns-then-not-has_room-clause-goes : goal.returns-then-not-has_room-clause-goes
returns-then-not-has_room-clause-goes g c = λ t calls config w tells stands.
    let ss = c.args.seats.now.all.items in
    let gap : IsGapFor ss c.args.port c.in-Err.at = search rules in
    subst (λ xs. HearsOnce config c.args.seats.now.max_clients w calls
    (g.P.Ports.calls c.turn_away-then-not-has_room.new.ports) c.args.server.now t ss xs Happened)
    (sym c.has_room.ensures.all)
    (hears-away config c.args.seats.now.max_clients w calls (g.P.Ports.calls c.args.ports.now) c.args.server.now t ss
    (g.P.Ports.calls c.turn_away-then-not-has_room.new.ports)
    c.args.port c.args.address (is-unseated ss c.args.port c.in-Err.at gap) tells
    c.turn_away-then-not-has_room.ensures.call stands)

pub returns-in-Ok-clause-goes : goal.returns-in-Ok-clause-goes
returns-in-Ok-clause-goes g c = λ t calls config w tells stands.
    let ss = c.args.seats.now.all.items in
    let new : Seat = joining c.args.port (ClientRole c.in-Ok.client) in
    let gap : IsGapFor ss c.args.port c.in-Err.at = search rules in
    let room : vec_len c.has_room.new.self.all < vec_capacity c.has_room.new.self.all = search rules in
    let ok : IsOk c.insert-kept.result = c.insert-kept.ensures.succeeds room in
    let kept : c.insert-kept.new.self.items ≡ insert ss c.in-Err.at new = grind (arith, common_steps) in
    let few : clients_in ss < c.args.seats.now.max_clients = grind (arith, common_steps) in
    let number : c.in-Ok.client ≡ length w.connections = c.in-Ok.ensures.number ∙ stands.count in
    subst (λ x. HearsOnce config c.args.seats.now.max_clients w calls x c.open.new.self t ss
    c.insert-kept.new.self.items
    Happened) (sym c.tell.ensures.calls)
    (hears-open config c.args.seats.now.max_clients w calls
    (g.P.Ports.calls c.args.ports.now) c.args.server.now t ss c.open.new.self c.insert-kept.new.self.items
    c.args.port c.args.address c.in-Ok.client (is-unseated ss c.args.port c.in-Err.at gap) few number
    (kept ∙ inserted ss new c.in-Err.at gap)
    tells (c.in-Ok.ensures.ok config w stands))

pub returns-in-Err-open-clause-goes : goal.returns-in-Err-open-clause-goes
returns-in-Err-open-clause-goes g c = λ t calls config w tells stands.
    let ss = c.args.seats.now.all.items in
    let gap : IsGapFor ss c.args.port c.in-Err.at = search rules in
    subst (λ xs. HearsOnce config c.args.seats.now.max_clients w calls
    (g.P.Ports.calls c.turn_away-in-Err-open.new.ports) c.open.new.self t ss xs Happened) (sym c.has_room.ensures.all)
    (hears-away config c.args.seats.now.max_clients w calls (g.P.Ports.calls c.args.ports.now) c.open.new.self t ss
    (g.P.Ports.calls c.turn_away-in-Err-open.new.ports)
    c.args.port c.args.address (is-unseated ss c.args.port c.in-Err.at gap) tells c.turn_away-in-Err-open.ensures.call
    (rw c.in-Err-open.ensures.err stands))

pub returns-in_default-clause-decides : goal.returns-in_default-clause-decides
returns-in_default-clause-decides g c =
    let ss = c.args.seats.now.all.items in
    let found : IsSeatOf ss c.args.port c.in_default.field-0 = search rules in
    is_open (is-seated ss c.args.port c.in_default.field-0 found) refl

pub returns-then-clients-seats-clause-decides : goal.returns-then-clients-seats-clause-decides
returns-then-clients-seats-clause-decides g c =
    let ss = c.args.seats.now.all.items in
    let many : c.args.seats.now.max_clients ≤ clients_in ss = grind (arith, common_steps) in
    full many c.turn_away.ensures.decides

pub returns-then-not-has_room-clause-decides : goal.returns-then-not-has_room-clause-decides
returns-then-not-has_room-clause-decides g c =
    let ss = c.args.seats.now.all.items in
    let few : clients_in ss < c.args.seats.now.max_clients = grind (arith, common_steps) in
    no_memory few c.has_room.ensures.all c.turn_away-then-not-has_room.ensures.decides

pub returns-in-Ok-clause-decides : goal.returns-in-Ok-clause-decides
returns-in-Ok-clause-decides g c =
    let room : vec_len c.has_room.new.self.all < vec_capacity c.has_room.new.self.all = search rules in
    let ok : IsOk c.insert-kept.result = c.insert-kept.ensures.succeeds room in
    let longer : length c.args.seats.now.all.items < length c.insert-kept.new.self.items =
    grind (arith, common_steps)
    in
    let_in longer c.tell.ensures.decides

pub returns-in-Err-open-clause-decides : goal.returns-in-Err-open-clause-decides
returns-in-Err-open-clause-decides g c =
    let ss = c.args.seats.now.all.items in
    let few : clients_in ss < c.args.seats.now.max_clients = grind (arith, common_steps) in
    no_memory few c.has_room.ensures.all c.turn_away-in-Err-open.ensures.decides

pub returns-in-Ok-clause-kept : goal.returns-in-Ok-clause-kept
returns-in-Ok-clause-kept g c =
    let ss = c.args.seats.now.all.items in
    let new : Seat = joining c.args.port (ClientRole c.in-Ok.client) in
    let gap : IsGapFor ss c.args.port c.in-Err.at = search rules in
    let room : vec_len c.has_room.new.self.all < vec_capacity c.has_room.new.self.all = search rules in
    let ok : IsOk c.insert-kept.result = c.insert-kept.ensures.succeeds room in
    let kept : c.insert-kept.new.self.items ≡ insert ss c.in-Err.at new = grind (arith, common_steps) in
    let few : clients_in ss < c.args.seats.now.max_clients = grind (arith, common_steps) in
    let byte : vec_len c.has_room.new.self.awake < vec_capacity c.has_room.new.self.awake = search rules in
    let put : IsOk c.insert-woken.result = c.insert-woken.ensures.succeeds byte in
    let woken : c.insert-woken.new.self.items ≡ insert c.args.seats.now.awake.items c.in-Err.at 1 =
    grind (arith, common_steps)
    in
    let others = c.in-Ok.ensures.others in
    let count = others.count in
    let number = c.in-Ok.ensures.number in
    record {
      table =
          subst (λ m. IsTable m c.insert-kept.new.self.items) (sym c.has_room.ensures.limit)
          (subst (IsTable c.args.seats.now.max_clients) (sym kept)
          (table-client c.args.seats.now.max_clients ss new c.in-Err.at refl gap few c.requires.table));
      known =
          subst (λ xs. AreKnown c.open.new.self xs c.insert-woken.new.self.items) (sym kept)
          (subst (AreKnown c.open.new.self (insert ss c.in-Err.at new)) (sym woken)
          (known-more c.args.server.now c.open.new.self ss c.args.seats.now.awake.items c.in-Err.at new gap.inside
          c.requires.seated c.requires.known (λ k lt. others.marks k (λ e. omega (arith, e, lt)))));
      seated =
          subst (AreSeated c.open.new.self) (sym kept)
          (seated-more c.args.server.now c.open.new.self ss c.args.seats.now.awake.items c.in-Err.at new gap.inside
          c.requires.seated (omega (arith, count))
          (λ k is. let e = some-number c.in-Ok.client k is in (
            omega (arith, e, number),
            omega (
              arith,
              e,
              number,
              count,
            ),
          )));
      feeds =
          c.has_room.ensures.feeds ∙ c.requires.feeds ∙ sym (ap feeds_in kept ∙ client-more ss new c.in-Err.at refl);
    }
