use Rattle.std.proofs.Common.{rules, ◌≡◌, ◌+◌, ◌<◌, ◌≤◌, ◌∙◌, length, [], vec_len, refl, sym, ap, subst, arith}
use Rattle.std.specs.List.{insert}
use Rattle.std.specs.Vec.{vec_capacity}
use Rattle.std.specs.Result.{IsOk}
use Rattle.std.proofs.lemmas.Grind.{common_steps}
use Rattle.event_loop.specs.declared.seat.Seat.{Seat}
use Rattle.event_loop.specs.declared.seat.Role.TheVariants.{Feed as FeedRole}
use Rattle.ports.specs.declared.answers.Happening.TheVariants.{JoinedFeed}
use Rattle.event_loop.specs.Decided.FeedDecided.{full, is_open, let_in, no_memory}
use Rattle.event_loop.specs.Hearing.{joining, feeds_in}
use Rattle.event_loop.specs.Tables.{IsTable, IsSeatOf, IsGapFor, HearsOnce}
use Rattle.event_loop.specs.declared.hearing.Heard.TheVariants.{Happened}
use Rattle.event_loop.proofs.TableLemmas.{feed-more, is-seated, is-unseated, inserted, table-feed}
use Rattle.event_loop.proofs.HearLemmas.{hears-old, hears-away-feed, hears-feed}
use Rattle.event_loop.specs.Sleeping.{AreKnown, AreSeated}
use Rattle.event_loop.proofs.AwakeLemmas.{known-more, seated-more}
use Rattle.event_loop.proofs.hearing.join_feed.Goals as goal

pub returns-in_default-clause-goes : goal.returns-in_default-clause-goes
returns-in_default-clause-goes g c = λ t calls config w tells stands.
    let ss = c.args.seats.now.all.items in
    let found : IsSeatOf ss c.args.port c.in_default.field-0 = search rules in
    hears-old config c.args.seats.now.max_clients w calls (g.P.Ports.calls c.args.ports.now) c.args.server.now t ss ss
    (JoinedFeed c.args.port)
    refl (is-seated ss c.args.port c.in_default.field-0 found) refl tells stands

pub returns-then-seats-ge-FEEDS-clause-goes : goal.returns-then-seats-ge-FEEDS-clause-goes
returns-then-seats-ge-FEEDS-clause-goes g c = λ t calls config w tells stands.
    let ss = c.args.seats.now.all.items in
    let gap : IsGapFor ss c.args.port c.in-Err.at = search rules in
    hears-away-feed config c.args.seats.now.max_clients w calls (g.P.Ports.calls c.args.ports.now) c.args.server.now t
    ss
    (g.P.Ports.calls c.turn_away.new.ports)
    c.args.port (is-unseated ss c.args.port c.in-Err.at gap) tells c.turn_away.ensures.call stands

pub returns-then-not-has_room-clause-goes : goal.returns-then-not-has_room-clause-goes
returns-then-not-has_room-clause-goes g c = λ t calls config w tells stands.
    let ss = c.args.seats.now.all.items in
    let gap : IsGapFor ss c.args.port c.in-Err.at = search rules in
    subst (λ xs. HearsOnce config c.args.seats.now.max_clients w calls
    (g.P.Ports.calls c.turn_away-then-not-has_room.new.ports) c.args.server.now t ss xs Happened)
    (sym c.has_room.ensures.all)
    (hears-away-feed config c.args.seats.now.max_clients w calls (g.P.Ports.calls c.args.ports.now) c.args.server.now t
    ss
    (g.P.Ports.calls c.turn_away-then-not-has_room.new.ports)
    c.args.port (is-unseated ss c.args.port c.in-Err.at gap) tells
    c.turn_away-then-not-has_room.ensures.call stands)

pub returns-in-Ok-clause-goes : goal.returns-in-Ok-clause-goes
returns-in-Ok-clause-goes g c = λ t calls config w tells stands.
    let ss = c.args.seats.now.all.items in
    let new : Seat = joining c.args.port (FeedRole []) in
    let gap : IsGapFor ss c.args.port c.in-Err.at = search rules in
    let room : vec_len c.has_room.new.self.all < vec_capacity c.has_room.new.self.all = search rules in
    let ok : IsOk c.insert-kept.result = c.insert-kept.ensures.succeeds room in
    let kept : c.insert-kept.new.self.items ≡ insert ss c.in-Err.at new = grind (arith, common_steps) in
    let few : feeds_in ss < 16 = grind (arith, common_steps) in
    subst (λ x. HearsOnce config c.args.seats.now.max_clients w calls x c.args.server.now t ss
    c.insert-kept.new.self.items
    Happened) (sym c.tell.ensures.calls)
    (hears-feed config c.args.seats.now.max_clients w calls
    (g.P.Ports.calls c.args.ports.now) c.args.server.now t ss c.insert-kept.new.self.items
    c.args.port (is-unseated ss c.args.port c.in-Err.at gap) few (kept ∙ inserted ss new c.in-Err.at gap) tells stands)

pub returns-in-Err-new-clause-goes : goal.returns-in-Err-new-clause-goes
returns-in-Err-new-clause-goes g c = λ t calls config w tells stands.
    let ss = c.args.seats.now.all.items in
    let gap : IsGapFor ss c.args.port c.in-Err.at = search rules in
    subst (λ xs. HearsOnce config c.args.seats.now.max_clients w calls
    (g.P.Ports.calls c.turn_away-in-Err-new.new.ports) c.args.server.now t ss xs
    Happened) (sym c.has_room.ensures.all)
    (hears-away-feed config c.args.seats.now.max_clients w calls (g.P.Ports.calls c.args.ports.now) c.args.server.now t
    ss
    (g.P.Ports.calls c.turn_away-in-Err-new.new.ports) c.args.port (is-unseated ss c.args.port c.in-Err.at gap) tells
    c.turn_away-in-Err-new.ensures.call stands)

pub returns-in_default-clause-decides : goal.returns-in_default-clause-decides
returns-in_default-clause-decides g c =
    let ss = c.args.seats.now.all.items in
    let found : IsSeatOf ss c.args.port c.in_default.field-0 = search rules in
    is_open (is-seated ss c.args.port c.in_default.field-0 found) refl

pub returns-then-seats-ge-FEEDS-clause-decides : goal.returns-then-seats-ge-FEEDS-clause-decides
returns-then-seats-ge-FEEDS-clause-decides g c =
    let ss = c.args.seats.now.all.items in
    let many : 16 ≤ feeds_in ss = grind (arith, common_steps) in
    full many c.turn_away.ensures.decides

pub returns-then-not-has_room-clause-decides : goal.returns-then-not-has_room-clause-decides
returns-then-not-has_room-clause-decides g c =
    let ss = c.args.seats.now.all.items in
    let few : feeds_in ss < 16 = grind (arith, common_steps) in
    no_memory few c.has_room.ensures.all c.turn_away-then-not-has_room.ensures.decides

pub returns-in-Ok-clause-decides : goal.returns-in-Ok-clause-decides
returns-in-Ok-clause-decides g c =
    let room : vec_len c.has_room.new.self.all < vec_capacity c.has_room.new.self.all = search rules in
    let ok : IsOk c.insert-kept.result = c.insert-kept.ensures.succeeds room in
    let longer : length c.args.seats.now.all.items < length c.insert-kept.new.self.items =
    grind (arith, common_steps)
    in
    let_in longer c.tell.ensures.decides

pub returns-in-Err-new-clause-decides : goal.returns-in-Err-new-clause-decides
returns-in-Err-new-clause-decides g c =
    let ss = c.args.seats.now.all.items in
    let few : feeds_in ss < 16 = grind (arith, common_steps) in
    no_memory few c.has_room.ensures.all c.turn_away-in-Err-new.ensures.decides

pub returns-in-Ok-clause-kept : goal.returns-in-Ok-clause-kept
returns-in-Ok-clause-kept g c =
    let ss = c.args.seats.now.all.items in
    let new : Seat = joining c.args.port (FeedRole []) in
    let gap : IsGapFor ss c.args.port c.in-Err.at = search rules in
    let room : vec_len c.has_room.new.self.all < vec_capacity c.has_room.new.self.all = search rules in
    let ok : IsOk c.insert-kept.result = c.insert-kept.ensures.succeeds room in
    let kept : c.insert-kept.new.self.items ≡ insert ss c.in-Err.at new = grind (arith, common_steps) in
    let few : feeds_in ss < 16 = grind (arith, common_steps) in
    let byte : vec_len c.has_room.new.self.awake < vec_capacity c.has_room.new.self.awake = search rules in
    let put : IsOk c.insert-woken.result = c.insert-woken.ensures.succeeds byte in
    let woken : c.insert-woken.new.self.items ≡ insert c.args.seats.now.awake.items c.in-Err.at 1 =
    grind (arith, common_steps)
    in
    record {
      table =
          subst (λ m. IsTable m c.insert-kept.new.self.items) (sym c.has_room.ensures.limit)
          (subst (IsTable c.args.seats.now.max_clients) (sym kept)
          (table-feed c.args.seats.now.max_clients ss new c.in-Err.at refl gap few c.requires.table));
      known =
          subst (λ xs. AreKnown c.args.server.now xs c.insert-woken.new.self.items) (sym kept)
          (subst (AreKnown c.args.server.now (insert ss c.in-Err.at new)) (sym woken)
          (known-more c.args.server.now c.args.server.now ss c.args.seats.now.awake.items c.in-Err.at new gap.inside
          c.requires.seated c.requires.known (λ k lt. refl)));
      seated =
          subst (AreSeated c.args.server.now) (sym kept)
          (seated-more c.args.server.now c.args.server.now ss c.args.seats.now.awake.items c.in-Err.at new gap.inside
          c.requires.seated (omega arith) (λ k is. absurd cc));
      feeds =
          ap (λ n. n + 1) (c.has_room.ensures.feeds ∙ c.requires.feeds) ∙ sym (ap feeds_in kept ∙ feed-more ss new
          c.in-Err.at refl);
    }
