use Rattle.std.proofs.Common.{rules, true, false, List, ◌≡◌, ◌∙◌, ℕ, length, get_or, set, take, drop, subst, sym, ap}
use Rattle.std.proofs.Common.{arith}
use Rattle.std.specs.Prelude.{slice_index, ◌≢◌}
use Rattle.std.specs.List.{remove}
use Rattle.std.proofs.lemmas.List.{get_or_default}
use Rattle.event_loop.specs.declared.seat.Role.TheVariants.{Client as ClientRole}
use Rattle.event_loop.specs.declared.seat.Seat.{Seat}
use Rattle.event_loop.specs.Feeding.{feed_tally}
use Rattle.event_loop.specs.Going.{Whole, if_open}
use Rattle.event_loop.specs.Sleeping.{AreKnown, AreSeated, AreWoken, IsAsleep, LeavesRest, NoneArrived, role_at}
use Rattle.event_loop.specs.Sleeping.{seat_at}
use Rattle.event_loop.specs.Turns.{SeatPass}
use Rattle.event_loop.specs.Tables.{no_seat, IsTable, IsSameSeat, PassesSoFar}
use Rattle.event_loop.proofs.TableLemmas.{feeds-set, table-set, table-remove}
use Rattle.event_loop.proofs.LeaveLemmas.{rest_told}
use Rattle.event_loop.proofs.PassesLemmas.{passes-stay, passes-go}
use Rattle.event_loop.proofs.AwakeLemmas.{known-gone, known-stays, seated-remove, seated-set, inside-set}
use Rattle.event_loop.proofs.turning.pass_at.Goals as goal

pub wake_after-requires-clause-seated : goal.wake_after-requires-clause-seated
wake_after-requires-clause-seated g c =
    let a = c.args.server.now in
    let b = c.pass-stays.new.server in
    let ss = c.args.seats.now.all.items in
    let s' = c.pass-stays.new.seat in
    let here : c.index_mut.result.now ≡ get_or ss c.args.at no_seat = c.index_mut.ensures.value
    ∙ get_or_default ss c.args.at c.index_mut.result.now no_seat c.requires.inside in
    let leaves = rest_told (get_or ss c.args.at no_seat) (NoneArrived a b) (c.has_more-brought.result ≡ false) a b
    (λ e. c.has_more-brought.ensures.none e ∙ c.arrivals-before.ensures.value)
    (subst (λ s. LeavesRest s (NoneArrived a b) a b) here c.pass-stays.ensures.leaves) in
    let whose : (k : ℕ) → s'.role ≡ ClientRole k → role_at ss c.args.at ≡ ClientRole k = λ k is.
    ap (λ (s : Seat). s.role) (sym here) ∙ c.pass-stays.ensures.whose k is in
    subst (AreSeated b) (sym c.as_slice.ensures.value)
    (seated-set a b ss c.args.at s' c.has_more-brought.result c.requires.inside c.requires.kept.seated leaves whose)

pub returns-then-stays-clause-goes : goal.returns-then-stays-clause-goes
returns-then-stays-clause-goes g c = λ happenings config w calls t opened so_far.
    let all = g.P.Ports.calls in
    let ss = c.args.seats.now.all.items in
    let here : c.index_mut.result.now ≡ get_or ss c.args.at no_seat = c.index_mut.ensures.value
    ∙ get_or_default ss c.args.at c.index_mut.result.now no_seat c.requires.inside in
    passes-stay c.args.limit config w calls (all c.args.ports.now) (all c.pass-stays.new.ports) c.args.server.now
    c.pass-stays.new.server t (feed_tally happenings c.args.refused.now)
    (feed_tally happenings c.pass-stays.new.refused)
    opened ss c.args.at c.index_mut.result.now c.pass-stays.new.seat c.requires.inside here so_far
    (λ v there. subst (λ b. Whole (SeatPass config) c.args.limit config v (all c.args.ports.now)
    (all c.pass-stays.new.ports) c.pass-stays.new.server (feed_tally happenings c.args.refused.now)
    (feed_tally happenings c.pass-stays.new.refused) c.index_mut.result.now (if_open b c.pass-stays.new.seat))
    c.if-stays.true (c.pass-stays.ensures.goes happenings config v there))

pub returns-else-stays-clause-goes : goal.returns-else-stays-clause-goes
returns-else-stays-clause-goes g c = λ happenings config w calls t opened so_far.
    let all = g.P.Ports.calls in
    let ss = c.args.seats.now.all.items in
    let here : c.index_mut.result.now ≡ get_or ss c.args.at no_seat = c.index_mut.ensures.value
    ∙ get_or_default ss c.args.at c.index_mut.result.now no_seat c.requires.inside in
    subst (λ l. PassesSoFar c.args.limit config w calls (all c.pass-stays.new.ports) c.pass-stays.new.server t
    (feed_tally happenings c.pass-stays.new.refused) opened (take c.args.at l) (drop c.args.at l))
    (sym c.go.ensures.seats)
    (passes-go c.args.limit config w calls (all c.args.ports.now) (all c.pass-stays.new.ports) c.args.server.now
    c.pass-stays.new.server t (feed_tally happenings c.args.refused.now)
    (feed_tally happenings c.pass-stays.new.refused)
    opened ss c.args.at c.index_mut.result.now c.pass-stays.new.seat c.requires.inside here so_far
    (λ v there. subst (λ b. Whole (SeatPass config) c.args.limit config v (all c.args.ports.now)
    (all c.pass-stays.new.ports) c.pass-stays.new.server (feed_tally happenings c.args.refused.now)
    (feed_tally happenings c.pass-stays.new.refused) c.index_mut.result.now (if_open b c.pass-stays.new.seat))
    c.if-stays.false (c.pass-stays.ensures.goes happenings config v there)))

pub go-requires-clause-feeds : goal.go-requires-clause-feeds
go-requires-clause-feeds g c =
    let ss = c.args.seats.now.all.items in
    let here : c.index_mut.result.now ≡ get_or ss c.args.at no_seat = c.index_mut.ensures.value
    ∙ get_or_default ss c.args.at c.index_mut.result.now no_seat c.requires.inside in
    c.requires.kept.feeds ∙ sym (feeds-set ss c.args.at c.pass-stays.new.seat
    (subst (λ s. IsSameSeat s c.pass-stays.new.seat) here c.pass-stays.ensures.same))

pub returns-then-stays-clause-kept : goal.returns-then-stays-clause-kept
returns-then-stays-clause-kept g c = record {
  table =
      let ss = c.args.seats.now.all.items in
      let here : c.index_mut.result.now ≡ get_or ss c.args.at no_seat = c.index_mut.ensures.value
      ∙ get_or_default ss c.args.at c.index_mut.result.now no_seat c.requires.inside in
      table-set c.args.seats.now.max_clients ss c.args.at c.pass-stays.new.seat
      (subst (λ s. IsSameSeat s c.pass-stays.new.seat) here c.pass-stays.ensures.same) c.requires.kept.table;
  known =
      let a = c.args.server.now in
      let b = c.pass-stays.new.server in
      let ss = c.args.seats.now.all.items in
      let s' = c.pass-stays.new.seat in
      let here : c.index_mut.result.now ≡ get_or ss c.args.at no_seat = c.index_mut.ensures.value
      ∙ get_or_default ss c.args.at c.index_mut.result.now no_seat c.requires.inside in
      let leaves = rest_told (get_or ss c.args.at no_seat) (NoneArrived a b) (c.has_more-brought.result ≡ false) a b
      (λ e. c.has_more-brought.ensures.none e ∙ c.arrivals-before.ensures.value)
      (subst (λ s. LeavesRest s (NoneArrived a b) a b) here c.pass-stays.ensures.leaves) in
      let whose : (k : ℕ) → s'.role ≡ ClientRole k → role_at ss c.args.at ≡ ClientRole k = λ k is.
      ap (λ (s : Seat). s.role) (sym here) ∙ c.pass-stays.ensures.whose k is in
      known-stays a b ss c.args.seats.now.awake.items c.wake_after.new.awake.items c.args.at s'
      c.has_more-brought.result
      c.requires.inside c.requires.kept.known c.requires.kept.seated leaves whose c.wake_after.ensures.wakes
      (subst (λ (xs : List Seat). c.has_more-brought.result ≡ true → AreWoken b xs c.wake_after.new.awake.items)
      c.as_slice.ensures.value c.wake_after.ensures.woken) c.settle.new.awake.items c.settle.ensures.count
      (subst (λ xs. slice_index c.settle.new.awake.items c.args.at ≢ 1 → IsAsleep b (seat_at xs c.args.at))
      c.as_slice-then-stays.ensures.value c.settle.ensures.here) c.settle.ensures.others;
  seated =
      let a = c.args.server.now in
      let b = c.pass-stays.new.server in
      let ss = c.args.seats.now.all.items in
      let s' = c.pass-stays.new.seat in
      let here : c.index_mut.result.now ≡ get_or ss c.args.at no_seat = c.index_mut.ensures.value
      ∙ get_or_default ss c.args.at c.index_mut.result.now no_seat c.requires.inside in
      let leaves = rest_told (get_or ss c.args.at no_seat) (NoneArrived a b) (c.has_more-brought.result ≡ false) a b
      (λ e. c.has_more-brought.ensures.none e ∙ c.arrivals-before.ensures.value)
      (subst (λ s. LeavesRest s (NoneArrived a b) a b) here c.pass-stays.ensures.leaves) in
      let whose : (k : ℕ) → s'.role ≡ ClientRole k → role_at ss c.args.at ≡ ClientRole k = λ k is.
      ap (λ (s : Seat). s.role) (sym here) ∙ c.pass-stays.ensures.whose k is in
      seated-set a b ss c.args.at s' c.has_more-brought.result c.requires.inside c.requires.kept.seated leaves whose;
  feeds =
      let ss = c.args.seats.now.all.items in
      let here : c.index_mut.result.now ≡ get_or ss c.args.at no_seat = c.index_mut.ensures.value
      ∙ get_or_default ss c.args.at c.index_mut.result.now no_seat c.requires.inside in
      c.requires.kept.feeds ∙ sym (feeds-set ss c.args.at c.pass-stays.new.seat
      (subst (λ s. IsSameSeat s c.pass-stays.new.seat) here c.pass-stays.ensures.same));
}

pub returns-else-stays-clause-kept : goal.returns-else-stays-clause-kept
returns-else-stays-clause-kept g c = record {
  table =
      let ss = c.args.seats.now.all.items in
      let here : c.index_mut.result.now ≡ get_or ss c.args.at no_seat = c.index_mut.ensures.value
      ∙ get_or_default ss c.args.at c.index_mut.result.now no_seat c.requires.inside in
      subst (IsTable c.args.seats.now.max_clients) (sym c.go.ensures.seats)
      (table-remove c.args.seats.now.max_clients (set ss c.args.at c.pass-stays.new.seat) c.args.at
      (table-set c.args.seats.now.max_clients ss c.args.at c.pass-stays.new.seat
      (subst (λ s. IsSameSeat s c.pass-stays.new.seat) here c.pass-stays.ensures.same) c.requires.kept.table));
  known =
      let a = c.args.server.now in
      let b = c.pass-stays.new.server in
      let ss = c.args.seats.now.all.items in
      let s' = c.pass-stays.new.seat in
      let here : c.index_mut.result.now ≡ get_or ss c.args.at no_seat = c.index_mut.ensures.value
      ∙ get_or_default ss c.args.at c.index_mut.result.now no_seat c.requires.inside in
      let leaves = rest_told (get_or ss c.args.at no_seat) (NoneArrived a b) (c.has_more-brought.result ≡ false) a b
      (λ e. c.has_more-brought.ensures.none e ∙ c.arrivals-before.ensures.value)
      (subst (λ s. LeavesRest s (NoneArrived a b) a b) here c.pass-stays.ensures.leaves) in
      let whose : (k : ℕ) → s'.role ≡ ClientRole k → role_at ss c.args.at ≡ ClientRole k = λ k is.
      ap (λ (s : Seat). s.role) (sym here) ∙ c.pass-stays.ensures.whose k is in
      subst (λ xs. AreKnown b xs c.go.new.awake.items) (sym c.go.ensures.seats)
      (subst (AreKnown b (remove (set ss c.args.at s') c.args.at)) (sym c.go.ensures.awake)
      (known-gone a b ss c.args.seats.now.awake.items c.wake_after.new.awake.items c.args.at s'
      c.has_more-brought.result
      c.requires.inside c.requires.kept.known c.requires.kept.seated leaves whose c.wake_after.ensures.wakes
      (subst (λ (xs : List Seat). c.has_more-brought.result ≡ true → AreWoken b xs c.wake_after.new.awake.items)
      c.as_slice.ensures.value c.wake_after.ensures.woken)));
  seated =
      let a = c.args.server.now in
      let b = c.pass-stays.new.server in
      let ss = c.args.seats.now.all.items in
      let s' = c.pass-stays.new.seat in
      let here : c.index_mut.result.now ≡ get_or ss c.args.at no_seat = c.index_mut.ensures.value
      ∙ get_or_default ss c.args.at c.index_mut.result.now no_seat c.requires.inside in
      let leaves = rest_told (get_or ss c.args.at no_seat) (NoneArrived a b) (c.has_more-brought.result ≡ false) a b
      (λ e. c.has_more-brought.ensures.none e ∙ c.arrivals-before.ensures.value)
      (subst (λ s. LeavesRest s (NoneArrived a b) a b) here c.pass-stays.ensures.leaves) in
      let whose : (k : ℕ) → s'.role ≡ ClientRole k → role_at ss c.args.at ≡ ClientRole k = λ k is.
      ap (λ (s : Seat). s.role) (sym here) ∙ c.pass-stays.ensures.whose k is in
      subst (AreSeated b) (sym c.go.ensures.seats)
      (seated-remove b (set ss c.args.at s') c.args.at (inside-set ss c.args.at s' c.requires.inside)
      (seated-set a b ss c.args.at s' c.has_more-brought.result c.requires.inside c.requires.kept.seated leaves whose));
  feeds = c.go.ensures.feeds;
}
