use Rattle.std.proofs.Common.{rules, ◌≡◌, ◌∙◌, Some, [], ◌∷◌, ◌++◌, ap, sym, refl, subst, length, List, ℕ, Bool}
use Rattle.std.proofs.Common.{Option}
use Rattle.std.specs.Net.Addr.{ipv4_bits}
use Rattle.catalog.specs.Orders.{Fits}
use Rattle.catalog.specs.Places.{view_in, Seen}
use Rattle.protocol.specs.Client.{Client}
use Rattle.session_state.specs.declared.session.State.TheVariants.{Negotiating, Transfer}
use Rattle.session_state.specs.Sessions.{SessionValue}
use Rattle.transfer.proofs.PassedLemmas.{none-passed}
use Rattle.server_core.specs.Clients.{addresses_of, sessions_of}
use Rattle.server_core.specs.Marks.{HasRooms, marks_of}
use Rattle.server_core.specs.ServerValues.{IsSettled, ServerValue}
use Rattle.server_core.proofs.SessionLemmas.{found, serving, with-marks}
use Rattle.server_core.proofs.MarkLemmas.{marked-opens, marked-roomier, marked-same}
use Rattle.server_core.proofs.SlotLemmas.{addresses-counted, same-addresses, sessions-counted}
use Rattle.server_core.proofs.SpareLemmas.{marks-same}
use Rattle.server_core.proofs.StandsLemmas.{open-stands}
use Rattle.server_core.proofs.CurrentLemmas.{current-new, current-opens, current-same}
use Rattle.server_core.proofs.SpareLemmas.{opens-next, serving-with}
use Rattle.server_core.specs.Marks.{OpensNext}
use Rattle.server_core.proofs.server.Server.open.Goals as goal

pub invariant_of-self : goal.invariant_of-self
invariant_of-self c = (
  c.self.invariant.0,
  c.self.invariant.1,
  c.self.invariant.2,
  marked-roomier c.self.inside.config c.self.inside.rings c.self.inside.marks c.reserve.new.self
      c.self.inside.clients.slots c.reserve.ensures.kept c.self.invariant.3,
  c.reserve.ensures.kept.rows.count ∙ c.self.invariant.4,
  c.self.invariant.5,
  c.self.invariant.6,
)

pub returns-in_err-reserve-clause-err : goal.returns-in_err-reserve-clause-err
returns-in_err-reserve-clause-err c =
    let is = ap
    (λ (ms : List Bool). record (serving c.self.inside.config c.self.inside.rings c.self.inside.clients) {
      marks =
          ms;
    })
    (marks-same c.self.inside.clients c.self.inside.clients c.self.inside.marks c.reserve.new.self refl refl
    (λ slot. c.reserve.ensures.kept.marked slot tt)) ∙ c.self.view_is in
    search rules

pub invariant_of-self-in_err-client : goal.invariant_of-self-in_err-client
invariant_of-self-in_err-client c =
    let settled : IsSettled c.self.inside.config c.self.inside.rings
    c.in_ok-session.session =
    record {
      places = subst (λ (p : Seen). Fits c.self.inside.config p)
          (sym c.in_ok-session.ensures.places) c.in_ok-view.ensures.fits;
      started = c.in_ok-session.ensures.settled;
      passed = none-passed c.self.inside.rings c.in_ok-session.session
          (λ next e. absurd (let t : Negotiating ≡ Transfer next = sym c.in_ok-session.ensures.negotiates ∙ e in cc));
    }
    in (
      c.open.ensures.table,
      c.open.ensures.settled c.self.inside.config c.self.inside.rings c.self.invariant.1 settled,
      c.self.invariant.2,
      marked-same c.self.inside.config c.self.inside.rings c.reserve.new.self c.self.inside.clients.slots
          c.open.new.self.slots c.in_err-client.ensures.refused
          (marked-roomier c.self.inside.config c.self.inside.rings c.self.inside.marks c.reserve.new.self
          c.self.inside.clients.slots c.reserve.ensures.kept c.self.invariant.3),
      c.reserve.ensures.kept.rows.count ∙ c.self.invariant.4,
      c.self.invariant.5,
      current-same c.self.inside.config (sessions_of c.self.inside.clients) (sessions_of c.open.new.self)
          (addresses_of c.self.inside.clients) (addresses_of c.open.new.self) c.in_err-client.ensures.err
          (same-addresses c.self.inside.clients c.open.new.self c.in_err-client.ensures.numbers.0
          c.in_err-client.ensures.numbers.1) c.self.invariant.6,
    )

pub returns-in_err-client-clause-err : goal.returns-in_err-client-clause-err
returns-in_err-client-clause-err c =
    let with : List (Option SessionValue) → List (Option ℕ) → List Bool
    → ServerValue = λ xs from_ ms. record {
      config = c.self.inside.config;
      rings = c.self.inside.rings;
      sessions = xs;
      addresses = from_;
      marks = ms;
    } in
    let addresses = same-addresses c.self.inside.clients c.open.new.self c.in_err-client.ensures.numbers.0
    c.in_err-client.ensures.numbers.1 in
    let marks = marks-same c.self.inside.clients c.open.new.self c.self.inside.marks c.reserve.new.self
    c.in_err-client.ensures.numbers.0 c.in_err-client.ensures.numbers.1
    (λ slot. c.reserve.ensures.kept.marked slot tt) in
    let is : with (sessions_of c.open.new.self) (addresses_of c.open.new.self)
    (marks_of c.open.new.self c.reserve.new.self) ≡ c.args.self.now =
    (λ i. with (c.in_err-client.ensures.err i) (addresses i) (marks i)) ∙ c.self.view_is in
    search rules

pub invariant_of-self-2 : goal.invariant_of-self-2
invariant_of-self-2 c =
    let settled : IsSettled c.self.inside.config c.self.inside.rings
    c.in_ok-session.session =
    record {
      places = subst (λ (p : Seen). Fits c.self.inside.config p)
          (sym c.in_ok-session.ensures.places) c.in_ok-view.ensures.fits;
      started = c.in_ok-session.ensures.settled;
      passed = none-passed c.self.inside.rings c.in_ok-session.session
          (λ next e. absurd (let t : Negotiating ≡ Transfer next = sym c.in_ok-session.ensures.negotiates ∙ e in cc));
    }
    in (
      c.open.ensures.table,
      c.open.ensures.settled c.self.inside.config c.self.inside.rings c.self.invariant.1 settled,
      c.self.invariant.2,
      marked-opens c.self.inside.config c.self.inside.rings c.reserve.new.self c.self.inside.clients.slots
          c.open.new.self.slots c.self.inside.clients.slots.vacant_key c.in_ok-session.session
          (marked-roomier c.self.inside.config c.self.inside.rings c.self.inside.marks c.reserve.new.self
          c.self.inside.clients.slots c.reserve.ensures.kept c.self.invariant.3)
          c.in_ok-client.ensures.vacant
          (subst (HasRooms c.reserve.new.self) c.next_slot.ensures c.in_ok-reserve.ensures.room)
          c.in_ok-session.ensures.negotiates
          (ap (λ (x : Client). x.waiting) (c.in_ok-session.ensures.client c.self.inside.config []))
          c.in_ok-client.ensures.slots,
      c.reserve.ensures.kept.rows.count ∙ c.self.invariant.4,
      c.self.invariant.5,
      current-same c.self.inside.config (sessions_of c.self.inside.clients ++ Some c.in_ok-session.session ∷ [])
          (sessions_of c.open.new.self) (addresses_of c.self.inside.clients ++ Some (ipv4_bits c.args.address) ∷ [])
          (addresses_of c.open.new.self)
          c.in_ok-client.ensures.opened c.in_ok-client.ensures.came
          (current-opens c.self.inside.config (sessions_of c.self.inside.clients) (addresses_of c.self.inside.clients)
          c.in_ok-session.session (ipv4_bits c.args.address)
          (sessions-counted c.self.inside.clients ∙ sym (addresses-counted c.self.inside.clients))
          (current-new c.self.inside.config (ipv4_bits c.args.address) c.in_ok-session.session
          (ap (λ p. view_in c.self.inside.config p) c.in_ok-session.ensures.places ∙ c.in_ok-view.ensures.view))
          c.self.invariant.6),
    )

pub returns-clause-ok : goal.returns-clause-ok
returns-clause-ok c = λ config w stands.
    with-marks _ (marks_of c.open.new.self c.reserve.new.self) config _
    (open-stands (serving c.self.inside.config c.self.inside.rings c.self.inside.clients)
    (serving c.self.inside.config c.self.inside.rings c.open.new.self) c.in_ok-session.session
    (ipv4_bits c.args.address) refl refl c.in_ok-client.ensures.opened c.in_ok-client.ensures.came
    (addresses-counted c.self.inside.clients ∙ sym (sessions-counted c.self.inside.clients))
    (ap (λ p. view_in c.self.inside.config p) c.in_ok-session.ensures.places ∙ c.in_ok-view.ensures.view)
    (c.in_ok-session.ensures.client c.self.inside.config) config w
    (found c.self.inside.config c.self.inside.rings c.self.inside.clients c.self.inside.clients
    (marks_of c.self.inside.clients c.self.inside.marks) c.args.self.now config w c.self.view_is refl refl stands))

pub returns-clause-number : goal.returns-clause-number
returns-clause-number c =
    c.in_ok-client.ensures.number ∙ sym (sessions-counted c.self.inside.clients)
    ∙ ap (λ (s : ServerValue). length s.sessions) c.self.view_is

pub returns-clause-others : goal.returns-clause-others
returns-clause-others c =
    subst (λ s. OpensNext s (serving-with c.self.inside.config c.self.inside.rings c.open.new.self
    c.reserve.new.self)) c.self.view_is
    (opens-next c.self.inside.config c.self.inside.rings c.self.inside.clients c.open.new.self c.self.inside.marks
    c.reserve.new.self c.self.invariant.0 c.open.ensures.table c.in_ok-client.ensures.opens
    c.in_ok-client.ensures.others (λ slot. c.reserve.ensures.kept.marked slot tt))
