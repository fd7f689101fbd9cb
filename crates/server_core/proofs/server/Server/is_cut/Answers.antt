use Rattle.std.proofs.Common.{◌≡◌, ◌∙◌, None, Option, Some, ap, ap₂, option_map, slice_index_or, sym}
use Rattle.std.specs.Prelude.{not}
use Rattle.std.specs.Net.Addr.{ipv4_bits}
use Rattle.protocol.specs.Catalog.{is_same_view, view_of}
use Rattle.catalog.specs.Places.{view_in}
use Rattle.server_core.specs.Clients.{addresses_of, sessions_of}
use Rattle.server_core.specs.Reloads.{has_other_view, is_cut_at}
use Rattle.server_core.specs.ServerValues.{ServerValue}
use Rattle.server_core.proofs.CurrentLemmas.{cut-not}
use Rattle.server_core.proofs.SlotLemmas.{address-is}
use Rattle.session_state.specs.Sessions.{SessionValue}
use Rattle.server_core.proofs.server.Server.is_cut.Goals as goal

pub returns-in_default-state : goal.returns-in_default-state
returns-in_default-state c =
    let k = c.args.client.now in
    let clients = c.self.inside.clients in
    let has : slice_index_or (sessions_of clients) k None ≡ Some c.in-Some.session.now =
    ap (λ (x : ServerValue). slice_index_or x.sessions k None) c.self.view_is ∙ sym c.in-Some.ensures in
    sym (ap (λ x. is_cut_at x k) (sym c.self.view_is)
    ∙ cut-not c.self.inside.config (sessions_of clients) (addresses_of clients) k c.in-Some.session.now
    c.self.invariant.6 has (λ e. c.in_default-state.not-Ending (c.state.ensures ∙ e)))

pub returns-in-Some-address_of : goal.returns-in-Some-address_of
returns-in-Some-address_of c =
    let k = c.args.client.now in
    let clients = c.self.inside.clients in
    let config = c.self.inside.config in
    let a = ipv4_bits c.in-Some-address_of.address in
    let has : slice_index_or (sessions_of clients) k None ≡ Some c.in-Some.session.now =
    ap (λ (x : ServerValue). slice_index_or x.sessions k None) c.self.view_is ∙ sym c.in-Some.ensures in
    let from : slice_index_or (addresses_of clients) k None ≡ Some a =
    address-is clients k c.self.invariant.0 ∙ sym c.address_of.ensures
    ∙ ap (option_map ipv4_bits) c.in-Some-address_of.is in
    ap not (c.has_view.ensures ∙ ap (λ places. is_same_view (view_of config a) (view_in config places)) c.view.ensures)
    ∙ sym (ap (λ x. is_cut_at x k) (sym c.self.view_is) ∙ ap₂ (has_other_view config) from has)

pub returns-in-None : goal.returns-in-None
returns-in-None c =
    let k = c.args.client.now in
    let clients = c.self.inside.clients in
    let from : slice_index_or (addresses_of clients) k None ≡ None =
    address-is clients k c.self.invariant.0 ∙ sym c.address_of.ensures ∙ ap (option_map ipv4_bits) c.in-None.is in
    sym (ap (λ x. is_cut_at x k) (sym c.self.view_is)
    ∙ ap (λ o. has_other_view c.self.inside.config o (slice_index_or (sessions_of clients) k None)) from)
