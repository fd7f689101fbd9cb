use Rattle.std.proofs.Common.{◌∙◌, ap, sym, None, option_map, slice_index_or}
use Rattle.server_core.specs.Clients.{in_slot, sessions_of}
use Rattle.server_core.specs.ServerValues.{ServerValue}
use Rattle.server_core.proofs.SlotLemmas.{session-is}
use Rattle.server_core.proofs.server.Server.session.Goals as goal

pub returns-in_err-slot : goal.returns-in_err-slot
returns-in_err-slot c =
    ap (option_map (λ session. session.now)) c.from_residual.ensures
    ∙ sym (ap (λ (x : ServerValue). slice_index_or x.sessions c.args.client.now None) (sym c.self.view_is)
    ∙ session-is c.self.inside.clients c.args.client.now c.self.invariant.0
    ∙ ap (in_slot c.self.inside.clients.slots) (sym c.in_err-slot.ensures))

pub returns : goal.returns
returns c =
    c.get.ensures
    ∙ sym (ap (λ (x : ServerValue). slice_index_or x.sessions c.args.client.now None) (sym c.self.view_is)
    ∙ session-is c.self.inside.clients c.args.client.now c.self.invariant.0
    ∙ ap (in_slot c.self.inside.clients.slots) (sym c.in_ok-slot.ensures))
