use Rattle.std.proofs.Common.{rules, ◌≡◌, ap, slice_get, sym, ◌∙◌}
use Rattle.std.specs.Prelude.{Some}
use Rattle.protocol.specs.Session.{act}
use Rattle.catalog.specs.Places.{view_in}
use Rattle.session_state.specs.Choices.{action_value, negotiated_in}
use Rattle.session_state.proofs.ModeLemmas.{alone-acted}
use Rattle.session_state.proofs.negotiation.Negotiation.act.Goals as goal

pub returns-in-Some : goal.returns-in-Some
returns-in-Some c = λ config.
    let place : slice_get c.args.view.now.places 0 ≡ Some c.in-Some.place.now = search rules in
    let first : slice_get c.args.view.now.places 0 ≡ Some c.from.result =
    place ∙ ap (λ p. Some p) (sym c.from.ensures) in
    alone-acted config c.self.inside.is_multi c.self.inside.named _ c.args.view.now c.from.result c.args.action
    c.if-self.false (c.self.invariant c.if-self.false) first c.ask_alone.ensures
    ∙ ap (λ m. act (view_in config c.args.view.now) (negotiated_in config m) (action_value c.args.action))
    c.self.view_is
