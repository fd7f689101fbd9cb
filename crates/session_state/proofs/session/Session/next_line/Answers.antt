use Rattle.std.proofs.Common.{sym, ◌∙◌, ap}
use Rattle.protocol.specs.Client.{is_nothing}
use Rattle.session_state.specs.Sessions.{SessionValue, client_in, line_made}
use Rattle.session_state.proofs.TookLemmas.{fill-listing, same-listing}
use Rattle.session_state.proofs.session.Session.next_line.Goals as goal

pub returns-in-Listing-clause-client : goal.returns-in-Listing-clause-client
returns-in-Listing-clause-client c = λ e h.
    ap (client_in c.args.config.now h) c.make_line.ensures
    ∙ fill-listing c.args.config.now h c.args.self.now c.in-Listing.made
    (ap (λ (s : SessionValue). s.state) (sym c.self.view_is) ∙ c.in-Listing.is)
    (ap is_nothing c.requires.nothing_waits)

pub returns-in-Listing-clause-line : goal.returns-in-Listing-clause-line
returns-in-Listing-clause-line c = λ made e.
    c.make_line.ensures
    ∙ ap (λ m. line_made c.args.config.now m c.args.self.now)
    (same-listing c.in-Listing.made made
    (sym (ap (λ (s : SessionValue). s.state) (sym c.self.view_is) ∙ c.in-Listing.is) ∙ e))
