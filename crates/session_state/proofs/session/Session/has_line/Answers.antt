use Rattle.std.proofs.Common.{◌≡◌, ◌∙◌, nat_le, length, sym, ap, subst, arith, slice_get}
use Rattle.std.specs.Prelude.{is_some}
use Rattle.std.proofs.lemmas.Bool.Decides.{nat_tests}
use Rattle.protocol.specs.Catalog.{listing}
use Rattle.session_state.specs.Sessions.{SessionValue, session_view}
use Rattle.session_state.proofs.TookLemmas.{line-further, same-listing}
use Rattle.session_state.proofs.session.Session.has_line.Goals as goal

pub returns-in-Listing-clause-line : goal.returns-in-Listing-clause-line
returns-in-Listing-clause-line c = λ config made e.
    let long : length c.places-all.result.now
    ≡ length c.args.self.now.places.places =
    ap length (c.places-all.ensures.value ∙ ap (λ (s : SessionValue). s.places.places) c.self.view_is) in
    let same : c.in-Listing.made ≡ made = same-listing c.in-Listing.made made
    (sym (ap (λ (s : SessionValue). s.state) (sym c.self.view_is) ∙ c.in-Listing.is) ∙ e) in
    subst (λ m. nat_le c.in-Listing.made (length c.places-all.result.now)
    ≡ is_some (slice_get (listing (session_view config c.args.self.now)) m)) same
    (line-further config c.args.self.now.places c.in-Listing.made
    (nat_le c.in-Listing.made (length c.places-all.result.now)) (λ t. grind (arith, nat_tests, long))
    (λ f. grind (arith, nat_tests, long)))
