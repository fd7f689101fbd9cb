use Rattle.std.proofs.Common.{◌≡◌, ◌∙◌, Bool, true, false, not, sym, ap, subst, Some}
use Rattle.std.specs.Net.Addr.{ipv4_bits}
use Rattle.protocol.specs.Catalog.{is_same_view, view_of}
use Rattle.slab.specs.Slab.{get, with_value}
use Rattle.session_state.specs.declared.session.Settled.TheVariants.{Rest}
use Rattle.session_state.specs.Sessions.{session_view}
use Rattle.server_core.specs.Marks.{KeepsRequests}
use Rattle.server_core.specs.ServerValues.{IsSettled}
use Rattle.server_core.proofs.MarkLemmas.{marked-heard, marked-same}
use Rattle.server_core.proofs.ReloadLemmas.{cut-requests, cut-settled, uncut-same}
use Rattle.server_core.proofs.SlotLemmas.{settled-goes, written-same, wrote}
use Rattle.server_core.proofs.reviewing.review_in.Goals as goal

turned : (x y b : Bool) → b ≡ y → b ≡ not x → x ≡ not y
turned true y b e f = ap not (sym f ∙ e)
turned false y b e f = ap not (sym f ∙ e)

pub heard-requires : goal.heard-requires
heard-requires c = let is = c.requires.marked.held c.args.slot c.in-Some.session.now
    (sym c.in-Some.ensures.value) in is.room

pub returns-then-review-clause-settled : goal.returns-then-review-clause-settled
returns-then-review-clause-settled c =
    let there : get c.args.slots.now c.args.slot ≡ Some c.in-Some.session.now = sym c.in-Some.ensures.value in
    settled-goes c.args.config.now c.args.rings.now c.args.slots.now
    (with_value c.args.slots.now c.args.slot c.review.new.session) c.args.slot c.review.new.session
    c.requires.settled
    (subst (IsSettled c.args.config.now c.args.rings.now) (sym c.review.ensures.session)
    (cut-settled c.args.config.now c.args.rings.now (ipv4_bits c.args.address) c.in-Some.session.now
    (c.requires.settled c.args.slot c.in-Some.session.now there)))
    (wrote c.args.slots.now c.args.slot c.in-Some.session.now c.review.new.session there)

pub returns-else-review-clause-settled : goal.returns-else-review-clause-settled
returns-else-review-clause-settled c =
    let there : get c.args.slots.now c.args.slot ≡ Some c.in-Some.session.now = sym c.in-Some.ensures.value in
    settled-goes c.args.config.now c.args.rings.now c.args.slots.now
    (with_value c.args.slots.now c.args.slot c.review.new.session) c.args.slot c.review.new.session
    c.requires.settled
    (subst (IsSettled c.args.config.now c.args.rings.now) (sym c.review.ensures.session)
    (cut-settled c.args.config.now c.args.rings.now (ipv4_bits c.args.address) c.in-Some.session.now
    (c.requires.settled c.args.slot c.in-Some.session.now there)))
    (wrote c.args.slots.now c.args.slot c.in-Some.session.now c.review.new.session there)

pub returns-then-review-clause-marked : goal.returns-then-review-clause-marked
returns-then-review-clause-marked c =
    let there : get c.args.slots.now c.args.slot ≡ Some c.in-Some.session.now = sym c.in-Some.ensures.value in
    let a = ipv4_bits c.args.address in
    let differs : is_same_view (view_of c.args.config.now a) (session_view c.args.config.now c.in-Some.session.now)
    ≡ false = turned _ true c.review.result c.if-review.true c.review.ensures.cut in
    marked-heard c.args.config.now c.args.rings.now c.args.marks.now c.heard.new.self c.args.slots.now
    (with_value c.args.slots.now c.args.slot c.review.new.session) c.args.slot c.in-Some.session.now
    c.review.new.session
    c.requires.marked there (wrote c.args.slots.now c.args.slot c.in-Some.session.now c.review.new.session there)
    c.heard.ensures.kept Rest c.heard.ensures.marked c.heard.ensures.sends c.heard.ensures.rest
    (λ e. subst (KeepsRequests c.in-Some.session.now) (sym c.review.ensures.session)
    (cut-requests c.args.config.now a c.in-Some.session.now differs)) c.heard.ensures.started

pub returns-else-review-clause-marked : goal.returns-else-review-clause-marked
returns-else-review-clause-marked c =
    let there : get c.args.slots.now c.args.slot ≡ Some c.in-Some.session.now = sym c.in-Some.ensures.value in
    let a = ipv4_bits c.args.address in
    let same : is_same_view (view_of c.args.config.now a) (session_view c.args.config.now c.in-Some.session.now)
    ≡ true = turned _ false c.review.result c.if-review.false c.review.ensures.cut in
    let new = with_value c.args.slots.now c.args.slot c.review.new.session in
    marked-same c.args.config.now c.args.rings.now c.args.marks.now c.args.slots.now new
    (written-same c.args.slots.now new c.args.slot c.in-Some.session.now c.review.new.session there
    (wrote c.args.slots.now c.args.slot c.in-Some.session.now c.review.new.session there)
    (c.review.ensures.session ∙ uncut-same c.args.config.now a c.in-Some.session.now same))
    c.requires.marked
