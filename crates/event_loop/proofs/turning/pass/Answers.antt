use Rattle.std.proofs.Common.{rules, ◌≡◌, ◌∙◌, ap, subst, sym}
use Rattle.event_loop.specs.declared.seat.Role.TheVariants.{Client as ClientRole, Feed as FeedRole}
use Rattle.event_loop.specs.Feeding.{feed_tally}
use Rattle.event_loop.specs.Going.{Whole, if_open}
use Rattle.event_loop.specs.Passes.{ClientReads, ClientWrites}
use Rattle.event_loop.specs.Sleeping.{NoneArrived}
use Rattle.event_loop.specs.Turns.{SeatPass}
use Rattle.event_loop.proofs.SeatPassLemmas.{pass-both, pass-shut, pass-feed}
use Rattle.event_loop.proofs.LeaveLemmas.{leaves_then, rest_client, rest_feed}
use Rattle.event_loop.proofs.turning.pass.Goals as goal

pub returns-then-read_client-clause-goes : goal.returns-then-read_client-clause-goes
returns-then-read_client-clause-goes g c = λ happenings config w stands.
    let calls = g.P.Ports.calls in
    let t = feed_tally happenings c.args.refused.now in
    pass-both config c.args.limit w (calls c.args.ports.now) c.args.seat.now c.in-Client.client
    (calls c.read_client.new.ports)
    (calls c.write_client.new.ports) c.read_client.new.server c.write_client.new.server t c.read_client.new.seat
    (if_open c.write_client.result c.write_client.new.seat) c.in-Client.is
    (subst (λ b. Whole (ClientReads config c.in-Client.client) c.args.limit config w (calls c.args.ports.now)
    (calls c.read_client.new.ports) c.read_client.new.server t t
    (record c.args.seat.now { role = ClientRole c.in-Client.client }) (if_open b c.read_client.new.seat))
    c.if-read_client.true
    (subst (λ k. Whole (ClientReads config k) c.args.limit config w (calls c.args.ports.now)
    (calls c.read_client.new.ports) c.read_client.new.server t t
    (record c.args.seat.now { role = ClientRole c.in-Client.client })
    (if_open c.read_client.result c.read_client.new.seat)) c.same-client.ensures
    (c.read_client.ensures.goes t config w stands)))
    (λ v there. subst (λ k. Whole (ClientWrites config k) c.args.limit config v (calls c.read_client.new.ports)
    (calls c.write_client.new.ports) c.write_client.new.server t t c.read_client.new.seat
    (if_open c.write_client.result c.write_client.new.seat)) c.same-client.ensures
    (c.write_client.ensures.goes t config v there))

pub returns-else-read_client-clause-goes : goal.returns-else-read_client-clause-goes
returns-else-read_client-clause-goes g c = λ happenings config w stands.
    let calls = g.P.Ports.calls in
    let t = feed_tally happenings c.args.refused.now in
    subst (λ b. Whole (SeatPass config) c.args.limit config w (calls c.args.ports.now)
    (calls c.read_client.new.ports) c.read_client.new.server t t c.args.seat.now (if_open b c.read_client.new.seat))
    (sym c.if-read_client.false)
    (pass-shut config c.args.limit w (calls c.args.ports.now) c.args.seat.now c.in-Client.client
    (calls c.read_client.new.ports) c.read_client.new.server t c.in-Client.is
    (subst (λ b. Whole (ClientReads config c.in-Client.client) c.args.limit config w (calls c.args.ports.now)
    (calls c.read_client.new.ports) c.read_client.new.server t t
    (record c.args.seat.now { role = ClientRole c.in-Client.client }) (if_open b c.read_client.new.seat))
    c.if-read_client.false
    (subst (λ k. Whole (ClientReads config k) c.args.limit config w (calls c.args.ports.now)
    (calls c.read_client.new.ports) c.read_client.new.server t t
    (record c.args.seat.now { role = ClientRole c.in-Client.client })
    (if_open c.read_client.result c.read_client.new.seat)) c.same-client.ensures
    (c.read_client.ensures.goes t config w stands))))

pub returns-in-Feed-clause-goes : goal.returns-in-Feed-clause-goes
returns-in-Feed-clause-goes g c = λ happenings config w stands.
    let calls = g.P.Ports.calls in
    let rest = c.deref_mut.result.now in
    let same : c.in-Feed.rest ≡ rest = search rules in
    pass-feed config c.args.limit w (calls c.args.ports.now) c.args.seat.now rest (calls c.read_feed.new.ports)
    c.read_feed.new.server (feed_tally happenings c.args.refused.now) (feed_tally happenings c.read_feed.new.refused) _
    (c.in-Feed.is ∙ ap FeedRole same)
    (c.read_feed.ensures.goes c.args.seat.now.writable happenings config w stands)

pub returns-then-read_client-clause-whose : goal.returns-then-read_client-clause-whose
returns-then-read_client-clause-whose g c = λ k is.
    c.in-Client.is ∙ ap ClientRole (sym c.same-client.ensures) ∙ sym c.write_client.ensures.role ∙ is

pub returns-else-read_client-clause-whose : goal.returns-else-read_client-clause-whose
returns-else-read_client-clause-whose g c = λ k is.
    c.in-Client.is ∙ ap ClientRole (sym c.same-client.ensures) ∙ sym c.read_client.ensures.role ∙ is

pub returns-then-read_client-clause-leaves : goal.returns-then-read_client-clause-leaves
returns-then-read_client-clause-leaves g c =
    rest_client c.args.seat.now c.same-client.result (NoneArrived c.args.server.now c.write_client.new.server)
    c.args.server.now c.write_client.new.server
    (c.in-Client.is ∙ ap ClientRole (sym c.same-client.ensures))
    (leaves_then c.same-client.result c.args.server.now c.read_client.new.server c.write_client.new.server
    c.read_client.ensures.others c.write_client.ensures.others)

pub returns-else-read_client-clause-leaves : goal.returns-else-read_client-clause-leaves
returns-else-read_client-clause-leaves g c =
    rest_client c.args.seat.now c.same-client.result (NoneArrived c.args.server.now c.read_client.new.server)
    c.args.server.now c.read_client.new.server
    (c.in-Client.is ∙ ap ClientRole (sym c.same-client.ensures)) c.read_client.ensures.others

pub returns-in-Feed-clause-leaves : goal.returns-in-Feed-clause-leaves
returns-in-Feed-clause-leaves g c =
    rest_feed c.args.seat.now c.args.server.now c.read_feed.new.server
    c.read_feed.ensures.quiet

pub returns-in-Feed-clause-whose : goal.returns-in-Feed-clause-whose
returns-in-Feed-clause-whose g c = λ k is. absurd cc
