use Rattle.std.proofs.Common.{rules, subst}
use Rattle.protocol.specs.Catalog.{Config}
use Rattle.protocol.specs.World.{World}
use Rattle.server_core.specs.ServerValues.{StandsAt}
use Rattle.event_loop.specs.Loops.{LoopValue}
use Rattle.event_loop.specs.Turns.{Turns, Fails}
use Rattle.event_loop.proofs.TurnLemmas.{turn-made, turn-failed, turned_by}
use Rattle.event_loop.proofs.turning.Loop.turn.Goals as goal

pub returns-in_default-clause-failed : goal.returns-in_default-clause-failed
returns-in_default-clause-failed g c =
    let calls = g.P.Ports.calls in
    let old = c.self.inside in
    subst (λ (x : LoopValue). (config : Config) (w : World) → StandsAt x.server config w →
    Fails config x.max_clients c.args.limit w x.calls (calls c.hear.new.ports) c.hear.new.server x.seats
    c.hear.new.seats.all.items)
    c.self.view_is
    (λ config w stands.
    let x = c.in_default.ensures.failed config w stands in
    turn-failed config old.seats.max_clients c.args.limit w (calls old.ports) (calls c.hear.new.ports) c.hear.new.server
    old.seats.all.items c.hear.new.seats.all.items x.0 x.1)

pub invariant_of-self-2 : goal.invariant_of-self-2
invariant_of-self-2 g c = c.pass_all.ensures.kept

pub returns-clause-ok : goal.returns-clause-ok
returns-clause-ok g c =
    let calls = g.P.Ports.calls in
    let old = c.self.inside in
    subst (λ (x : LoopValue). (config : Config) (w : World) → StandsAt x.server config w →
    Turns config x.max_clients c.args.limit w x.calls (calls c.pass_all.new.ports) c.pass_all.new.server x.seats
    c.pass_all.new.seats.all.items (turned_by c.in-Ok.heard c.pass_all.new.refused))
    c.self.view_is
    (λ config w stands.
    turn-made config old.seats.max_clients c.args.limit w (calls old.ports) (calls c.hear.new.ports) c.hear.new.server
    old.seats.all.items c.hear.new.seats.all.items (calls c.pass_all.new.ports) c.pass_all.new.server
    c.pass_all.new.seats.all.items c.in-Ok.heard c.pass_all.new.refused
    (c.in-Ok.ensures.ok config w stands) (λ v there. c.pass_all.ensures.goes c.in-Ok.heard.happenings config v there)
    c.hear.ensures.kept.table.few_feeds)

pub returns-clause-few_clients : goal.returns-clause-few_clients
returns-clause-few_clients g c = c.pass_all.ensures.kept.table.few_clients

pub returns-clause-few_feeds : goal.returns-clause-few_feeds
returns-clause-few_feeds g c = c.pass_all.ensures.kept.table.few_feeds

-- The search finds this by itself. It is written down since the prover takes a minute to offer an answer where there is
-- none, which a wrong body would wait for.
pub returns-clause-refused : goal.returns-clause-refused
returns-clause-refused g c = search rules
