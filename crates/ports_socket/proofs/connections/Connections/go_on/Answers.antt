use Rattle.std.proofs.Common.{◌∙◌, ap, sym}
use Rattle.ports_socket.specs.Connections.{values}
use Rattle.ports_socket.proofs.TableLemmas.{wrote-shut, wrote-shut-table}
use Rattle.ports_socket.proofs.connections.Connections.go_on.Goals as goal

pub invariant_of-self-then-go_on : goal.invariant_of-self-then-go_on
invariant_of-self-then-go_on c =
    wrote-shut-table c.self.inside.slots c.self.inside.opened.items c.args.key c.in-Some.held.now c.go_on.new.self
    c.self.invariant (sym c.in-Some.ensures.value) c.if-held.false c.go_on.ensures

pub returns-then-go_on : goal.returns-then-go_on
returns-then-go_on c =
    ap values
    (wrote-shut c.self.inside.slots c.self.inside.opened.items c.args.key c.in-Some.held.now c.go_on.new.self
    c.self.invariant (sym c.in-Some.ensures.value) c.if-held.false c.go_on.ensures)
    ∙ c.self.view_is

pub invariant_of-self-2 : goal.invariant_of-self-2
invariant_of-self-2 c =
    wrote-shut-table c.self.inside.slots c.self.inside.opened.items c.args.key c.in-Some.held.now c.go_on.new.self
    c.self.invariant (sym c.in-Some.ensures.value) c.if-held.false c.go_on.ensures

pub returns : goal.returns
returns c =
    c.drop_shut.ensures
    ∙ ap values
    (wrote-shut c.self.inside.slots c.self.inside.opened.items c.args.key c.in-Some.held.now c.go_on.new.self
    c.self.invariant (sym c.in-Some.ensures.value) c.if-held.false c.go_on.ensures)
    ∙ c.self.view_is
