use Rattle.std.proofs.Common.{◌∙◌, ap, sym}
use Rattle.ports_socket.specs.Connections.{values}
use Rattle.ports_socket.proofs.TableLemmas.{wrote-shut, wrote-shut-table}
use Rattle.ports_socket.proofs.connections.Connections.linger.Goals as goal

pub invariant_of-self-then-not-end : goal.invariant_of-self-then-not-end
invariant_of-self-then-not-end c =
    wrote-shut-table c.self.inside.slots c.self.inside.opened.items c.args.key c.in-Some.held.now c.end.new.self
    c.self.invariant (sym c.in-Some.ensures.value) c.if-held.false c.end.ensures

pub returns-then-not-end : goal.returns-then-not-end
returns-then-not-end c =
    c.drop_shut.ensures
    ∙ ap values
    (wrote-shut c.self.inside.slots c.self.inside.opened.items c.args.key c.in-Some.held.now c.end.new.self
    c.self.invariant (sym c.in-Some.ensures.value) c.if-held.false c.end.ensures)
    ∙ c.self.view_is

pub invariant_of-self-in-Some-add : goal.invariant_of-self-in-Some-add
invariant_of-self-in-Some-add c =
    wrote-shut-table c.self.inside.slots c.self.inside.opened.items c.args.key c.in-Some.held.now c.end.new.self
    c.self.invariant (sym c.in-Some.ensures.value) c.if-held.false c.end.ensures

pub invariant_of-self-in_default-add : goal.invariant_of-self-in_default-add
invariant_of-self-in_default-add c =
    wrote-shut-table c.self.inside.slots c.self.inside.opened.items c.args.key c.in-Some.held.now c.end.new.self
    c.self.invariant (sym c.in-Some.ensures.value) c.if-held.false c.end.ensures

pub returns-in-Some-add : goal.returns-in-Some-add
returns-in-Some-add c =
    c.drop_shut-in-Some-add.ensures
    ∙ ap values
    (wrote-shut c.self.inside.slots c.self.inside.opened.items c.args.key c.in-Some.held.now c.end.new.self
    c.self.invariant (sym c.in-Some.ensures.value) c.if-held.false c.end.ensures)
    ∙ c.self.view_is

pub returns-in_default-add : goal.returns-in_default-add
returns-in_default-add c =
    ap values
    (wrote-shut c.self.inside.slots c.self.inside.opened.items c.args.key c.in-Some.held.now c.end.new.self
    c.self.invariant (sym c.in-Some.ensures.value) c.if-held.false c.end.ensures)
    ∙ c.self.view_is
