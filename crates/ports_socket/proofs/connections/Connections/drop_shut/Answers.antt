use Rattle.std.proofs.Common.{◌∙◌, None, ap, subst}
use Rattle.ports_socket.specs.Connections.{values}
use Rattle.ports_socket.proofs.TableLemmas.{IsShut, shut-same, shut-table}
use Rattle.ports_socket.proofs.connections.Connections.drop_shut.Goals as goal

pub invariant_of-self : goal.invariant_of-self
invariant_of-self c =
    shut-table c.self.inside.slots c.free.new.slots c.self.inside.opened.items c.args.key None c.self.invariant
    (subst IsShut c.in-Some.ensures c.if-held.false) c.free.ensures tt

pub returns : goal.returns
returns c =
    ap values
    (shut-same c.self.inside.slots c.free.new.slots c.self.inside.opened.items c.args.key None c.self.invariant
    (subst IsShut c.in-Some.ensures c.if-held.false) c.free.ensures)
    ∙ c.self.view_is
