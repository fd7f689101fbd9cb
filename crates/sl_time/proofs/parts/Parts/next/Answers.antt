use Rattle.std.proofs.Common.{refl, sym, ap}
use Rattle.sl_time.specs.Parts.{other_parts}
use Rattle.sl_time.proofs.parts.Parts.next.Goals as goal

pub returns-in-Some-clause-part : goal.returns-in-Some-clause-part
returns-in-Some-clause-part c =
    let whole = rw c.if-self.false at c.self.view_is in
    rw (sym whole, c.in-Some.ensures.pieces) refl

pub returns-in-Some-clause-rest : goal.returns-in-Some-clause-rest
returns-in-Some-clause-rest c =
    let whole = rw c.if-self.false at c.self.view_is in
    rw (sym whole, ap other_parts c.in-Some.ensures.pieces, c.if-self.false) refl

pub returns-in-None-clause-part : goal.returns-in-None-clause-part
returns-in-None-clause-part c =
    let whole = rw c.if-self.false at c.self.view_is in
    rw (sym whole, c.in-None.ensures.pieces) refl

pub returns-in-None-clause-rest : goal.returns-in-None-clause-rest
returns-in-None-clause-rest c =
    let whole = rw c.if-self.false at c.self.view_is in
    rw (sym whole, c.in-None.ensures.pieces) refl
