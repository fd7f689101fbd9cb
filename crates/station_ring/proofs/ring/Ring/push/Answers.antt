use Rattle.station_ring.specs.declared.held.Held.{Held}
use Rattle.station_ring.specs.Rings.{RingValue}
use Rattle.station_ring.proofs.PushLemmas.{pushed_holds, pushed_latest}
use Rattle.station_ring.proofs.GrowthLemmas.{pushed-grows}
use Rattle.station_ring.proofs.ring.Ring.push.Goals as goal

pub invariant_of-self : goal.invariant_of-self
invariant_of-self c =
    let before : RingValue = record {
      capacity = c.self.inside.held.capacity;
      first = c.self.inside.first;
      pushes = c.self.inside.pushes;
      held = c.self.inside.held.items;
    } in
    let item : Held = record { stamp = c.args.stamp; bytes = c.args.bytes.now; summary = c.args.summary } in
    rw c.push.ensures
    (pushed_holds before item c.self.invariant (rw (← c.self.view_is) at c.requires.later))

pub returns-clause-latest : goal.returns-clause-latest
returns-clause-latest c =
    let before : RingValue = record {
      capacity = c.self.inside.held.capacity;
      first = c.self.inside.first;
      pushes = c.self.inside.pushes;
      held = c.self.inside.held.items;
    } in
    let item : Held = record { stamp = c.args.stamp; bytes = c.args.bytes.now; summary = c.args.summary } in
    rw c.push.ensures (pushed_latest before item (rw (← c.self.view_is) at c.requires.later))

pub returns-clause-grows : goal.returns-clause-grows
returns-clause-grows c =
    let before : RingValue = record {
      capacity = c.self.inside.held.capacity;
      first = c.self.inside.first;
      pushes = c.self.inside.pushes;
      held = c.self.inside.held.items;
    } in
    let item : Held = record { stamp = c.args.stamp; bytes = c.args.bytes.now; summary = c.args.summary } in
    rw (← c.self.view_is, c.push.ensures) (pushed-grows before item c.self.invariant)
