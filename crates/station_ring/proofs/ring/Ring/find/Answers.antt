use Rattle.std.proofs.Common.{sym}
use Rattle.station_ring.specs.Rings.{RingValue}
use Rattle.station_ring.proofs.NumberLemmas.{IsFrom, place_with-near, place_with-far}
use Rattle.station_ring.proofs.ring.Ring.find.Goals as goal

pub returns-then-distance-self : goal.returns-then-distance-self
returns-then-distance-self c =
    let r : RingValue = record {
      capacity = c.self.inside.held.capacity;
      first = c.self.inside.first;
      pushes = c.self.inside.pushes;
      held = c.self.inside.held.items;
    } in
    let is : IsFrom r c.args.number c.first_place-start.result c.number_of.result c.distance-distance.result = record {
      holds = c.self.invariant;
      start_is = rw (← c.self.view_is) at c.first_place-start.ensures.place;
      together = rw (← c.self.view_is) at c.first_place-start.ensures.together;
      from_is = c.number_of.ensures;
      there = c.distance-distance.ensures.reached;
      next = c.distance-distance.ensures.next;
    } in
    rw (← c.self.view_is) (sym (place_with-near r c.args.number _ _ _ is c.if-distance-self.true))

pub returns-else-distance-self : goal.returns-else-distance-self
returns-else-distance-self c =
    let r : RingValue = record {
      capacity = c.self.inside.held.capacity;
      first = c.self.inside.first;
      pushes = c.self.inside.pushes;
      held = c.self.inside.held.items;
    } in
    let is : IsFrom r c.args.number c.first_place-start.result c.number_of.result c.distance-distance.result = record {
      holds = c.self.invariant;
      start_is = rw (← c.self.view_is) at c.first_place-start.ensures.place;
      together = rw (← c.self.view_is) at c.first_place-start.ensures.together;
      from_is = c.number_of.ensures;
      there = c.distance-distance.ensures.reached;
      next = c.distance-distance.ensures.next;
    } in
    rw (← c.self.view_is) (sym (place_with-far r c.args.number _ _ _ is c.if-distance-self.false))
