-- A step of a pass, by how it goes on.
use Rattle.std.proofs.Common.{◌≡◌, List, subst, Option, Some, None}
use Rattle.protocol.specs.Catalog.{Config}
use Rattle.protocol.specs.World.{World}
use Rattle.server_core.specs.ServerValues.{ServerValue}
use Rattle.event_loop.specs.declared.seat.Seat.{Seat}
use Rattle.event_loop.specs.declared.passes.Onward.{Onward}
use Rattle.event_loop.specs.declared.passes.Onward.TheVariants.{On, Stop, Over}
use Rattle.ports.specs.Calls.{Call}
use Rattle.event_loop.specs.Deeds.{Deed, Tally}
use Rattle.event_loop.specs.Going.{Kind, GoesOn, Ends, Step, Does, Once}

module _ (R : Kind Seat (Option Seat)) (config : Config) (v : World) (b c : Option (List Call)) (last : ServerValue)
    (t t' : Tally)
    (s s' : Seat) (onward : Onward) (o : Once R config v b c last t t' s s' onward) where
  pub once-on : onward ≡ On → (deeds : List Deed) × Does config v b c last t t' deeds × GoesOn R config v s s' deeds
  once-on e = (o.deeds, o.does, subst (λ x. Step R config v s s' o.deeds x) e o.how)

  pub once-stops : onward ≡ Stop → (deeds : List Deed) × Does config v b c last t t' deeds
      × Ends R config v s deeds (Some s')
  once-stops e = (o.deeds, o.does, subst (λ x. Step R config v s s' o.deeds x) e o.how)

  pub once-over : onward ≡ Over → (deeds : List Deed) × Does config v b c last t t' deeds × Ends R config v s deeds None
  once-over e = (o.deeds, o.does, subst (λ x. Step R config v s s' o.deeds x) e o.how)
