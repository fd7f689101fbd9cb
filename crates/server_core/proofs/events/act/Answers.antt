use Rattle.std.proofs.Common.{arith, ap, map, ◌++◌, [], ◌∷◌}
use Rattle.std.proofs.lemmas.List.{map-append}
use Rattle.protocol.specs.World.{Handed}
use Rattle.server_core.specs.Runs.{handed_value}
use Rattle.server_core.proofs.events.act.Goals as goal

pub returns-in-Bytes-clause-stands : goal.returns-in-Bytes-clause-stands
returns-in-Bytes-clause-stands c =
    λ config w few stands. rw c.in-Bytes.is
    (rw (c.numbered.ensures, c.as_slice.ensures.value) at (c.receive.ensures.stands config w stands))

pub returns-in_ok-push-in-Take-clause-stands : goal.returns-in_ok-push-in-Take-clause-stands
returns-in_ok-push-in-Take-clause-stands c =
    λ config w few stands. rw c.in-Take.is
    (rw c.numbered-in-Take.ensures at (c.in_ok-handed-in-Take.ensures.stands config w stands))

pub returns-in_ok-push-in-Take-clause-handed : goal.returns-in_ok-push-in-Take-clause-handed
returns-in_ok-push-in-Take-clause-handed c = λ config w stands.
    rw (c.in-Take.is, c.in_ok-push-in-Take.ensures.items, map-append)
    (ap (λ (x : Handed). map handed_value c.args.out.now.items ++ x ∷ [])
    (rw c.numbered-in-Take.ensures at (c.in_ok-handed-in-Take.ensures.handed config w stands)))

pub returns-in-Close-clause-stands : goal.returns-in-Close-clause-stands
returns-in-Close-clause-stands c =
    λ config w few stands. rw c.in-Close.is (rw c.numbered-in-Close.ensures at (c.close.ensures.stands config w stands))

pub returns-in-Arrive-clause-stands : goal.returns-in-Arrive-clause-stands
returns-in-Arrive-clause-stands c = λ config w few stands.
    rw c.in-Arrive.is
    (c.arrive.ensures.stands
    (λ full. absurd (let all = c.arrive.ensures.exhausted full config w stands in omega (arith, few, all))) config w
    stands)
