use Rattle.std.proofs.Common.{◌≤◌, length, arith, subst, List}
use Rattle.station_ring.specs.declared.held.Brief.{Brief}
use Rattle.station_ring.specs.Blocks.{from_oldest}
use Rattle.station_ring.specs.Briefs.{AreBriefs}
use Rattle.station_ring.proofs.BlockLemmas.{pieces-from_oldest}
use Rattle.station_ring.proofs.BriefLemmas.{briefs-older, briefs-newer}
use Rattle.station_ring.proofs.records.Records.briefs_from.Goals as goal

pub returns-then-index-older : goal.returns-then-index-older
returns-then-index-older c =
    let oldest = c.self.inside.oldest in
    let held = from_oldest oldest c.self.inside.held.items in
    let older = c.split_at.result.1.now in
    let newer = c.split_at.result.0.now in
    rw (c.known-streams.ensures, ← c.self.view_is)
    (briefs-older c.self.inside.streams held older newer c.args.index c.if-index-older.true
    (subst (λ (bs : List Brief). AreBriefs c.self.inside.streams held bs)
    (pieces-from_oldest oldest c.self.inside.briefs.items c.deref.result.now older newer c.deref.ensures.value
    c.split_at.ensures.back c.split_at.ensures.front)
    c.self.invariant.4))

pub returns-else-index-older : goal.returns-else-index-older
returns-else-index-older c =
    let oldest = c.self.inside.oldest in
    let held = from_oldest oldest c.self.inside.held.items in
    let older = c.split_at.result.1.now in
    let newer = c.split_at.result.0.now in
    let high : length older ≤ c.args.index = omega arith in
    rw (c.known-streams.ensures, ← c.self.view_is)
    (briefs-newer c.self.inside.streams held older newer c.args.index high
    (subst (λ (bs : List Brief). AreBriefs c.self.inside.streams held bs)
    (pieces-from_oldest oldest c.self.inside.briefs.items c.deref.result.now older newer c.deref.ensures.value
    c.split_at.ensures.back c.split_at.ensures.front)
    c.self.invariant.4))
