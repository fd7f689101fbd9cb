-- Each connection goes on after those before it.
use Rattle.std.proofs.Common.{arith, sym}
use Rattle.reader_run.specs.Following.Follows.{Nowhere, Further}
use Rattle.reader_run.proofs.CountLaws.{counts-stopped}
use Rattle.reader_run.proofs.FollowLaws.{follows-keeps, not-keeping, visited-broken, visited-end, visited-failed}
use Rattle.reader_run.proofs.FollowLaws.{visited-many, visited-more, visited-none, visited-stopped}
use Rattle.reader_run.proofs.KeepLaws.{keeps-none}
use Rattle.reader_run.proofs.following.follow.Goals as goal

pub connections-init : goal.connections-init
connections-init g c = record { follows = Nowhere; behind = keeps-none _ _; visited = visited-none _ _ _ }

pub returns-in-Ok-read-clause-behind : goal.returns-in-Ok-read-clause-behind
returns-in-Ok-read-clause-behind g c =
    follows-keeps _ _ _ _ _ _ _ _ c.connections.invariant.follows c.connections.invariant.behind
    c.read_further-read.ensures.behind

pub returns-then-not-is_told_at-clause-behind : goal.returns-then-not-is_told_at-clause-behind
returns-then-not-is_told_at-clause-behind g c =
    follows-keeps _ _ _ _ _ _ _ _ c.connections.invariant.follows c.connections.invariant.behind
    c.read_further-read.ensures.behind

pub returns-in-Err-pass_over-clause-behind : goal.returns-in-Err-pass_over-clause-behind
returns-in-Err-pass_over-clause-behind g c =
    follows-keeps _ _ _ _ _ _ _ _ c.connections.invariant.follows c.connections.invariant.behind
    c.read_further-read.ensures.behind

pub connections-preserved : goal.connections-preserved
connections-preserved g c =
    let told = sym (c.if-not-is_told_at.ensures {u = tt}) in
    let all = c.in-Err-read.ensures in
    record {
      follows = Further c.connections.invariant.follows (counts-stopped _ _ _ _ _ _ _ _ _ _ _ _ (all.told told));
      behind = follows-keeps _ _ _ _ _ _ _ _ c.connections.invariant.follows c.connections.invariant.behind
          c.read_further-read.ensures.behind;
      visited = visited-more _ _ _ _ _ _ _ _ _ c.in-Err-read.fault _ _ c.connections.invariant.visited
          c.in-Ok.ensures.call c.in-Ok-pass_over.ensures.call (record {
            told = told;
            stops = all.told told;
            why = all.stopped;
            keeper = not-keeping (Unit {0}) c.in-Err-read.fault _ _ told all.keeper;
          });
    }

pub returns-in-Ok-read-clause-ends : goal.returns-in-Ok-read-clause-ends
returns-in-Ok-read-clause-ends g c =
    visited-end _ _ _ _ _ _ _ _ _ _ _ c.connections.invariant.visited c.in-Ok.ensures.call c.close.ensures.call
    c.in-Ok-read.ensures.ends

pub returns-then-not-is_told_at-clause-stops : goal.returns-then-not-is_told_at-clause-stops
returns-then-not-is_told_at-clause-stops g c =
    let untold = sym (c.if-not-is_told_at.ensures {u = tt}) in
    let all = c.in-Err-read.ensures in
    visited-stopped _ _ _ _ _ _ _ _ _ c.in-Err-read.fault _ _ c.connections.invariant.visited c.in-Ok.ensures.call
    c.close-then-not-is_told_at.ensures.call (record {
      untold = untold;
      same = all.kept untold;
      order = all.order;
      why = all.stopped;
      keeper = all.keeper;
      plan = all.plan;
    })

pub returns-in-Err-pass_over-clause-stops : goal.returns-in-Err-pass_over-clause-stops
returns-in-Err-pass_over-clause-stops g c =
    let told = sym (c.if-not-is_told_at.ensures {u = tt}) in
    let all = c.in-Err-read.ensures in
    visited-broken c.in-Err-pass_over.fault _ _ _ _ _ _ _ _ _ c.in-Err-read.fault _ _
    c.connections.invariant.visited c.in-Ok.ensures.call c.in-Err-pass_over.ensures.call (record {
      told = told;
      stops = all.told told;
      why = all.stopped;
      keeper = not-keeping (Unit {0}) c.in-Err-read.fault _ _ told all.keeper;
    })

pub returns-in-Err-clause-stops : goal.returns-in-Err-clause-stops
returns-in-Err-clause-stops g c =
    visited-failed c.in-Err.fault _ _ _ _ _ _ _ c.connections.invariant.visited c.in-Err.ensures.call

pub returns-clause-stops : goal.returns-clause-stops
returns-clause-stops g c = visited-many _ _ _ _ _ _ c.connections.invariant.visited (omega arith)
