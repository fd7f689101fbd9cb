-- Each turn takes the record that it makes whole, if it makes one whole, and goes on behind it.
use Rattle.std.proofs.Common.{◌≡◌, ◌++◌, [], sym, ap, subst, ◌∙◌, append_assoc, append-nil, arith}
use Rattle.std.proofs.lemmas.Grind.{common_steps}
use Rattle.std.proofs.lemmas.List.{take_rest}
use Rattle.protocol.specs.Catalog.{Config}
use Rattle.protocol.specs.Streams.{FeedRead}
use Rattle.protocol.specs.World.{World}
use Rattle.server_core.specs.ServerValues.{StandsAt}
use Rattle.feeder.specs.Feedings.{lent_records, left_over}
use Rattle.event_loop.specs.Feeding.{fed, world_fed, Arrives}
use Rattle.event_loop.proofs.FeedLemmas.{arrives-none, arrives-then, fed-in-two}
use Rattle.event_loop.proofs.LeaveLemmas.{quiet_then, quiet_none}
use Rattle.event_loop.specs.Sleeping.{IsQuiet}
use Rattle.event_loop.proofs.feeding.take_records.Goals as goal
use Rattle.event_loop.proofs.feeding.take_records.Goals.{in-Some, in-None}

pub records-preserved : goal.records-preserved
records-preserved g c =
    let h = c.records.invariant in
    let whole = c.feed.result.whole in
    let after : c.match-whole.cutter ≡ left_over c.records.cutter c.records.left.now whole = elim c.match-whole.branch [
      | in-Some w ↦ w.cutter-is ∙ c.feed.follows.holds-at-none
      | in-None w ↦ w.cutter-is ∙ c.feed.follows.holds-at-none
    ] in
    let one : (config : Config) (v : World) → StandsAt c.records.server config v
    → Arrives config v (lent_records whole) c.match-whole.server c.records.refused c.match-whole.refused =
    elim c.match-whole.branch [
      | in-Some w ↦ λ config v stands. rw (
        w.in-Some.is,
        w.server-is,
        w.refused-is,
      ) (w.take_record.ensures.arrives config v stands)
      | in-None w ↦ λ config v stands. rw (
        w.in-None.is,
        w.server-is,
        w.refused-is,
      ) (arrives-none config v c.records.server c.records.refused stands)
    ] in
    let quiet : IsQuiet c.records.server c.match-whole.server =
    elim c.match-whole.branch [
      | in-Some w ↦ rw w.server-is w.take_record.ensures.quiet
      | in-None w ↦ rw w.server-is (quiet_none c.records.server)
    ] in
    let calls : g.P.Ports.calls c.match-whole.ports ≡ g.P.Ports.calls c.args.ports.now = elim c.match-whole.branch [
      | in-Some w ↦ rw w.ports-is (w.take_record.ensures.calls ∙ h.calls)
      | in-None w ↦ rw w.ports-is h.calls
    ] in
    let failures : g.P.Ports.failures c.match-whole.ports ≡ g.P.Ports.failures c.args.ports.now =
    elim c.match-whole.branch [
      | in-Some w ↦ rw w.ports-is (w.take_record.ensures.failures ∙ h.failures)
      | in-None w ↦ rw w.ports-is h.failures
    ] in
    let rest = take_rest c.records.left.now c.feed.result.used in
    let parts = fed-in-two c.records.cutter c.records.left.now c.match-whole.cutter _ c.feed.result.used whole
    c.feed.ensures.read after rest in
    record {
      arrives = λ config w stands.
          let x = h.arrives config w stands in (
            x.0 ++ lent_records whole,
            append_assoc x.0 (lent_records whole) _ ∙ ap (λ (f : FeedRead). x.0 ++ f.records) (sym parts) ∙ x.1,
            arrives-then config w x.0 (lent_records whole) c.records.server c.match-whole.server c.args.refused.now
                c.records.refused c.match-whole.refused x.2 (one config (world_fed config w x.0) x.2.stands),
          );
      calls = calls;
      failures = failures;
      rest = ap (λ (f : FeedRead). f.rest) (sym parts) ∙ h.rest;
      quiet = quiet_then c.args.server.now c.records.server c.match-whole.server h.quiet quiet;
    }

pub returns-clause-arrives : goal.returns-clause-arrives
returns-clause-arrives g c = λ config w stands.
    let x = c.records.invariant.arrives config w stands in
    let none : c.records.left.now ≡ [] = grind (arith, common_steps) in
    subst (λ rs. Arrives config w rs c.records.server c.args.refused.now c.records.refused)
    (sym (append-nil x.0) ∙ ap (λ l. x.0 ++ (fed c.records.cutter l).records) (sym none) ∙ x.1) x.2
