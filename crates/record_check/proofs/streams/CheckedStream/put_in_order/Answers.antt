-- A sort by the starts puts the runs in the order of these, and changes nothing else.
use Rattle.std.proofs.Common.{rules, ◌≡◌}
use Rattle.std.proofs.lemmas.Fn.{always_returns_same}
use Rattle.record_check.specs.Streams.{RunValue}
use Rattle.record_check.proofs.OrderLemmas.{sorted-stream}
use Rattle.record_check.proofs.streams.CheckedStream.put_in_order.Goals as goal

pub returns : goal.returns
returns c =
    let facts = c.sort_unstable_by_key.ensures in
    sorted-stream _ _ _ c.self.view_is facts.permutation
    (facts.sorted (λ (r : RunValue). r.start)
    (always_returns_same _ (λ a r. r ≡ a.0.now.start) _ (λ a r f called. search rules)))
