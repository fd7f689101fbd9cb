use Rattle.std.proofs.Common.{◌≡◌, ◌<◌, ◌≤◌, ◌∙◌, ◌++◌, ◌+◌, ℕ, ap, arith, length, refl, slice_index_or, sym, take}
use Rattle.std.proofs.lemmas.List.{length-take-le, take_more}
use Rattle.session_state.specs.declared.choices.Entry.{Entry}
use Rattle.event_loop.specs.Decided.{all_packets_said, packets_said}
use Rattle.event_loop.proofs.DecidedLemmas.{decides-none, decides-then}
use Rattle.event_loop.proofs.TrafficLemmas.{packets-more}
use Rattle.event_loop.proofs.deciding.tell_all_packets.Goals as goal

pub loop-index-init : goal.loop-index-init
loop-index-init g c = record { calls = refl; failures = refl; decides = decides-none _ }

pub loop-index-preserved : goal.loop-index-preserved
loop-index-preserved g c =
    let xs = c.args.entries.now in
    let i = c.loop-index.index in
    let e : Entry = slice_index_or xs i c.index-entries-index.result in
    let inside : i < length xs = omega arith in
    let within : i ≤ length xs = omega (arith, inside) in
    let before : length (take i xs) ≡ i = length-take-le i xs within in
    let reached : 0 + length (take i xs) ≡ i = omega (arith, before) in
    record {
      calls = c.tell_packets.ensures.calls ∙ c.loop-index.invariant.calls;
      failures = c.tell_packets.ensures.failures ∙ c.loop-index.invariant.failures;
      decides = decides-then _ _ _ (all_packets_said c.args.config.now c.args.port 0 (take i xs) c.args.packets.now) _ _
          c.loop-index.invariant.decides c.tell_packets.ensures.decides
          (ap (λ es. all_packets_said c.args.config.now c.args.port 0 es c.args.packets.now)
          (take_more xs i c.index-entries-index.result inside)
          ∙ packets-more c.args.config.now c.args.port 0 (take i xs) e c.args.packets.now
          ∙ ap (λ (n : ℕ). all_packets_said c.args.config.now c.args.port 0 (take i xs) c.args.packets.now
          ++ packets_said c.args.config.now c.args.port e.station n)
          (ap (λ (n : ℕ). slice_index_or c.args.packets.now n 0) reached ∙ sym c.packets_at-count.ensures));
    }
