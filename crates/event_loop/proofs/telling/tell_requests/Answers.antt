use Rattle.std.proofs.Common.{◌<◌, ◌∙◌, ◌++◌, ◌∷◌, [], ap, arith, length, refl, sym, take}
use Rattle.std.proofs.lemmas.List.{take_more}
use Rattle.session_state.specs.declared.choices.Entry.{Entry}
use Rattle.event_loop.specs.Telling.{requests_said}
use Rattle.event_loop.proofs.DecidedLemmas.{decides-none, decides-then, requests-more}
use Rattle.event_loop.proofs.telling.tell_requests.Goals as goal

pub loop-entry-init : goal.loop-entry-init
loop-entry-init g c = record { calls = refl; failures = refl; decides = decides-none _ }

pub loop-entry-preserved : goal.loop-entry-preserved
loop-entry-preserved g c =
    let xs = c.args.entries.now in
    let i = c.loop-entry.entry-index in
    let inside : i < length xs = omega arith in
    record {
      calls = c.tell_request.ensures.calls ∙ c.loop-entry.invariant.calls;
      failures = c.tell_request.ensures.failures ∙ c.loop-entry.invariant.failures;
      decides = decides-then _ _ _ (requests_said c.args.config.now c.args.port (take i xs)) _ _
          c.loop-entry.invariant.decides c.tell_request.ensures.decides
          (ap (requests_said c.args.config.now c.args.port)
          (take_more xs i c.entry-item.result inside
          ∙ ap (λ (e : Entry). take i xs ++ e ∷ []) (sym c.entry-item.is))
          ∙ requests-more c.args.config.now c.args.port (take i xs) c.entry-item.result);
    }
