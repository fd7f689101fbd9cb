use Rattle.std.proofs.Common.{◌≡◌, ◌+◌, ◌<◌, ◌++◌, [], ◌∷◌, length, map, take, ap, sym, ◌∙◌, arith}
use Rattle.std.proofs.lemmas.List.{take_more, map-append}
use Rattle.memory_ports.specs.Made.{made_value}
use Rattle.memory_ports.specs.Records.{fresh, with_call, after_calls, record_value}
use Rattle.memory_ports.proofs.RecordLemmas.{after_calls-append}
use Rattle.memory_ports.proofs.memory_ports.port_record.record_of.Goals as goal

pub loop-made-preserved : goal.loop-made-preserved
loop-made-preserved c =
    let xs = c.args.calls.now in
    let i = c.loop-made.made-index in
    let here = c.made-item.is in
    let inside : i < length xs = omega arith in
    let step : record_value c.call.new.self
    ≡ with_call c.args.port (record_value c.loop-made.record) (made_value c.made-item.result) =
    c.in_ok-call.ensures in
    let more : take (i + 1) xs ≡ take i xs ++ c.made-item.result ∷ [] = take_more xs i c.made-item.result inside
    ∙ ap (λ x. take i xs ++ x ∷ []) (sym here) in
    step ∙ ap (λ v. with_call c.args.port v (made_value c.made-item.result)) c.loop-made.invariant
    ∙ sym (after_calls-append c.args.port fresh (map made_value (take i xs)) (made_value c.made-item.result ∷ []))
    ∙ ap (after_calls c.args.port fresh) (sym (map-append made_value (take i xs) (c.made-item.result ∷ []))
    ∙ ap (map made_value) (sym more))
