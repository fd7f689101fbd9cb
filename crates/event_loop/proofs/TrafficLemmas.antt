-- What is said of the packets that a client was sent.
use Rattle.std.proofs.Common.{◌≡◌, ℕ, ◌+◌, ◌<◌, true, List, [], ◌∷◌, ◌++◌, sym, ap, ◌∙◌, append_assoc, arith, length}
use Rattle.std.proofs.Common.{slice_index_or}
use Rattle.std.specs.Prelude.{if◌then◌else◌, nat_lt}
use Rattle.std.proofs.lemmas.Bool.Decides.{nat_tests}
use Rattle.std.proofs.lemmas.List.{append-nil}
use Rattle.protocol.specs.Catalog.{Config}
use Rattle.ports.specs.declared.decisions.AskedCodes.{AskedCodes}
use Rattle.ports.specs.declared.decisions.Decision.TheVariants.{Sent}
use Rattle.session_state.specs.declared.choices.Entry.{Entry}
use Rattle.event_loop.specs.Decided.{all_packets_said, packets_said}
use Rattle.event_loop.specs.Telling.{place_codes}

-- what is said of a station of which a client was sent packets
pub packets-told : (config : Config) (port place packets : ℕ) (codes : AskedCodes) → codes ≡ place_codes config place
    → 0 < packets → (port, Sent codes packets) ∷ [] ≡ packets_said config port place packets
packets-told config port place packets codes is some =
    let yes : nat_lt 0 packets ≡ true = grind (arith, nat_tests, some) in
    ap (λ (x : AskedCodes). (port, Sent x packets) ∷ []) is
    ∙ sym (ap (λ b. if b then (port, Sent (place_codes config place) packets) ∷ [] else []) yes)

-- what is said of the packets of one request more
pub packets-more : (config : Config) (port index : ℕ) (es : List Entry) (e : Entry) (packets : List ℕ)
    → all_packets_said config port index (es ++ e ∷ []) packets
    ≡ all_packets_said config port index es packets
    ++ packets_said config port e.station (slice_index_or packets (index + length es) 0)
packets-more config port index [] e packets =
    append-nil (packets_said config port e.station (slice_index_or packets index 0))
    ∙ ap (λ n. packets_said config port e.station (slice_index_or packets n 0)) (omega arith)
packets-more config port index (x ∷ xs) e packets =
    ap (λ l. packets_said config port x.station (slice_index_or packets index 0) ++ l)
    (packets-more config port (index + 1) xs e packets)
    ∙ sym (append_assoc (packets_said config port x.station (slice_index_or packets index 0))
    (all_packets_said config port (index + 1) xs packets)
    (packets_said config port e.station (slice_index_or packets (index + 1 + length xs) 0)))
    ∙ ap (λ n. (packets_said config port x.station (slice_index_or packets index 0)
    ++ all_packets_said config port (index + 1) xs packets)
    ++ packets_said config port e.station (slice_index_or packets n 0)) (omega arith)
