-- The lines of events, one after the other.
use Rattle.std.proofs.Common.{◌≡◌, ℕ, ◌+◌, ◌<◌, ◌≤◌, List, ◌++◌, map, length, drop, get_or, sym, ap, ◌∙◌, append_assoc}
use Rattle.std.proofs.Common.{arith}
use Rattle.protocol.specs.World.{Handed}
use Rattle.server_core.specs.Runs.{event_value}
use Rattle.server_core.specs.declared.events.Event.{Event}
use Rattle.server_core.specs.declared.events.Event.TheVariants.{Open, Bytes, Take, Close, Arrive, Reload}
use Rattle.event_script.specs.Dialogue.{dialogue_from, event_line, opened_after, takes_after}
use Rattle.event_script.proofs.Takes.{at_hand}

-- the line of the event at hand joins the lines before it
pub dialogue_more : (events : List Event) (k : ℕ) (event : Event) (opened opened' : ℕ) (xs xs' : List Handed)
    (text text' : List ℕ) → k < length events → event ≡ get_or events k event
    → text' ≡ text ++ event_line opened xs (event_value event)
    → opened' ≡ opened_after opened (event_value event)
    → xs' ≡ takes_after xs (event_value event)
    → text ++ dialogue_from opened (map event_value (drop k events)) xs
    ≡ text' ++ dialogue_from opened' (map event_value (drop (k + 1) events)) xs'
dialogue_more events k event opened opened' xs xs' text text' h e line more left =
    let es = map event_value (drop (k + 1) events) in
    let behind = dialogue_from (opened_after opened (event_value event)) es (takes_after xs (event_value event)) in
    ap (λ events. text ++ dialogue_from opened (map event_value events) xs) (at_hand events k event h e)
    ∙ sym (append_assoc text (event_line opened xs (event_value event)) behind)
    ∙ rw (line, more, left)

-- not more clients opened than there were events
pub opened_at_most : (opened opened' k : ℕ) (event : Event) → opened ≤ k
    → opened' ≡ opened_after opened (event_value event) → opened' ≤ k + 1
opened_at_most opened opened' k (Open address) most more = omega arith
opened_at_most opened opened' k (Bytes client bytes) most more = omega arith
opened_at_most opened opened' k (Take client count) most more = omega arith
opened_at_most opened opened' k (Close client) most more = omega arith
opened_at_most opened opened' k (Arrive bytes) most more = omega arith
opened_at_most opened opened' k (Reload config) most more = omega arith
