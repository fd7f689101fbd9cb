-- What is written is read back.
use Rattle.std.proofs.Common.{◌≡◌, ℕ, List, Bool, true, false, Some, None, sym, ap, ◌∙◌, arith}
use Rattle.protocol.specs.Packet.{digits}
use Rattle.slreader.specs.Lasts.{LastValue, is_named}
use Rattle.slreader.specs.Tallies.{ReachedValue}
use Rattle.slreader.specs.Wants.{is_code}
use Rattle.reader_state.specs.States.{IsLast, Lacks, end_text}
use Rattle.reader_state.proofs.ByteLemmas.{both, code-lacks, digits-lack}
use Rattle.reader_state.proofs.reading.last_of.Goals as goal

lacks-network : (l : LastValue) → IsLast l → Lacks 32 l.network
lacks-network l h = code-lacks 32 2 l.network (omega arith) (both (is_code 2 l.network) (is_code 5 l.station) h.named).0

lacks-station : (l : LastValue) → IsLast l → Lacks 32 l.station
lacks-station l h = code-lacks 32 5 l.station (omega arith) (both (is_code 2 l.network) (is_code 5 l.station) h.named).1

lacks-digits : (l : LastValue) → Lacks 32 (digits l.reached.number)
lacks-digits l = digits-lack 32 l.reached.number (omega arith)

never : {A X : Type 0} → (x : X) → None ≡ Some x → A
never x e = absurd cc

same : (x y : ReachedValue) → Some x ≡ Some y → x ≡ y
same x y e = cc

whole : (last l : LastValue) (network station : List ℕ) (reached : ReachedValue)
    → last ≡ record { network = network; station = station; reached = reached } → network ≡ l.network
    → station ≡ l.station → reached ≡ l.reached → last ≡ l
whole last l network station reached is a b c =
    is
    ∙ ap (λ (x : List ℕ). let v : LastValue = record { network = x; station = station; reached = reached } in v) a
    ∙ ap (λ (x : List ℕ). let v : LastValue = record { network = l.network; station = x; reached = reached } in v) b
    ∙ ap (λ (x : ReachedValue).
    let v : LastValue = record { network = l.network; station = l.station; reached = x } in v) c

not-both : {A : Type 0} → (b : Bool) → b ≡ true → b ≡ false → A
not-both b is is_not = let bad : true ≡ false = sym is ∙ is_not in absurd cc

pub returns-in-None : goal.returns-in-None
returns-in-None c = λ l h is.
    absurd (c.in-None.ensures {u = tt} l.network l.station (digits l.reached.number) (end_text l.reached.end)
    (lacks-network l h) (lacks-station l h) (lacks-digits l) is)

pub returns-in-None-reached_of : goal.returns-in-None-reached_of
returns-in-None-reached_of c = λ l h is.
    let w = c.in-Some.ensures {u = tt} l.network l.station (digits l.reached.number) (end_text l.reached.end)
    (lacks-network l h) (lacks-station l h) (lacks-digits l) is in
    never l.reached (c.in-None-reached_of.ensures {u = tt} l.reached h.number h.ends w.2 w.3)

pub returns-then-is_named : goal.returns-then-is_named
returns-then-is_named c = λ l h is.
    let w = c.in-Some.ensures {u = tt} l.network l.station (digits l.reached.number) (end_text l.reached.end)
    (lacks-network l h) (lacks-station l h) (lacks-digits l) is in
    whole _ l _ _ _ c.in-Ok.ensures w.0 w.1
    (same _ l.reached (c.in-Some-reached_of.ensures {u = tt} l.reached h.number h.ends w.2 w.3))

pub returns-else-is_named : goal.returns-else-is_named
returns-else-is_named c = λ l h is.
    let w = c.in-Some.ensures {u = tt} l.network l.station (digits l.reached.number) (end_text l.reached.end)
    (lacks-network l h) (lacks-station l h) (lacks-digits l) is in
    let e = whole _ l _ _ _ c.in-Ok.ensures w.0 w.1
    (same _ l.reached (c.in-Some-reached_of.ensures {u = tt} l.reached h.number h.ends w.2 w.3)) in
    not-both (is_named l) h.named (sym (ap is_named e) ∙ sym c.is_named.ensures ∙ c.if-is_named.false)
