-- Bytes that are read one by one.
use Rattle.std.proofs.Common.{◌≡◌, ℕ, ◌+◌, ◌<◌, List, [], length, drop, get_or, Some, None, refl, sym, ap, ◌∙◌, arith}
use Rattle.std.proofs.Common.{drop-cons, add-one, add_assoc}
use Rattle.std.specs.Prelude.{Option, is_some, true, false}
use Rattle.slreader.specs.declared.stage.StageEvent.{StageEvent}
use Rattle.slreader.specs.Dialogue.{ReaderValue, FirstGiven, behind, goes_on, read_first, after_byte, given_by}
use Rattle.slreader.specs.ReaderViews.{given_list, given_value}
use Rattle.slreader.specs.Reads.{TalkedOf}

pub behind_more : (m n : ℕ) (f : FirstGiven) → behind m (behind n f) ≡ behind (m + n) f
behind_more m n f = ap (λ k. record f { used = k }) (sym (add_assoc m n f.used))

pub behind_none : (f : FirstGiven) → behind 0 f ≡ f
behind_none f = ap (λ k. record f { used = k }) (omega arith)

-- at a byte of a piece
at_byte : (r : ReaderValue) (piece : List ℕ) (k : ℕ) → k < length piece
    → read_first r (drop k piece) ≡ goes_on (given_by r (get_or piece k 0)) (after_byte r (get_or piece k 0))
    (read_first (after_byte r (get_or piece k 0)) (drop (k + 1) piece))
at_byte r piece k inside = rw (drop-cons piece k 0 inside, add-one k) refl

-- The byte gave nothing.
pub talk_on : (f : FirstGiven) (r r' : ReaderValue) (piece : List ℕ) (k b : ℕ)
    → f ≡ behind k (read_first r (drop k piece)) → k < length piece → b ≡ get_or piece k 0 → r' ≡ after_byte r b
    → ((packet : List ℕ) → given_list None packet ≡ given_by r b)
    → f ≡ behind (k + 1) (read_first r' (drop (k + 1) piece))
talk_on f r r' piece k b so_far inside at to none =
    so_far
    ∙ ap (behind k) (at_byte r piece k inside
    ∙ ap (λ c. goes_on (given_by r c) (after_byte r c) (read_first (after_byte r c) (drop (k + 1) piece))) (sym at)
    ∙ ap (λ gs. goes_on gs (after_byte r b) (read_first (after_byte r b) (drop (k + 1) piece))) (sym (none [])))
    ∙ behind_more k 1 (read_first (after_byte r b) (drop (k + 1) piece))
    ∙ ap (λ q. behind (k + 1) (read_first q (drop (k + 1) piece))) (sym to)

-- It gave something.
pub talk_gave : (f : FirstGiven) (r r' : ReaderValue) (piece : List ℕ) (k b : ℕ) (e : StageEvent)
    → f ≡ behind k (read_first r (drop k piece)) → k < length piece → b ≡ get_or piece k 0 → r' ≡ after_byte r b
    → ((packet : List ℕ) → given_list (Some e) packet ≡ given_by r b) → (packet : List ℕ)
    → f ≡ record { used = k + 1; given = Some (given_value e packet); reader = r' }
talk_gave f r r' piece k b e so_far inside at to some packet =
    so_far
    ∙ ap (behind k) (at_byte r piece k inside
    ∙ ap (λ c. goes_on (given_by r c) (after_byte r c) (read_first (after_byte r c) (drop (k + 1) piece))) (sym at)
    ∙ ap (λ gs. goes_on gs (after_byte r b) (read_first (after_byte r b) (drop (k + 1) piece))) (sym (some packet)))
    ∙ ap (λ q. record { used = k + 1; given = Some (given_value e packet); reader = q }) (sym to)

-- The same of what a call gave.
pub talked_some : (r₀ r r' : ReaderValue) (piece : List ℕ) (k b : ℕ) (o : Option StageEvent)
    → read_first r₀ piece ≡ behind k (read_first r (drop k piece)) → k < length piece → b ≡ get_or piece k 0
    → r' ≡ after_byte r b → ((packet : List ℕ) → given_list o packet ≡ given_by r b) → is_some o ≡ true
    → TalkedOf r₀ piece (k + 1) o r'
talked_some r₀ r r' piece k b None so_far inside at to given some = absurd cc
talked_some r₀ r r' piece k b (Some e) so_far inside at to given some =
    λ packet. talk_gave (read_first r₀ piece) r r' piece k b e so_far inside at to given packet

pub talked_none : (f : FirstGiven) (r r' : ReaderValue) (piece : List ℕ) (k b : ℕ) (o : Option StageEvent)
    → f ≡ behind k (read_first r (drop k piece)) → k < length piece → b ≡ get_or piece k 0 → r' ≡ after_byte r b
    → ((packet : List ℕ) → given_list o packet ≡ given_by r b) → is_some o ≡ false
    → f ≡ behind (k + 1) (read_first r' (drop (k + 1) piece))
talked_none f r r' piece k b None so_far inside at to given none = talk_on f r r' piece k b so_far inside at to given
talked_none f r r' piece k b (Some e) so_far inside at to given none = absurd cc
