-- A feed that is read on by a piece that makes no record whole, and by one that ends with a record.
use Rattle.std.proofs.Common.{◌≡◌, ℕ, ◌+◌, ◌<◌, ◌≤◌, ◌==◌, false, List, [], ◌∷◌, ◌++◌, length, take, sym, ap, ◌∙◌}
use Rattle.std.proofs.Common.{arith, append_assoc, append-nil, length-append, ne_eqb}
use Rattle.std.proofs.Math.Seq.{take-length}
use Rattle.std.proofs.lemmas.List.{length-take-le}
use Rattle.protocol.specs.Streams.{feed_from}
use Rattle.feeder.specs.Feedings.{feed_read}

-- no record becomes whole
feed_from-short : (records : List (List ℕ)) (held piece : List ℕ) → length held + length piece < 512
    → feed_from (feed_read records held) piece ≡ feed_read records (held ++ piece)
feed_from-short records held [] short = ap (feed_read records) (sym (append-nil held))
feed_from-short records held (b ∷ piece) short =
    let not_last : (length held == 511) ≡ false = ne_eqb (length held) 511 (λ e. absurd (omega arith)) in
    let size : length (held ++ b ∷ []) ≡ length held + 1 = length-append held (b ∷ []) in
    rw not_last (feed_from-short records (held ++ b ∷ []) piece (omega arith)
    ∙ ap (feed_read records) (append_assoc held (b ∷ []) piece))

-- the piece ends with a record
feed_from-whole : (records : List (List ℕ)) (held piece : List ℕ) → 0 < length piece → length held + length piece ≡ 512
    → feed_from (feed_read records held) piece ≡ feed_read (records ++ (held ++ piece) ∷ []) []
feed_from-whole records held [] some whole = absurd (omega arith)
feed_from-whole records held (b ∷ []) some whole =
    let last : length held ≡ 511 = omega arith in
    rw last
feed_from-whole records held (b ∷ c ∷ piece) some whole =
    let not_last : (length held == 511) ≡ false = ne_eqb (length held) 511 (λ e. absurd (omega arith)) in
    let size : length (held ++ b ∷ []) ≡ length held + 1 = length-append held (b ∷ []) in
    rw not_last (feed_from-whole records (held ++ b ∷ []) (c ∷ piece) (omega arith) (omega arith)
    ∙ ap (λ l. feed_read (records ++ l ∷ []) []) (append_assoc held (b ∷ []) (c ∷ piece)))

-- All of a piece that makes no record whole is read.
pub reads_piece : (records : List (List ℕ)) (held piece : List ℕ) → length held + length piece < 512
    → feed_from (feed_read records held) (take (length piece) piece) ≡ feed_read (records ++ []) (held ++ piece)
reads_piece records held piece short =
    rw (take-length piece, append-nil records) (feed_from-short records held piece short)

-- As much of a piece as makes a record whole gives that record.
pub reads_record : (records : List (List ℕ)) (held piece whole : List ℕ) (n : ℕ) → length held < 512
    → length held + n ≡ 512 → n ≤ length piece → whole ≡ held ++ take n piece
    → feed_from (feed_read records held) (take n piece) ≡ feed_read (records ++ whole ∷ []) []
reads_record records held piece whole n bound enough within is =
    let size : length (take n piece) ≡ n = length-take-le n piece within in
    rw is (feed_from-whole records held (take n piece) (omega arith) (omega arith))
