-- Records that are listed a piece of their file after the other.
use Rattle.std.proofs.Common.{◌≡◌, ℕ, ◌==◌, List, [], ◌∷◌, ◌++◌, take, drop, refl, sym, ap, ◌∙◌, append_assoc}
use Rattle.std.proofs.Common.{append-nil, length, take-append-drop}
use Rattle.protocol.specs.Streams.{FeedRead, feed_byte, feed_from}
use Rattle.protocol.proofs.Feeds.{feed_from-append}
use Rattle.protocol.proofs.FoundLemmas.{both}
use Rattle.std.specs.Borrow.{Bor}
use Rattle.std.specs.Prelude.{Bool, Option}
use Rattle.feeder.specs.Feedings.{feed_read, lent_records, left_over}
use Rattle.record_check.specs.Checks.{Progress, piece_read, with_record, with_records}
use Rattle.record_check.specs.FeedTallies.{RefusedCountValue, all_judged, judged_with}
use Rattle.record_check.specs.Listing.{Rules}

-- ---- a feed read on

-- Records in front stay in front.
behind_byte : (front : List (List ℕ)) (f : FeedRead) (b : ℕ)
    → feed_byte (feed_read (front ++ f.records) f.rest) b
    ≡ feed_read (front ++ (feed_byte f b).records) (feed_byte f b).rest
behind_byte front f b =
    both (length f.rest == 511)
    (λ y. rw y (ap (λ l. feed_read l []) (append_assoc front f.records ((f.rest ++ b ∷ []) ∷ []))))
    (λ n. rw n)

behind : (front : List (List ℕ)) (f : FeedRead) (piece : List ℕ)
    → feed_from (feed_read (front ++ f.records) f.rest) piece
    ≡ feed_read (front ++ (feed_from f piece).records) (feed_from f piece).rest
behind front f [] = refl
behind front f (b ∷ piece) = ap (λ g. feed_from g piece) (behind_byte front f b) ∙ behind front (feed_byte f b) piece

pub records_behind : (records : List (List ℕ)) (held piece : List ℕ)
    → feed_from (feed_read records held) piece
    ≡ feed_read (records ++ (piece_read held piece).records) (piece_read held piece).rest
records_behind records held piece = ap (λ l. feed_from (feed_read l held) piece) (sym (append-nil records))
    ∙ behind records (feed_read [] held) piece

-- a piece that is read in two parts
in_two : (held piece held' : List ℕ) (n : ℕ) (records : List (List ℕ))
    → feed_from (feed_read [] held) (take n piece) ≡ feed_read records held'
    → piece_read held piece ≡ feed_read (records ++ (piece_read held' (drop n piece)).records)
    (piece_read held' (drop n piece)).rest
in_two held piece held' n records e =
    ap (feed_from (feed_read [] held)) (sym (take-append-drop n piece))
    ∙ feed_from-append (feed_read [] held) (take n piece) (drop n piece)
    ∙ ap (λ f. feed_from f (drop n piece)) e
    ∙ records_behind records held' (drop n piece)

-- ---- records listed

pub with_records-append : (r : Rules) (p : Progress) (records more : List (List ℕ))
    → with_records r p (records ++ more) ≡ with_records r (with_records r p records) more
with_records-append r p [] more = refl
with_records-append r p (bytes ∷ records) more = with_records-append r (with_record r p bytes) records more

-- What is listed of the first part and then of the rest is what is listed of the piece.
pub listed_in_two : (r : Rules) (held piece held' piece' : List ℕ) (n : ℕ) (records : List (List ℕ)) (p p' : Progress)
    → feed_from (feed_read [] held) (take n piece) ≡ feed_read records held' → piece' ≡ drop n piece
    → p' ≡ with_records r p records → with_records r p' (piece_read held' piece').records
    ≡ with_records r p (piece_read held piece).records
listed_in_two r held piece held' piece' n records p p' e d q =
    rw (
      d,
      q,
    )
    (sym (ap (λ (f : FeedRead). with_records r p f.records) (in_two held piece held' n records e)
    ∙ with_records-append r p records (piece_read held' (drop n piece)).records))

-- And so is what is left over.
pub rest_in_two : (held piece held' piece' : List ℕ) (n : ℕ) (records : List (List ℕ))
    → feed_from (feed_read [] held) (take n piece) ≡ feed_read records held' → piece' ≡ drop n piece
    → (piece_read held' piece').rest ≡ (piece_read held piece).rest
rest_in_two held piece held' piece' n records e d =
    rw d (sym (ap (λ (f : FeedRead). f.rest) (in_two held piece held' n records e)))

-- What a cutter is said to read of a piece.
abbrev Reads : (held piece : List ℕ) → ℕ → Option (Bor (List ℕ)) → Type 0
Reads held piece n whole = (records : List (List ℕ))
    → feed_from (feed_read records held) (take n piece)
    ≡ feed_read (records ++ lent_records whole) (left_over held piece whole)

pub listed_by_feeding : (r : Rules) (held piece held' piece' : List ℕ) (n : ℕ) (whole : Option (Bor (List ℕ)))
    (p p' : Progress) → Reads held piece n whole → held' ≡ left_over held piece whole → piece' ≡ drop n piece
    → p' ≡ with_records r p (lent_records whole)
    → with_records r p' (piece_read held' piece').records ≡ with_records r p (piece_read held piece).records
listed_by_feeding r held piece held' piece' n whole p p' reads h d q =
    listed_in_two r held piece held' piece' n (lent_records whole) p p'
    (reads [] ∙ ap (feed_read (lent_records whole)) (sym h)) d q

pub rest_by_feeding : (held piece held' piece' : List ℕ) (n : ℕ) (whole : Option (Bor (List ℕ)))
    → Reads held piece n whole → held' ≡ left_over held piece whole → piece' ≡ drop n piece
    → (piece_read held' piece').rest ≡ (piece_read held piece).rest
rest_by_feeding held piece held' piece' n whole reads h d =
    rest_in_two held piece held' piece' n (lent_records whole)
    (reads [] ∙ ap (feed_read (lent_records whole)) (sym h)) d

-- ---- records judged

all_judged-append : (has : List ℕ → List ℕ → Bool) (c : RefusedCountValue) (records more : List (List ℕ))
    → all_judged has c (records ++ more) ≡ all_judged has (all_judged has c records) more
all_judged-append has c [] more = refl
all_judged-append has c (bytes ∷ records) more = all_judged-append has (judged_with has c bytes) records more

pub judged_by_feeding : (has : List ℕ → List ℕ → Bool) (held piece held' piece' : List ℕ) (n : ℕ)
    (whole : Option (Bor (List ℕ)))
    (c c' : RefusedCountValue) → Reads held piece n whole → held' ≡ left_over held piece whole → piece' ≡ drop n piece
    → c' ≡ all_judged has c (lent_records whole)
    → all_judged has c' (piece_read held' piece').records ≡ all_judged has c (piece_read held piece).records
judged_by_feeding has held piece held' piece' n whole c c' reads h d q =
    rw (
      d,
      q,
    )
    (sym (ap (λ (f : FeedRead). all_judged has c f.records) (in_two held piece held' n (lent_records whole)
    (reads [] ∙ ap (feed_read (lent_records whole)) (sym h)))
    ∙ all_judged-append has c (lent_records whole) (piece_read held' (drop n piece)).records))
