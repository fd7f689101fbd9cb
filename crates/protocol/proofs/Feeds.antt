-- A feed that is read byte by byte is read as its records and what is left over.
use Rattle.std.proofs.Common.{◌≡◌, ℕ, ◌+◌, ◌==◌, List, [], ◌∷◌, ◌++◌, length, refl, sym, ap, ◌∙◌, subst, arith}
use Rattle.std.proofs.Common.{append_assoc, append-nil, length-append, eqb-true}
use Rattle.std.specs.Prelude.{◌↔◌}
use Rattle.std.specs.List.{concat}
use Rattle.std.proofs.lemmas.Bool.{eqb-false}
use Rattle.std.proofs.lemmas.List.Elements.{All-nil, All-push}
use Rattle.std.proofs.lemmas.List.Folds.{concat-append}
use Rattle.protocol.specs.Streams.{IsFeed, FeedRead, feed_byte, feed_from, feed_of}
use Rattle.protocol.proofs.FoundLemmas.{both}
use Rattle.protocol.proofs.FrameLemmas.{one_feed}

pub feed_from-append : (f : FeedRead) (bytes more : List ℕ)
    → feed_from f (bytes ++ more) ≡ feed_from (feed_from f bytes) more
feed_from-append f [] more = refl
feed_from-append f (b ∷ bytes) more = feed_from-append (feed_byte f b) bytes more

abbrev IsFed : List ℕ → FeedRead → Type 0
IsFed bytes f = IsFeed bytes f.records f.rest

abbrev IsRecord : List ℕ → Type 0
IsRecord r = length r ≡ 512

byte_fed : (bytes : List ℕ) (b : ℕ) (f : FeedRead) → IsFed bytes f → IsFed (bytes ++ b ∷ []) (feed_byte f b)
byte_fed bytes b f is =
    let whole : concat f.records ++ (f.rest ++ b ∷ [])
    ≡ bytes ++ b ∷ [] = sym (append_assoc (concat f.records) f.rest (b ∷ [])) ∙ ap (λ l. l ++ b ∷ []) is.whole in
    let size : length (f.rest ++ b ∷ []) ≡ length f.rest + 1 = length-append f.rest (b ∷ []) in
    let short = is.short in
    both (length f.rest == 511)
    (λ y. let last = eqb-true (length f.rest) 511 y in
    rw y (record {
      each = All-push IsRecord f.records (f.rest ++ b ∷ []) is.each (omega arith);
      whole = append-nil (concat (f.records ++ (f.rest ++ b ∷ []) ∷ []))
          ∙ concat-append f.records ((f.rest ++ b ∷ []) ∷ [])
          ∙ ap (λ l. concat f.records ++ l) (append-nil (f.rest ++ b ∷ [])) ∙ whole;
      short = omega arith;
    }))
    (λ n. let not_last = eqb-false (length f.rest) 511 n in rw n
    (record { each = is.each; whole = whole; short = omega arith }))

all_fed : (bytes more : List ℕ) (f : FeedRead) → IsFed bytes f → IsFed (bytes ++ more) (feed_from f more)
all_fed bytes [] f is = subst (λ l. IsFed l f) (sym (append-nil bytes)) is
all_fed bytes (b ∷ more) f is =
    subst (λ l. IsFed l (feed_from (feed_byte f b) more)) (append_assoc bytes (b ∷ []) more)
    (all_fed (bytes ++ b ∷ []) more (feed_byte f b) (byte_fed bytes b f is))

is_fed : (bytes : List ℕ) → IsFed bytes (feed_of bytes)
is_fed bytes = all_fed [] bytes (record { records = []; rest = [] })
    (record { each = All-nil IsRecord; whole = refl; short = omega arith })

pub feed_law : (bytes : List ℕ) (f : FeedRead) → (feed_of bytes ≡ f) ↔ IsFeed bytes f.records f.rest
feed_law bytes f = (
  λ e. subst (IsFed bytes) e (is_fed bytes),
  λ is. let same = one_feed bytes (feed_of bytes).records f.records (feed_of bytes).rest f.rest
      (is_fed bytes) is in same_read (feed_of bytes) f same.pieces same.rest,
)
  where
    same_read : (g f : FeedRead) → g.records ≡ f.records → g.rest ≡ f.rest → g ≡ f
    same_read g f e e' = rw (e, e')
