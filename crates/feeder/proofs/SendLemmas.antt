-- What a sender has read, and what of it was written.
use Rattle.std.proofs.Common.{◌≡◌, ◌≤◌, ℕ, ◌+◌, ◌-◌, ◌*◌, ◌/◌, ◌%◌, ◌^◌, ◌<◌, min, List, [], ◌∷◌, ◌++◌}
use Rattle.std.proofs.Common.{length, take, drop, refl, sym, ap, subst, ◌∙◌, arith, append_assoc, append-nil, Some}
use Rattle.std.proofs.Common.{None, Option, IfSome, length-append, length-drop, take-append-drop, All}
use Rattle.std.specs.List.{concat}
use Rattle.std.specs.Io.KnownBytes.{Appends, Consumes, IsAtEnd}
use Rattle.std.proofs.KnownBytes.{Appends-nil, Appends-trans, Consumes-nil, Consumes-trans}
use Rattle.std.proofs.Math.Seq.{take-append_seam, length-take-le, take-add}
use Rattle.std.proofs.lemmas.List.{drop-take, nil_from_length, take-append-le, take-take}
use Rattle.std.proofs.lemmas.List.Elements.{All-head, All-tail}
use Rattle.sl_io.specs.Known.{AppendsBeginning}
use Rattle.protocol.specs.Streams.{IsFeed, feed_of}
use Rattle.protocol.proofs.Feeds.{feed_law}
use Rattle.feeder.specs.Sending.{Passes, Breaks, capped, front, back, whole_part}

-- ---- whole records and what is left over

concat-512 : (records : List (List ℕ)) → All (λ r. length r ≡ 512) records
    → length (concat records) ≡ 512 * length records
concat-512 [] each = refl
concat-512 (r ∷ records) each =
    let here : length r ≡ 512 = All-head (λ r. length r ≡ 512) r records each in
    let more = concat-512 records (All-tail (λ r. length r ≡ 512) r records each) in
    let sum : length (r ++ concat records) ≡ length r + length (concat records) = length-append r (concat records) in
    omega (arith, here, more, sum)

pub feed_is : (bytes : List ℕ) → IsFeed bytes (feed_of bytes).records (feed_of bytes).rest
feed_is bytes = (feed_law bytes (feed_of bytes)).0 refl

-- How many records there are, and how many bytes are left over, is said by their count.
record Counts (bytes : List ℕ) (k r : ℕ) : Type 0 where
  records : length (feed_of bytes).records ≡ k
  rest : length (feed_of bytes).rest ≡ r
  whole : length (whole_part bytes) ≡ 512 * k

counts : (bytes : List ℕ) (k r : ℕ) → length bytes ≡ 512 * k + r → r < 512 → Counts bytes k r
counts bytes k r size short =
    let is = feed_is bytes in
    let all : length (concat (feed_of bytes).records ++ (feed_of bytes).rest) ≡ length bytes = ap length is.whole in
    let sum : length (concat (feed_of bytes).records ++ (feed_of bytes).rest)
    ≡ length (concat (feed_of bytes).records) + length (feed_of bytes).rest = length-append _ _ in
    let whole : length (concat (feed_of bytes).records) ≡ 512 * length (feed_of bytes).records = concat-512 _ is.each in
    let rest : length (feed_of bytes).rest < 512 = is.short in
    let same : length (feed_of bytes).records ≡ k = omega (arith, all, sum, whole, rest, size, short) in
    record {
      records = same;
      rest = omega (arith, all, sum, whole, rest, size, short, same);
      whole = omega (arith, whole, same);
    }

-- Bytes of so many records, with fewer bytes than one after them: those are the whole ones.
pub whole_is : (done rest : List ℕ) (k : ℕ) → length done ≡ 512 * k → length rest < 512
    → whole_part (done ++ rest) ≡ done
whole_is done rest k size short =
    let bytes = done ++ rest in
    let sum : length (done ++ rest) ≡ length done + length rest = length-append done rest in
    let c = counts bytes k (length rest) (omega (arith, sum, size)) short in
    let n : length (whole_part bytes) ≡ length done = c.whole ∙ sym size in
    sym (take-append_seam (whole_part bytes) (feed_of bytes).rest)
    ∙ ap (take (length (whole_part bytes))) (feed_is bytes).whole
    ∙ ap (λ m. take m (done ++ rest)) n
    ∙ take-append_seam done rest

-- The whole records of more bytes begin with those of the first.
pub whole_begins : (done more : List ℕ) (k : ℕ) → length done ≡ 512 * k
    → (tail : List ℕ) × (whole_part (done ++ more) ≡ done ++ tail)
whole_begins done more k size =
    let bytes = done ++ more in
    let w = whole_part bytes in
    let n = length done in
    let is = feed_is bytes in
    let sum : length (done ++ more) ≡ length done + length more = length-append done more in
    let all : length (w ++ (feed_of bytes).rest) ≡ length bytes = ap length is.whole in
    let parts : length (w ++ (feed_of bytes).rest) ≡ length w + length (feed_of bytes).rest = length-append w _ in
    let whole : length w ≡ 512 * length (feed_of bytes).records = concat-512 _ is.each in
    let short : length (feed_of bytes).rest < 512 = is.short in
    let fits : n ≤ length w = omega (arith, sum, all, parts, whole, short, size) in
    let first : take n w ≡ done =
    sym (take-append-le n w (feed_of bytes).rest fits) ∙ ap (take n) is.whole ∙ take-append_seam done more in
    (drop n w, sym (take-append-drop n w) ∙ ap (λ l. l ++ drop n w) first)

-- ---- one read after the other

-- So many whole records were read and written, and these bytes of an unfinished one are held.
pub record SoFar (left left' written written' : Option (List ℕ)) (held : List ℕ) (count : ℕ) : Type 0 where
  pub done : List ℕ
  pub consumes : Consumes left left' (done ++ held)
  pub appends : Appends written written' done
  pub size : length done ≡ 512 * count
  pub short : length held < 512

pub nothing_sent : (left written : Option (List ℕ)) → SoFar left left written written [] 0
nothing_sent left written = record {
  done = [];
  consumes = Consumes-nil left;
  appends = Appends-nil written;
  size = refl;
  short = omega arith;
}

front-length : (bytes : List ℕ) → length (front bytes) ≡ length bytes - length bytes % 512
front-length bytes = length-take-le (length bytes - length bytes % 512) bytes (omega arith)

pub goes_on : (left left' left'' written written' written'' : Option (List ℕ)) (held held' : List ℕ) (count n : ℕ) →
    SoFar left left' written written' held count → Passes left' left'' written' written'' held held' n →
    SoFar left left'' written written'' held' (count + (length held + n) / 512)
goes_on left left' left'' written written' written'' held held' count n s p =
    let all = held ++ p.piece in
    let sum : length all ≡ length held + length p.piece = length-append held p.piece in
    let whole : length (front all) ≡ length all - length all % 512 = front-length all in
    let joined : length (s.done ++ front all) ≡ length s.done + length (front all) = length-append s.done (front all) in
    let so_far : length s.done ≡ 512 * count = s.size in
    let size : length p.piece ≡ n = p.size in
    let rest : length (back all) ≡ length all - (length all - length all % 512) = length-drop
    (length all - length all % 512) all in
    let parts : front all ++ back all ≡ all = take-append-drop (length all - length all % 512) all in
    record {
      done = s.done ++ front all;
      consumes =
          subst (Consumes left left'')
          (append_assoc s.done held p.piece ∙ ap (λ l. s.done ++ l) (sym parts)
          ∙ sym (append_assoc s.done (front all) (back all))
          ∙ ap (λ l. (s.done ++ front all) ++ l) (sym p.is_held))
          (Consumes-trans left left' left'' (s.done ++ held) p.piece s.consumes p.consumes);
      appends = Appends-trans written written' written'' s.done (front all) s.appends p.appends;
      size = omega (arith, sum, whole, joined, so_far, size);
      short = subst (λ (l : List ℕ). length l < 512) (sym p.is_held) (omega (arith, rest));
    }

-- ---- what it says of the whole

pub ends : (left left' written written' : Option (List ℕ)) (held : List ℕ) (count : ℕ)
    → SoFar left left' written written' held count →
    IsAtEnd left'
    → IfSome left (λ bytes. Appends written written' (whole_part bytes) × (length (feed_of bytes).records ≡ count)
    × (length (feed_of bytes).rest ≡ length held))
ends None left' written written' held count s end = tt
ends (Some bytes) None written written' held count s end = absurd s.consumes
ends (Some bytes) (Some more) written written' held count s end =
    let whole : bytes ≡ s.done ++ held = s.consumes ∙ ap (λ l. (s.done ++ held) ++ l) end
    ∙ append-nil (s.done ++ held) in
    let sum : length (s.done ++ held) ≡ length s.done + length held = length-append s.done held in
    let so_far : length s.done ≡ 512 * count = s.size in
    let c = counts (s.done ++ held) count (length held) (omega (arith, sum, so_far)) s.short in (
      subst (Appends written written')
          (sym (ap whole_part whole ∙ whole_is s.done held count s.size s.short)) s.appends,
      ap (λ b. length (feed_of b).records) whole ∙ c.records,
      ap (λ b. length (feed_of b).rest) whole ∙ c.rest,
    )

pub begins : (left left' written written' : Option (List ℕ)) (held : List ℕ) (count : ℕ)
    → SoFar left left' written written' held count →
    IfSome left (λ bytes. AppendsBeginning written written' (whole_part bytes))
begins None left' written written' held count s = tt
begins (Some bytes) None written written' held count s = absurd s.consumes
begins (Some bytes) (Some more) written written' held count s =
    let t = whole_begins s.done (held ++ more) count s.size in
    (s.done, t.0, ap whole_part (s.consumes ∙ append_assoc s.done held more) ∙ t.1, s.appends)

pub breaks : (left left' left'' written written' written'' : Option (List ℕ)) (held : List ℕ) (count : ℕ) →
    SoFar left left' written written' held count → Breaks left' left'' written' written'' held →
    IfSome left (λ bytes. AppendsBeginning written written'' (whole_part bytes))
breaks None left' left'' written written' written'' held count s b = tt
breaks (Some bytes) None left'' written written' written'' held count s b = absurd s.consumes
breaks (Some bytes) (Some more) None written written' written'' held count s b = absurd b.consumes
breaks (Some bytes) (Some more) (Some last) written written' written'' held count s b =
    let all = held ++ b.piece in
    let done = s.done ++ front all in
    let whole : length (front all) ≡ length all - length all % 512 = front-length all in
    let joined : length done ≡ length s.done + length (front all) = length-append s.done (front all) in
    let so_far : length s.done ≡ 512 * count = s.size in
    let size : length done ≡ 512 * (count + length all / 512) = omega (arith, whole, joined, so_far) in
    let parts : front all ++ back all ≡ all = take-append-drop (length all - length all % 512) all in
    let t = whole_begins done (back all ++ last) (count + length all / 512) size in
    let bytes_are : bytes ≡ done ++ (back all ++ last) =
    s.consumes ∙ ap (λ l. (s.done ++ held) ++ l) b.consumes ∙ append_assoc s.done held (b.piece ++ last)
    ∙ ap (λ l. s.done ++ l) (sym (append_assoc held b.piece last) ∙ ap (λ l. l ++ last) (sym parts)
    ∙ append_assoc (front all) (back all) last)
    ∙ sym (append_assoc s.done (front all) (back all ++ last)) in
    let begun = b.begun in (
      s.done ++ begun.0,
      begun.1 ++ t.0,
      ap whole_part bytes_are ∙ t.1 ∙ ap (λ l. (s.done ++ l) ++ t.0) begun.2 ∙ simp append_assoc,
      Appends-trans written written' written'' s.done begun.0 s.appends begun.3,
    )

-- ---- one read

-- what was held and what was read behind it, in the block
in_block : (block held : List ℕ) (n : ℕ) → take (length held) block ≡ held → length held + n ≤ length block →
    take (length held + n) block ≡ held ++ take n (drop (length held) block)
in_block block held n start bound = take-add (length held) n block
    ∙ ap (λ l. l ++ take n (drop (length held) block)) start

total : (block held : List ℕ) (n : ℕ) → take (length held) block ≡ held → length held + n ≤ length block →
    length (held ++ take n (drop (length held) block)) ≡ length held + n
total block held n start bound =
    ap length (sym (in_block block held n start bound)) ∙ length-take-le (length held + n) block bound

-- the whole records, and what is left over, as they stand in the block
front_in : (block held : List ℕ) (n : ℕ) → take (length held) block ≡ held → length held + n ≤ length block →
    take ((length held + n) - (length held + n) % 512) block ≡ front (held ++ take n (drop (length held) block))
front_in block held n start bound =
    let t = length held + n in
    sym (take-take (t - t % 512) t block (omega arith))
    ∙ ap (take (t - t % 512)) (in_block block held n start bound)
    ∙ ap (λ m. take (m - m % 512) (held ++ take n (drop (length held) block))) (sym (total block held n start bound))

back_in : (block held : List ℕ) (n : ℕ) → take (length held) block ≡ held → length held + n ≤ length block →
    take ((length held + n) % 512) (drop ((length held + n) - (length held + n) % 512) block)
    ≡ back (held ++ take n (drop (length held) block))
back_in block held n start bound =
    let t = length held + n in
    let sum : (t - t % 512) + t % 512 ≡ t = omega arith in
    sym (drop-take (t - t % 512) (t % 512) block)
    ∙ ap (λ m. drop (t - t % 512) (take m block)) sum
    ∙ ap (drop (t - t % 512)) (in_block block held n start bound)
    ∙ ap (λ m. drop (m - m % 512) (held ++ take n (drop (length held) block))) (sym (total block held n start bound))

pub passes : (left left' written written' : Option (List ℕ)) (block held out over rest : List ℕ) (h n : ℕ)
    → length held ≡ h →
    take (length held) block ≡ held → length held + n ≤ length block →
    Consumes left left' (take n (drop (length held) block)) → out ≡ take ((h + n) - (h + n) % 512) block
    → Appends written written' out →
    over ≡ take ((h + n) % 512) (drop ((h + n) - (h + n) % 512) block) → take (length over) rest ≡ over →
    Passes left left' written written' held (take ((h + n) % 512) rest) n
passes left left' written written' block held out over rest h n size start bound consumed out_is appends over_is kept =
    let piece = take n (drop (length held) block) in
    let size' : (h + n) ≡ length held + n = omega (arith, size) in
    let dropped : length (drop (length held) block) ≡ length block - length held = length-drop (length held) block in
    let over' : over ≡ back (held ++ piece) =
    over_is ∙ ap (λ t. take (t % 512) (drop (t - t % 512) block)) size' ∙ back_in block held n start bound in
    let back_length : length (back (held ++ piece))
    ≡ length (held ++ piece) - (length (held ++ piece) - length (held ++ piece) % 512) =
    length-drop (length (held ++ piece) - length (held ++ piece) % 512) (held ++ piece) in
    let whole : length (held ++ piece) ≡ length held + n = total block held n start bound in
    let over_length : (h + n) % 512 ≡ length over = omega (arith, ap length over', back_length, whole, size') in
    record {
      piece = piece;
      size = length-take-le n (drop (length held) block) (omega (arith, dropped, bound));
      consumes = consumed;
      appends =
          subst (Appends written written')
          (out_is ∙ ap (λ t. take (t - t % 512) block) size' ∙ front_in block held n start bound) appends;
      is_held = ap (λ m. take m rest) over_length ∙ kept ∙ over';
    }

pub breaks_off : (left left' written written' : Option (List ℕ)) (block held out : List ℕ) (h n : ℕ) → length held ≡ h →
    take (length held) block ≡ held → length held + n ≤ length block →
    Consumes left left' (take n (drop (length held) block)) → out ≡ take ((h + n) - (h + n) % 512) block →
    AppendsBeginning written written' out → Breaks left left' written written' held
breaks_off left left' written written' block held out h n size start bound consumed out_is begun =
    let piece = take n (drop (length held) block) in
    let size' : (h + n) ≡ length held + n = omega (arith, size) in
    record {
      piece = piece;
      consumes = consumed;
      begun =
          subst (AppendsBeginning written written')
          (out_is ∙ ap (λ t. take (t - t % 512) block) size' ∙ front_in block held n start bound) begun;
    }

-- ---- the end of the input

if_some : {A : Type 0} (o : Option A) (P Q : A → Type 0) → ((x : A) → P x → Q x) → IfSome o P → IfSome o Q
if_some None P Q f h = tt
if_some (Some x) P Q f h = f x h

-- what a last read that gives nothing says of the whole
abbrev IsWhole : Option (List ℕ) → Option (List ℕ) → (count rest : ℕ) → List ℕ → Type 0
IsWhole written written' count rest bytes =
    Appends written written' (whole_part bytes) × (length (feed_of bytes).records ≡ count)
    × (length (feed_of bytes).rest ≡ rest)

at_end : (left left' left'' written written' written'' : Option (List ℕ)) (held held' : List ℕ) (count n : ℕ) →
    SoFar left left' written written' held count → Passes left' left'' written' written'' held held' n → n ≡ 0
    → IsAtEnd left'' →
    IfSome left (IsWhole written written'' count (length held))
at_end left left' left'' written written' written'' held held' count n s p none end =
    let all = held ++ p.piece in
    let sum : length all ≡ length held + length p.piece = length-append held p.piece in
    let size : length p.piece ≡ n = p.size in
    let short : length held < 512 = s.short in
    let over : length (back all) ≡ length all - (length all - length all % 512) = length-drop
    (length all - length all % 512) all in
    let over' : length held' ≡ length (back all) = ap length p.is_held in
    let same : length held' ≡ length held = omega (arith, sum, size, none, short, over, over') in
    let more : count + (length held + n) / 512 ≡ count = omega (arith, none, short) in
    if_some left _ _ (λ bytes h. (h.0, h.1 ∙ more, h.2 ∙ same))
    (ends left left'' written written'' held' _
    (goes_on left left' left'' written written' written'' held held' count n s p) end)

module _ (left left' left'' written written' written'' : Option (List ℕ)) (held held' : List ℕ) (count n : ℕ)
    (s : SoFar left left' written written' held count) (p : Passes left' left'' written' written'' held held' n)
    (none : n ≡ 0)
    (end : IsAtEnd left'') where
  whole : IfSome left (IsWhole written written'' count (length held))
  whole = at_end left left' left'' written written' written'' held held' count n s p none end

  pub count_at_end : (sent : ℕ) → sent ≡ capped count
      → IfSome left (λ bytes. sent ≡ capped (length (feed_of bytes).records))
  count_at_end sent e = if_some left _ _ (λ bytes h. e ∙ ap capped (sym h.1)) whole

  pub written_at_end : IfSome left (λ bytes. Appends written written'' (whole_part bytes))
  written_at_end = if_some left _ _ (λ bytes h. h.0) whole

  pub nothing_left : length held ≡ 0 → IfSome left (λ bytes. (feed_of bytes).rest ≡ [])
  nothing_left e = if_some left _ _ (λ bytes h. nil_from_length (feed_of bytes).rest (h.2 ∙ e)) whole

  pub partial_at_end : 0 < length held →
      IfSome left (λ bytes. Appends written written'' (whole_part bytes) × (0 < length (feed_of bytes).rest))
  partial_at_end some = if_some left _ _ (λ bytes h. (h.0, subst (λ m. 0 < m) (sym h.2) some)) whole

  pub begins_at_end : IfSome left (λ bytes. AppendsBeginning written written'' (whole_part bytes))
  begins_at_end = if_some left _ _ (λ bytes h. (whole_part bytes, [], sym (append-nil (whole_part bytes)), h.0)) whole

-- the count of records, as it is kept
pub more_sent : (sent sent' count more : ℕ) → sent ≡ capped count → sent' ≡ min (sent + more) (2 ^ 64 - 1)
    → sent' ≡ capped (count + more)
more_sent sent sent' count more e e' = omega (arith, e, e')
