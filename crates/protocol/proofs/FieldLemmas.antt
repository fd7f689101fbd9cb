-- Fields in range are spelled by their layout, but for three days of one year in little order.
use Rattle.std.proofs.Common.{⊎_elim, ◌≡◌, ℕ, zero, suc, ◌+◌, ◌-◌, ◌*◌, ◌/◌, ◌%◌, ◌≤◌, List, [], ◌∷◌, ◌++◌, length}
use Rattle.std.proofs.Common.{take, drop, get_or, replicate, Option, Some, None, pos, ◌+ℤ◌, refl, sym, ap, ap₂, ◌∙◌}
use Rattle.std.proofs.Common.{arith, subst, inl, inr, length-append}
use Rattle.std.specs.Prelude.{All, ◌⊎◌, slice_range, slice_index}
use Rattle.std.proofs.lemmas.List.{length-replicate, get_or-drop}
use Rattle.std.proofs.Math.Seq.{take-append_seam, drop-append-add}
use Rattle.std.proofs.lemmas.List.Elements.{All-nil, All-cons, All-head, All-tail, All-push}
use Rattle.protocol.specs.Record.{padded}
use Rattle.protocol.specs.declared.record.ByteOrder.{ByteOrder}
use Rattle.protocol.specs.Record.{Facts, word, start_of, ticks_of, quotient, kind_of}
use Rattle.protocol.specs.declared.record.ByteOrder.TheVariants.{Big, Little}
use Rattle.protocol.specs.Reading.{Not, IsSequenceByte, IsCodeIn, HasDate, IsOrderOf, IsLate, Fits, IsChain, IsFirst}
use Rattle.protocol.specs.Reading.{Is1000, HasFacts}
use Rattle.protocol.specs.Made.{Fields, numbers_of, layout_of, start_asked, IsCodeByte, IsInRange, Spells, IsAmbiguous}
use Rattle.protocol.specs.Made.{extra_offset, decimal, made}
use Rattle.protocol.proofs.Codes.{ticks_under, rounded_down}
use Rattle.protocol.proofs.KindRules.{kind_is}
use Rattle.protocol.proofs.MadeLemmas.{made_law}
use Rattle.protocol.proofs.Headers.{one_order}
use Rattle.std.proofs.lemmas.Bool.{cases_eq}

-- ---- codes
padded-length : (k : ℕ) (bs : List ℕ) → length bs ≤ k → length (padded k bs) ≡ k
padded-length k bs within = rw (length-append bs (replicate (k - length bs) 32), length-replicate) (omega arith)

all_last : (P : ℕ → Type 0) (front : List ℕ) (b : ℕ) → All P (front ++ b ∷ []) → P b
all_last P [] b each = All-head P b [] each
all_last P (c ∷ front) b each = all_last P front b (All-tail P c (front ++ b ∷ []) each)

space_is_no_code : Not (IsCodeByte 32)
space_is_no_code (inl h) = let low : 65 ≤ 32 = h.0 in omega arith
space_is_no_code (inr h) = let low : 48 ≤ 32 = h.0 in omega arith

code_in : (k : ℕ) (bs : List ℕ) → All IsCodeByte bs → IsCodeIn (padded k bs) bs
code_in k bs each = record {
  spaces = k - length bs;
  padded = refl;
  no_space_last = λ front e. space_is_no_code (all_last IsCodeByte front 32 (subst (All IsCodeByte) e each));
}

-- ---- a field behind others
dropped : (k n : ℕ) (xs ys : List ℕ) → length xs ≡ k → drop (k + n) (xs ++ ys) ≡ drop n ys
dropped k n xs ys size = subst (λ i. drop (i + n) (xs ++ ys) ≡ drop n ys) size (drop-append-add xs ys n)

taken : (k : ℕ) (xs ys : List ℕ) → length xs ≡ k → take k (xs ++ ys) ≡ xs
taken k xs ys size = subst (λ i. take i (xs ++ ys) ≡ xs) size (take-append_seam xs ys)

module _ (f : Fields) (h : IsInRange f) where
  abbrev Rest : List ℕ
  Rest = numbers_of f.order f ++ []

  station_size : length (padded 5 f.station) ≡ 5
  station_size = padded-length 5 f.station h.station.1

  location_size : length (padded 2 f.location) ≡ 2
  location_size = padded-length 2 f.location h.location.1

  channel_size : length (padded 3 f.channel) ≡ 3
  channel_size = padded-length 3 f.channel h.channel.1

  network_size : length (padded 2 f.network) ≡ 2
  network_size = padded-length 2 f.network h.network.1

  station-at : slice_range (layout_of f) 8 13 ≡ padded 5 f.station
  station-at = taken 5 (padded 5 f.station) _ station_size

  from_13 : drop 13 (layout_of f) ≡ padded 2 f.location ++ (padded 3 f.channel ++ (padded 2 f.network ++ Rest))
  from_13 = dropped 5 0 (padded 5 f.station) _ station_size

  from_15 : drop 15 (layout_of f) ≡ padded 3 f.channel ++ (padded 2 f.network ++ Rest)
  from_15 = dropped 5 2 (padded 5 f.station) _ station_size ∙ dropped 2 0 (padded 2 f.location) _ location_size

  from_18 : drop 18 (layout_of f) ≡ padded 2 f.network ++ Rest
  from_18 = dropped 5 5 (padded 5 f.station) _ station_size ∙ dropped 2 3 (padded 2 f.location) _ location_size
      ∙ dropped 3 0 (padded 3 f.channel) _ channel_size

  from_20 : drop 20 (layout_of f) ≡ Rest
  from_20 = dropped 5 7 (padded 5 f.station) _ station_size ∙ dropped 2 5 (padded 2 f.location) _ location_size
      ∙ dropped 3 2 (padded 3 f.channel) _ channel_size ∙ dropped 2 0 (padded 2 f.network) _ network_size

  location-at : slice_range (layout_of f) 13 15 ≡ padded 2 f.location
  location-at = ap (λ l. take 2 l) from_13 ∙ taken 2 (padded 2 f.location) _ location_size

  channel-at : slice_range (layout_of f) 15 18 ≡ padded 3 f.channel
  channel-at = ap (λ l. take 3 l) from_15 ∙ taken 3 (padded 3 f.channel) _ channel_size

  network-at : slice_range (layout_of f) 18 20 ≡ padded 2 f.network
  network-at = ap (λ l. take 2 l) from_18 ∙ taken 2 (padded 2 f.network) _ network_size

  byte-at : (i : ℕ) → slice_index (layout_of f) (20 + i) ≡ slice_index Rest i
  byte-at i = sym (get_or-drop 20 (layout_of f) i 0) ∙ ap (λ l. get_or l i 0) from_20

-- ---- the numbers from offset 20 on
module _ (f : Fields) where
  abbrev Numbers : ByteOrder → List ℕ
  Numbers o = numbers_of o f ++ []

  year-at : (o : ByteOrder) → word o (Numbers o) 0 ≡ f.year
  year-at Big = omega arith
  year-at Little = omega arith

  day-at : (o : ByteOrder) → word o (Numbers o) 2 ≡ f.day
  day-at Big = omega arith
  day-at Little = omega arith

  hour-at : (o : ByteOrder) → slice_index (Numbers o) 4 ≡ f.hour
  hour-at Big = refl
  hour-at Little = refl

  minute-at : (o : ByteOrder) → slice_index (Numbers o) 5 ≡ f.minute
  minute-at Big = refl
  minute-at Little = refl

  second-at : (o : ByteOrder) → slice_index (Numbers o) 6 ≡ f.second
  second-at Big = refl
  second-at Little = refl

  fraction-at : (o : ByteOrder) → word o (Numbers o) 8 ≡ f.fraction
  fraction-at Big = omega arith
  fraction-at Little = omega arith

  samples-at : (o : ByteOrder) → word o (Numbers o) 10 ≡ f.samples
  samples-at Big = omega arith
  samples-at Little = omega arith

  first-at : (o : ByteOrder) → word o (Numbers o) 26 ≡ 48
  first-at Big = refl
  first-at Little = refl

  next-at : (o : ByteOrder) → word o (Numbers o) 30 ≡ extra_offset f.extra
  next-at Big = omega arith
  next-at Little = omega arith

  type-at : (o : ByteOrder) → word o (Numbers o) 28 ≡ 1000
  type-at Big = refl
  type-at Little = refl

  length-at : (o : ByteOrder) → slice_index (Numbers o) 34 ≡ 9
  length-at Big = refl
  length-at Little = refl

-- the chain, with the extra blockette or without
abbrev offsets_with : Option ℕ → List ℕ
offsets_with None = 48 ∷ []
offsets_with (Some type) = 48 ∷ 56 ∷ []

last_none : (f : Fields) (type : ℕ) (o : ByteOrder)
    → word o (numbers_of o (record f { extra = Some type }) ++ []) 38 ≡ 0
last_none f type Big = refl
last_none f type Little = refl

-- ---- the same numbers, at their places in the record
module _ (f : Fields) (h : IsInRange f) where
  next_byte-at : (i : ℕ) → slice_index (layout_of f) (20 + i + 1) ≡ slice_index (numbers_of f.order f ++ []) (i + 1)
  next_byte-at i = let shift : 20 + i + 1 ≡ 20 + (i + 1) = omega arith in ap (λ k. slice_index (layout_of f) k) shift
      ∙ byte-at f h (i + 1)

  word-at : (o : ByteOrder) (i : ℕ) → word o (layout_of f) (20 + i) ≡ word o (numbers_of f.order f ++ []) i
  word-at Big i = ap₂ (λ x y. 256 * x + y) (byte-at f h i) (next_byte-at i)
  word-at Little i = ap₂ (λ x y. x + 256 * y) (byte-at f h i) (next_byte-at i)

  -- in the order of the fields
  own_word : (i n : ℕ) → ((o : ByteOrder) → word o (numbers_of o f ++ []) i ≡ n)
      → word f.order (layout_of f) (20 + i) ≡ n
  own_word i n at_order = word-at f.order i ∙ at_order f.order

  own_byte : (i n : ℕ) → ((o : ByteOrder) → slice_index (numbers_of o f ++ []) i ≡ n)
      → slice_index (layout_of f) (20 + i) ≡ n
  own_byte i n at_order = byte-at f h i ∙ at_order f.order

-- ---- the order of bytes
ambiguous_year : (y : ℕ) → 1900 ≤ y → y ≤ 2100 → 1900 ≤ 256 * (y % 256) + y / 256 → 256 * (y % 256) + y / 256 ≤ 2100
    → y ≡ 2056
ambiguous_year y low high low' high' = omega arith

ambiguous_day : (d : ℕ) → 1 ≤ d → d ≤ 366 → 1 ≤ 256 * (d % 256) + d / 256 → 256 * (d % 256) + d / 256 ≤ 366
    → (d ≡ 1) ⊎ (d ≡ 256) ⊎ (d ≡ 257)
ambiguous_day d low high low' high' =
    ⊎_elim (λ is. inl is) (λ other. ⊎_elim (λ is. inr (inl is)) (λ other'. inr (inr (omega arith))) (cases_eq d 256))
    (cases_eq d 1)

module _ (f : Fields) (h : IsInRange f) where
  date_in : HasDate f.order (layout_of f)
  date_in =
      let year = own_word f h 0 f.year (year-at f) in
      let day = own_word f h 2 f.day (day-at f) in
      let years = h.year in
      let days = h.day in
      (rw year years.0, rw year years.1, rw day days.0, rw day days.1)

  -- a date in big order of bytes in little order
  big_date : f.order ≡ Little → HasDate Big (layout_of f) → IsAmbiguous f
  big_date e date =
      let year : word Big (layout_of f) 20 ≡ 256 * (f.year % 256) + f.year / 256 = word-at f h Big 0
      ∙ subst (λ o. word Big (numbers_of o f ++ []) 0 ≡ 256 * (f.year % 256) + f.year / 256) (sym e) refl in
      let day : word Big (layout_of f) 22 ≡ 256 * (f.day % 256) + f.day / 256 = word-at f h Big 2
      ∙ subst (λ o. word Big (numbers_of o f ++ []) 2 ≡ 256 * (f.day % 256) + f.day / 256) (sym e) refl in (
        e,
        ambiguous_year f.year h.year.0 h.year.1 (rw year at date.0) (rw year at date.1),
        ambiguous_day f.day h.day.0 h.day.1 (rw day at date.2) (rw day at date.3),
      )

  order_in : Not (IsAmbiguous f) → (o : ByteOrder) → f.order ≡ o → HasDate o (layout_of f) → IsOrderOf (layout_of f) o
  order_in clear Big e date = date
  order_in clear Little e date = (λ big. clear (big_date e big), date)

-- ---- the rest of the facts
decimal_digits : (n k : ℕ) → All IsSequenceByte (decimal n k)
decimal_digits zero k = All-nil IsSequenceByte
decimal_digits (suc n) k = All-push IsSequenceByte (decimal n (k / 10)) (48 + k % 10) (decimal_digits n (k / 10))
    (inr (inr (omega arith, omega arith)))

module _ (f : Fields) (h : IsInRange f) where
  sequence_in : All IsSequenceByte (take 6 (layout_of f))
  sequence_in = decimal_digits 6 f.sequence

  not_late_in : Not (IsLate f.order (layout_of f))
  not_late_in (inl late) = let at = own_byte f h 4 f.hour (hour-at f) in let high = h.hour in omega arith
  not_late_in (inr (inl late)) = let at = own_byte f h 5 f.minute (minute-at f) in let high = h.minute in omega arith
  not_late_in (inr (inr (inl late))) = let at = own_byte f h 6 f.second (second-at f) in let high =
      h.second in omega arith
  not_late_in (inr (inr (inr late))) = let at = own_word f h 8 f.fraction (fraction-at f) in let high =
      h.fraction in omega arith

  next_is : (x : Option ℕ) → f.extra ≡ x → word f.order (layout_of f) 50 ≡ extra_offset x
  next_is x e = own_word f h 30 (extra_offset f.extra) (next-at f) ∙ ap extra_offset e

  no_more : (type : ℕ) → f.extra ≡ Some type → word f.order (layout_of f) 58 ≡ 0
  no_more type e =
      own_word f h 38 0
      (λ o. subst (λ x. word o (numbers_of o (record f { extra = x }) ++ []) 38 ≡ 0) (sym e) (last_none f type o))

  fits_at : (at : ℕ) → at + 8 ≤ 512 → Fits f.order (layout_of f) at
  fits_at at within = (omega arith, λ is. within)

  chain_in : (x : Option ℕ) → f.extra ≡ x → IsChain f.order (layout_of f) (offsets_with x)
  chain_in None e = record {
    follow = (own_word f h 26 48 (first-at f), next_is None e);
    rise = (omega arith, tt);
    fit = All-cons (Fits f.order (layout_of f)) 48 [] (fits_at 48 (omega arith)) (All-nil (Fits f.order (layout_of f)));
  }
  chain_in (Some type) e = record {
    follow = (own_word f h 26 48 (first-at f), (next_is (Some type) e, no_more type e));
    rise = (omega arith, (omega arith, tt));
    fit = All-cons (Fits f.order (layout_of f)) 48 (56 ∷ []) (fits_at 48 (omega arith))
        (All-cons (Fits f.order (layout_of f)) 56 [] (fits_at 56 (omega arith)) (All-nil (Fits f.order (layout_of f))));
  }

  first_in : (x : Option ℕ) → IsFirst (Is1000 f.order (layout_of f)) (offsets_with x) 48
  first_in None = record {
    before = [];
    after = [];
    whole = refl;
    here = own_word f h 28 1000 (type-at f);
    not_before = All-nil (λ other. Not (Is1000 f.order (layout_of f) other));
  }
  first_in (Some type) = record {
    before = [];
    after = 56 ∷ [];
    whole = refl;
    here = own_word f h 28 1000 (type-at f);
    not_before = All-nil (λ other. Not (Is1000 f.order (layout_of f) other));
  }

  start_in : start_of f.order (layout_of f) ≡ start_asked f
  start_in =
      let year = own_word f h 0 f.year (year-at f) in
      let day = own_word f h 2 f.day (day-at f) in
      let hour = own_byte f h 4 f.hour (hour-at f) in
      let minute = own_byte f h 5 f.minute (minute-at f) in
      let second = own_byte f h 6 f.second (second-at f) in
      let fraction = own_word f h 8 f.fraction (fraction-at f) in
      rw (year, day, hour, minute, second, fraction)

  abbrev spelled_facts : Facts
  spelled_facts = record {
    network = f.network;
    station = f.station;
    location = padded 2 f.location;
    channel = padded 3 f.channel;
    start = start_asked f;
    stop = start_asked f +ℤ pos (quotient (ticks_of f.order (layout_of f)));
    kind = kind_of f.order (layout_of f) (offsets_with f.extra);
    samples = f.samples;
    links = length (offsets_with f.extra);
  }

  facts_in_layout : Not (IsAmbiguous f) → HasFacts (layout_of f) spelled_facts
  facts_in_layout clear = record {
    sequence = sequence_in;
    quality = h.quality;
    order = f.order;
    is_order = order_in f h clear f.order refl (date_in f h);
    not_late = not_late_in;
    offsets = offsets_with f.extra;
    is_chain = chain_in f.extra refl;
    place_of_1000 = 48;
    is_1000 = first_in f.extra;
    length_byte = own_byte f h 34 9 (length-at f);
    station = rw (station-at f h) (code_in 5 f.station h.station.2);
    location = sym (location-at f h);
    channel = sym (channel-at f h);
    network = rw (network-at f h) (code_in 2 f.network h.network.2);
    start = sym start_in;
    ticks = quotient (ticks_of f.order (layout_of f));
    are_ticks = rounded_down (ticks_of f.order (layout_of f)) (ticks_under f.order (layout_of f));
    stop = refl;
    kind = kind_is f.order (layout_of f) (offsets_with f.extra);
    samples = sym (own_word f h 10 f.samples (samples-at f));
    links = refl;
  }

  pub spelled : Not (IsAmbiguous f) → made f ≡ Some (layout_of f)
  spelled clear = (made_law f (layout_of f)).1 (record {
    in_range = h;
    layout = refl;
    facts = spelled_facts;
    has_facts = facts_in_layout clear;
    has_fields = record {
      network = refl;
      station = refl;
      location = refl;
      channel = refl;
      start = refl;
      samples = refl;
    };
  })

  -- ---- the three days
  day_in_big : (d : ℕ) → (d ≡ 1) ⊎ (d ≡ 256) ⊎ (d ≡ 257)
      → (1 ≤ 256 * (d % 256) + d / 256) × (256 * (d % 256) + d / 256 ≤ 366)
  day_in_big d (inl is) = (omega arith, omega arith)
  day_in_big d (inr (inl is)) = (omega arith, omega arith)
  day_in_big d (inr (inr is)) = (omega arith, omega arith)

  big_date_in : IsAmbiguous f → HasDate Big (layout_of f)
  big_date_in ambiguous =
      let year : word Big (layout_of f) 20 ≡ 256 * (f.year % 256) + f.year / 256 = word-at f h Big 0
      ∙ subst (λ o. word Big (numbers_of o f ++ []) 0 ≡ 256 * (f.year % 256) + f.year / 256)
      (sym ambiguous.0) refl in
      let day : word Big (layout_of f) 22 ≡ 256 * (f.day % 256) + f.day / 256 = word-at f h Big 2
      ∙ subst (λ o. word Big (numbers_of o f ++ []) 2 ≡ 256 * (f.day % 256) + f.day / 256) (sym ambiguous.0) refl in
      let days = day_in_big f.day ambiguous.2 in
      let is = ambiguous.1 in
      (rw year (omega arith), rw year (omega arith), rw day days.0, rw day days.1)

  first_in_big : IsAmbiguous f → word Big (layout_of f) 46 ≡ 12288
  first_in_big ambiguous = word-at f h Big 26
      ∙ subst (λ o. word Big (numbers_of o f ++ []) 26 ≡ 12288) (sym ambiguous.0) refl

  no_chain_in : (first : ℕ) → first ≡ 12288 → (offsets : List ℕ) → word Big (layout_of f) 46 ≡ first
      → Not (IsChain Big (layout_of f) offsets)
  no_chain_in first is [] at chain = let none = chain.follow in omega arith
  no_chain_in first is (x ∷ offsets) at chain =
      let here = chain.follow.0 in
      let fit = All-head (Fits Big (layout_of f)) x offsets chain.fit in
      let within = fit.0 in
      omega arith

  no_facts : IsAmbiguous f → (x : Facts) → Not (HasFacts (layout_of f) x)
  no_facts ambiguous x facts =
      let order : facts.order ≡ Big = one_order (layout_of f) Big facts.order (big_date_in ambiguous) facts.is_order in
      no_chain_in 12288 refl facts.offsets (first_in_big ambiguous)
      (subst (λ o. IsChain o (layout_of f) facts.offsets) order facts.is_chain)

pub unspelled : (f : Fields) (r : List ℕ) → Spells f r → Not (IsAmbiguous f)
unspelled f r s ambiguous = no_facts f s.in_range ambiguous s.facts
    (subst (λ l. HasFacts l s.facts) (sym s.layout) s.has_facts)

unmade : (f : Fields) (found : Option (List ℕ)) → made f ≡ found → IsAmbiguous f → found ≡ None
unmade f None e ambiguous = refl
unmade f (Some r) e ambiguous = absurd (unspelled f r ((made_law f r).0 e) ambiguous)

pub not_made : (f : Fields) → IsAmbiguous f → made f ≡ None
not_made f ambiguous = unmade f (made f) refl ambiguous
