-- A record's facts, or its first fault, are what is read.
use Rattle.std.proofs.Common.{◌≡◌, ℕ, ◌+◌, ◌<◌, false, ◌==◌, List, take, Option, Some, None, Result, Ok, Err}
use Rattle.std.proofs.Common.{slice_index, slice_range, pos, ◌+ℤ◌, eqb-true, refl, sym, ap, subst, inl, inr, ⊎_elim}
use Rattle.std.proofs.Common.{arith, ◌∙◌}
use Rattle.std.specs.Prelude.{All, ◌⊎◌, ◌↔◌, if◌then◌else◌}
use Rattle.std.specs.List.{list_all}
use Rattle.std.specs.Bool.{Decides}
use Rattle.std.proofs.lemmas.Bool.{eqb-false, cases_order}
use Rattle.std.proofs.lemmas.Bool.Decides.{not_from_Decides, Decides-eqb}
use Rattle.protocol.specs.declared.record.ByteOrder.{ByteOrder}
use Rattle.protocol.specs.Record.{Facts, word, start_of, ticks_of, quotient, kind_of, trimmed, order_of, has_date}
use Rattle.protocol.specs.Record.{has_time, chain_of, first_of_type, facts_in, is_sequence_byte, is_quality}
use Rattle.protocol.specs.Record.{read_length, read_chain, read_in, header_of}
use Rattle.protocol.specs.declared.record.RecordFault.{RecordFault}
use Rattle.protocol.specs.declared.record.ByteOrder.TheVariants.{Big, Little}
use Rattle.protocol.specs.declared.record.RecordFault.TheVariants.{Sequence, Quality, Time, Blockettes, No1000, Length}
use Rattle.protocol.specs.Reading.{Not, IsSequenceByte, IsQuality, HasDate, IsOrderOf, IsLate, IsChain, IsFirst, Is1000}
use Rattle.protocol.specs.Reading.{HasFacts, IsTrueOf, IsFirstFault, fault_number}
use Rattle.protocol.proofs.FoundLemmas.{both}
use Rattle.protocol.proofs.TestLemmas.{decides-all, decides-sequence_byte, decides-quality, decides-date, decides-time}
use Rattle.protocol.proofs.TestLemmas.{late, some_fails, not_all, found_first, found_none, finds_first, finds_none}
use Rattle.protocol.proofs.Chains.{chain-sound, chain-complete}
use Rattle.protocol.proofs.Codes.{trimmed-code, code-trimmed, ticks_under, rounded_down, rounded-same}
use Rattle.protocol.proofs.KindRules.{kind_is, is_kind}

-- ---- the order of bytes
module _ (r : List ℕ) where
  order-sound : (o : ByteOrder) → order_of r ≡ Some o → IsOrderOf r o
  order-sound o e =
      both (has_date Big r)
      (λ y. let found : Some Big ≡ Some o = rw y at e in
      let same : Big ≡ o = cc in
      subst (IsOrderOf r) same ((decides-date Big r).0 y))
      (λ n. both (has_date Little r)
      (λ y. let found : Some Little ≡ Some o = rw (n, y) at e in
      let same : Little ≡ o = cc in
      subst (IsOrderOf r) same (not_from_Decides (has_date Big r) (decides-date Big r) n, (decides-date Little r).0 y))
      (λ m. absurd (let found : None ≡ Some o = rw (n, m) at e in cc)))

  no_date : (o : ByteOrder) → Not (HasDate o r) → has_date o r ≡ false
  no_date o none = both (has_date o r) (λ y. absurd (none ((decides-date o r).0 y))) (λ n. n)

  order-complete : (o : ByteOrder) → IsOrderOf r o → order_of r ≡ Some o
  order-complete Big date = rw ((decides-date Big r).1 date)
  order-complete Little date = rw (no_date Big date.0, (decides-date Little r).1 date.1)

  pub one_order : (o o' : ByteOrder) → IsOrderOf r o → IsOrderOf r o' → o' ≡ o
  one_order o o' is is' = let e = order-complete o is in let e' = order-complete o' is' in cc

  -- ---- facts are read
  decides-1000 : (o : ByteOrder) (at : ℕ) → Decides (word o r at == 1000) (Is1000 o r at)
  decides-1000 o at = Decides-eqb (word o r at) 1000

  same_facts : (x : Facts) (h : HasFacts r x) → facts_in h.order r h.offsets ≡ x
  same_facts x h =
      let network : trimmed (slice_range r 18 20) ≡ x.network = code-trimmed _ _ h.network in
      let station : trimmed (slice_range r 8 13) ≡ x.station = code-trimmed _ _ h.station in
      let kind : kind_of h.order r h.offsets ≡ x.kind = is_kind h.order r h.offsets x.kind h.kind in
      let ticks : quotient (ticks_of h.order r)
      ≡ h.ticks = rounded-same (ticks_of h.order r) h.ticks (ticks_under h.order r) h.are_ticks in
      let stop : start_of h.order r +ℤ pos (quotient (ticks_of h.order r))
      ≡ x.stop = rw (ticks, ← h.start) (sym h.stop) in
      let same : facts_in h.order r h.offsets ≡ record {
        network = x.network;
        station = x.station;
        location = x.location;
        channel = x.channel;
        start = x.start;
        stop = x.stop;
        kind = x.kind;
        samples = x.samples;
        links = x.links;
      } = rw (stop, network, station, kind, h.location, h.channel, h.start, h.samples, h.links) in
      same

  pub facts_read : (x : Facts) → HasFacts r x → header_of r ≡ Ok x
  facts_read x h =
      rw (
        (decides-all is_sequence_byte IsSequenceByte decides-sequence_byte (take 6 r)).1 h.sequence,
        (decides-quality (slice_index r 6)).1 h.quality,
        order-complete h.order h.is_order,
        (decides-time h.order r).1 h.not_late,
        chain-complete h.order r h.offsets h.is_chain,
        finds_first (λ at. word h.order r at == 1000) (Is1000 h.order r)
            (decides-1000 h.order) h.offsets h.place_of_1000 h.is_1000,
        h.length_byte,
      )
      (ap {B = Result Facts RecordFault} Ok (same_facts x h))

-- ---- the first fault
abbrev fault_with : ℕ → RecordFault
fault_with n =
    if n == 1 then Sequence else if n == 2 then Quality else if n == 3 then Time
    else if n == 4 then Blockettes else if n == 5 then No1000 else Length

fault_with-number : (f : RecordFault) → fault_with (fault_number f) ≡ f
fault_with-number Sequence = refl
fault_with-number Quality = refl
fault_with-number Time = refl
fault_with-number Blockettes = refl
fault_with-number No1000 = refl
fault_with-number Length = refl

one_number : (f g : RecordFault) → fault_number f ≡ fault_number g → f ≡ g
one_number f g e = sym (fault_with-number f) ∙ ap fault_with e ∙ fault_with-number g

faults_from_one : (g : RecordFault) → fault_number g < 1 → ⊥
faults_from_one Sequence low = omega arith
faults_from_one Quality low = omega arith
faults_from_one Time low = omega arith
faults_from_one Blockettes low = omega arith
faults_from_one No1000 low = omega arith
faults_from_one Length low = omega arith

below_seven : (g : RecordFault) → fault_number g < 7
below_seven Sequence = omega arith
below_seven Quality = omega arith
below_seven Time = omega arith
below_seven Blockettes = omega arith
below_seven No1000 = omega arith
below_seven Length = omega arith

at_or_below : (g f : RecordFault) → fault_number g < fault_number f + 1
    → (fault_number g ≡ fault_number f) ⊎ (fault_number g < fault_number f)
at_or_below g f low = grind arith

module _ (r : List ℕ) where
  -- no fault before the n-th
  abbrev NoneBefore : ℕ → Type 0
  NoneBefore n = (g : RecordFault) → fault_number g < n → Not (IsTrueOf r g)

  none_at_all : NoneBefore 1
  none_at_all g low = absurd (faults_from_one g low)

  one_more : (f : RecordFault) → NoneBefore (fault_number f) → Not (IsTrueOf r f) → NoneBefore (fault_number f + 1)
  one_more f before no_fault g low =
      ⊎_elim (λ same. subst (λ k. Not (IsTrueOf r k)) (sym (one_number g f same)) no_fault) (λ less. before g less)
      (at_or_below g f low)

  -- what shows that a fault isn't there
  no_quality_fault : IsQuality (slice_index r 6) → Not (IsTrueOf r Quality)
  no_quality_fault q fault = fault q

  no_time_fault : (o : ByteOrder) → IsOrderOf r o → Not (IsLate o r) → Not (IsTrueOf r Time)
  no_time_fault o is in_time (inl none) = none o is
  no_time_fault o is in_time (inr (o', is', is_late)) =
      in_time (subst (λ k. IsLate k r) (one_order r o o' is is') is_late)

  no_chain_fault : (o : ByteOrder) (offsets : List ℕ) → IsOrderOf r o → IsChain o r offsets
      → Not (IsTrueOf r Blockettes)
  no_chain_fault o offsets is chain (o', is', none) =
      none offsets (subst (λ k. IsChain k r offsets) (sym (one_order r o o' is is')) chain)

  one_chain : (o o' : ByteOrder) (offsets offsets' : List ℕ) → IsOrderOf r o → IsOrderOf r o' → IsChain o r offsets
      → IsChain o' r offsets' → offsets' ≡ offsets
  one_chain o o' offsets offsets' is is' chain chain' =
      let e = chain-complete o r offsets chain in
      let e' = chain-complete o r offsets' (subst (λ k. IsChain k r offsets') (one_order r o o' is is') chain') in
      cc

  no_1000_fault : (o : ByteOrder) (offsets : List ℕ) (at : ℕ) → IsOrderOf r o → IsChain o r offsets
      → IsFirst (Is1000 o r) offsets at → Not (IsTrueOf r No1000)
  no_1000_fault o offsets at is chain first (o', offsets', is', chain', none) =
      let e = finds_first (λ at. word o r at == 1000) (Is1000 o r) (decides-1000 r o) offsets at first in
      let none' : All (λ at. Not (Is1000 o r at)) offsets = subst (λ k. All (λ at. Not (Is1000 k r at)) offsets)
      (one_order r o o' is is')
      (subst (λ l. All (λ at. Not (Is1000 o' r at)) l) (one_chain o o' offsets offsets' is is' chain chain') none)
      in
      let e' = finds_none (λ at. word o r at == 1000) (Is1000 o r) (decides-1000 r o) offsets none' in
      absurd cc

  no_length_fault : (o : ByteOrder) (offsets : List ℕ) (at : ℕ) → IsOrderOf r o → IsChain o r offsets
      → IsFirst (Is1000 o r) offsets at → slice_index r (at + 6) ≡ 9 → Not (IsTrueOf r Length)
  no_length_fault o offsets at is chain first nine (o', offsets', at', is', chain', first', other) =
      let e = finds_first (λ at. word o r at == 1000) (Is1000 o r) (decides-1000 r o) offsets at first in
      let first'' : IsFirst (Is1000 o r) offsets at' = subst (λ k. IsFirst (Is1000 k r) offsets at')
      (one_order r o o' is is')
      (subst (λ l. IsFirst (Is1000 o' r) l at') (one_chain o o' offsets offsets' is is' chain chain') first') in
      let e' = finds_first (λ at. word o r at == 1000) (Is1000 o r) (decides-1000 r o) offsets at' first'' in
      let same : at ≡ at' = cc in
      other (subst (λ k. slice_index r (k + 6) ≡ 9) same nine)

  -- ---- what is read is the record's facts or its first fault
  abbrev Says : Result Facts RecordFault → Type 0
  Says (Ok x) = HasFacts r x
  Says (Err f) = IsFirstFault r f

  says_fault : (f : RecordFault) → IsTrueOf r f → NoneBefore (fault_number f) → IsFirstFault r f
  says_fault f here before = record { here = here; none_before = before }

  module _ (sequence : All IsSequenceByte (take 6 r)) (quality : IsQuality (slice_index r 6)) where
    before_time : NoneBefore 3
    before_time =
        one_more Quality (one_more Sequence none_at_all (λ fault. not_all IsSequenceByte (take 6 r) fault sequence))
        (no_quality_fault quality)

    module _ (o : ByteOrder) (is : IsOrderOf r o) (in_time : Not (IsLate o r)) where
      before_chain : NoneBefore 4
      before_chain = one_more Time before_time (no_time_fault o is in_time)

      module _ (offsets : List ℕ) (chain : IsChain o r offsets) where
        before_1000 : NoneBefore 5
        before_1000 = one_more Blockettes before_chain (no_chain_fault o offsets is chain)

        module _ (at : ℕ) (first : IsFirst (Is1000 o r) offsets at) where
          before_length : NoneBefore 6
          before_length = one_more No1000 before_1000 (no_1000_fault o offsets at is chain first)

          no_fault : slice_index r (at + 6) ≡ 9 → NoneBefore 7
          no_fault nine = one_more Length before_length (no_length_fault o offsets at is chain first nine)

          says_length : Says (read_length o r offsets (Some at))
          says_length =
              both (slice_index r (at + 6) == 9)
              (λ y. rw y (record {
                sequence = sequence;
                quality = quality;
                order = o;
                is_order = is;
                not_late = in_time;
                offsets = offsets;
                is_chain = chain;
                place_of_1000 = at;
                is_1000 = first;
                length_byte = eqb-true (slice_index r (at + 6)) 9 y;
                station = trimmed-code (slice_range r 8 13);
                location = refl;
                channel = refl;
                network = trimmed-code (slice_range r 18 20);
                start = refl;
                ticks = quotient (ticks_of o r);
                are_ticks = rounded_down (ticks_of o r) (ticks_under o r);
                stop = refl;
                kind = kind_is o r offsets;
                samples = refl;
                links = refl;
              }))
              (λ n. rw n
              (says_fault Length (
                o,
                offsets,
                at,
                is,
                chain,
                first,
                eqb-false (slice_index r (at + 6)) 9 n,
              ) before_length))

        says_1000 : (found : Option ℕ) → first_of_type o r 1000 offsets ≡ found → Says (read_length o r offsets found)
        says_1000 None e = says_fault No1000 (
          o,
          offsets,
          is,
          chain,
          found_none (λ at. word o r at == 1000) (Is1000 o r) (decides-1000 r o) offsets e,
        ) before_1000
        says_1000 (Some at) e =
            says_length at (found_first (λ at. word o r at == 1000) (Is1000 o r) (decides-1000 r o) offsets at e)

      no_chain : chain_of o r ≡ None → (offsets : List ℕ) → Not (IsChain o r offsets)
      no_chain e offsets chain = let e' = chain-complete o r offsets chain in absurd cc

      says_chain : (found : Option (List ℕ)) → chain_of o r ≡ found → Says (read_chain o r found)
      says_chain None e = says_fault Blockettes (o, is, no_chain e) before_chain
      says_chain (Some offsets) e = says_1000 offsets (chain-sound o r offsets e) (first_of_type o r 1000 offsets) refl

    says_order : (found : Option ByteOrder) → order_of r ≡ found → Says (read_in r found)
    says_order None e = says_fault Time (inl (λ o is. let e' = order-complete r o is in absurd cc)) before_time
    says_order (Some o) e =
        both (has_time o r)
        (λ y. rw y (says_chain o (order-sound r o e) ((decides-time o r).0 y) (chain_of o r) refl))
        (λ n. rw n (says_fault Time (inr (o, order-sound r o e, late o r n)) before_time))

  says : Says (header_of r)
  says =
      both (list_all is_sequence_byte (take 6 r))
      (λ y. let sequence = (decides-all is_sequence_byte IsSequenceByte decides-sequence_byte (take 6 r)).0 y in
      both (is_quality (slice_index r 6))
      (λ q. rw (y, q) (says_order sequence ((decides-quality (slice_index r 6)).0 q) (order_of r) refl))
      (λ n. rw (
        y,
        n,
      ) (says_fault Quality (not_from_Decides (is_quality (slice_index r 6)) (decides-quality (slice_index r 6)) n)
      (one_more Sequence none_at_all (λ fault. not_all IsSequenceByte (take 6 r) fault sequence)))))
      (λ n. rw n
      (says_fault Sequence (some_fails is_sequence_byte IsSequenceByte decides-sequence_byte (take 6 r) n)
      none_at_all))

  says_of : (found : Result Facts RecordFault) → header_of r ≡ found → Says found
  says_of found e = subst Says e says

  -- facts exclude every fault
  pub facts_exclude : (x : Facts) → HasFacts r x → (f : RecordFault) → Not (IsTrueOf r f)
  facts_exclude x h f fault =
      no_fault h.sequence h.quality h.order h.is_order h.not_late h.offsets h.is_chain h.place_of_1000 h.is_1000
      h.length_byte f (below_seven f) fault

  -- there is one first fault
  one_first : (f g : RecordFault) → IsFirstFault r f → IsFirstFault r g → g ≡ f
  one_first f g first first' =
      ⊎_elim (λ same. one_number g f (sym same))
      (λ apart. ⊎_elim (λ less. absurd (first'.none_before f less first.here))
      (λ more. absurd (first.none_before g more first'.here)) apart)
      (cases_order (fault_number f) (fault_number g))

  fault_found : (f : RecordFault) (found : Result Facts RecordFault) → Says found → IsFirstFault r f → found ≡ Err f
  fault_found f (Ok x) said first = absurd (facts_exclude x said f first.here)
  fault_found f (Err g) said first = ap {B = Result Facts RecordFault} Err (one_first f g first said)

  -- the two laws
  pub facts_law : (x : Facts) → (header_of r ≡ Ok x) ↔ HasFacts r x
  facts_law x = (says_of (Ok x), facts_read r x)

  pub faults_law : (f : RecordFault) → (header_of r ≡ Err f) ↔ IsFirstFault r f
  faults_law f = (says_of (Err f), fault_found f (header_of r) says)

says_either : (r : List ℕ) (found : Result Facts RecordFault) → Says r found
    → ((x : Facts) × HasFacts r x) ⊎ ((f : RecordFault) × IsFirstFault r f)
says_either r (Ok x) said = inl (x, said)
says_either r (Err f) said = inr (f, said)

pub facts_or_fault : (r : List ℕ) → ((x : Facts) × HasFacts r x) ⊎ ((f : RecordFault) × IsFirstFault r f)
facts_or_fault r = says_either r (header_of r) (says r)
