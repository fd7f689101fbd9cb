-- What is read of a record is its header.
use Rattle.std.proofs.Common.{◌≡◌, ℕ, ◌+◌, true, List, [], ◌∷◌, length, Option, Some, None, Err, unwrap_or, option_map}
use Rattle.std.proofs.Common.{slice_index, ℤ, refl, sym, ap, ◌∙◌}
use Rattle.std.specs.Option.{option_or}
use Rattle.protocol.specs.declared.record.ByteOrder.{ByteOrder}
use Rattle.protocol.specs.declared.record.Kind.{Kind}
use Rattle.protocol.specs.declared.record.Kind.TheVariants.{D}
use Rattle.protocol.specs.declared.record.RecordFault.TheVariants.{Blockettes as BlockettesFault}
use Rattle.protocol.specs.Record.{word, has_date, has_time, start_of, chain_of, first_of_type, first_kind, kind_of}
use Rattle.protocol.specs.Record.{facts_in, kind_of_type, read_length, read_chain, read_in}
use Rattle.protocol.specs.Time.{btime_tick}
use Rattle.protocol.proofs.FoundLemmas.{both}
use Rattle.mseed_header.specs.Chain.{told, told_of, given_kind, length_byte}
use Rattle.mseed_header.specs.Header.{kind_with, facts_with, with_length, header_by}
use Rattle.mseed_header.specs.declared.chain.Blockettes.{Blockettes}

module _ (o : ByteOrder) (r : List ℕ) where
  given_or : (found later : Option Kind) → unwrap_or (option_or found later) D ≡ unwrap_or found (unwrap_or later D)
  given_or None later = refl
  given_or (Some k) later = refl

  given-first_kind : (offsets : List ℕ) → unwrap_or (given_kind o r offsets) D ≡ first_kind o r offsets
  given-first_kind [] = refl
  given-first_kind (at ∷ offsets) = given_or (kind_of_type (word o r at)) (given_kind o r offsets)
      ∙ ap (unwrap_or (kind_of_type (word o r at))) (given-first_kind offsets)

  kind-with : (offsets : List ℕ) → kind_with o r (given_kind o r offsets) ≡ kind_of o r offsets
  kind-with offsets = rw (given-first_kind offsets)

  facts-with : (offsets : List ℕ)
      → facts_with o r (start_of o r) (given_kind o r offsets) (length offsets) ≡ facts_in o r offsets
  facts-with offsets = rw (kind-with offsets)

  -- what the time and the chain are, where they are read
  pub record IsRead (start : ℤ) (b : Blockettes) : Type 0 where
    pub date : has_date o r ≡ true
    pub time : btime_tick (word o r 20) (word o r 22) (slice_index r 24) (slice_index r 25) (slice_index r 26)
        (word o r 28) ≡ Some start
    pub chain : told_of o r ≡ Some b

  in_time : (start : ℤ) → has_date o r ≡ true
      → btime_tick (word o r 20) (word o r 22) (slice_index r 24) (slice_index r 25) (slice_index r 26) (word o r 28)
      ≡ Some start → (has_time o r ≡ true) × (start_of o r ≡ start)
  in_time start date time =
      both (has_time o r)
      (λ y. (y, let same : Some (start_of o r) ≡ Some start = rw (date, y) at time in cc))
      (λ n. absurd (let none : None ≡ Some start = rw (date, n) at time in cc))

  by_found : (offsets : List ℕ) (found : Option ℕ)
      → with_length o r (start_of o r) (option_map (λ at. slice_index r (at + 6)) found) (given_kind o r offsets)
      (length offsets)
      ≡ read_length o r offsets found
  by_found offsets None = refl
  by_found offsets (Some at) = rw (facts-with offsets) refl

  by_chain : (start : ℤ) (b : Blockettes) (found : Option (List ℕ)) → start_of o r ≡ start
      → option_map (told o r) found ≡ Some b → header_by o r start b ≡ read_chain o r found
  by_chain start b None same e = absurd cc
  by_chain start b (Some offsets) same e =
      let is : told o r offsets ≡ b = cc in
      ap (λ x. header_by o r start x) (sym is)
      ∙ ap (λ t. with_length o r t (length_byte o r offsets) (given_kind o r offsets) (length offsets)) (sym same)
      ∙ by_found offsets (first_of_type o r 1000 offsets)

  pub read_by : (start : ℤ) (b : Blockettes) → IsRead start b → header_by o r start b ≡ read_in r (Some o)
  unfolding told_of
  read_by start b is = let times =
      in_time start is.date is.time in rw times.0 (by_chain start b (chain_of o r) times.1 is.chain)

  pub no_chain : (start : ℤ) → has_date o r ≡ true
      → btime_tick (word o r 20) (word o r 22) (slice_index r 24) (slice_index r 25) (slice_index r 26) (word o r 28)
      ≡ Some start → told_of o r ≡ None → Err BlockettesFault ≡ read_in r (Some o)
  unfolding told_of
  no_chain start date time none = let times = in_time start date time in rw times.0 (no_offsets (chain_of o r) none)
    where
      no_offsets : (found : Option (List ℕ)) → option_map (told o r) found ≡ None
          → Err BlockettesFault ≡ read_chain o r found
      no_offsets None e = refl
      no_offsets (Some offsets) e = absurd cc
