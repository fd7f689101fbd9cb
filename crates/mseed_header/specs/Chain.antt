-- What a record's header takes from its blockettes.
use Rattle.std.specs.Prelude.{ℕ, ◌+◌, List, [], ◌∷◌, length, slice_index, Option, None, option_map}
use Rattle.std.specs.Option.{option_or}
use Rattle.protocol.specs.declared.record.ByteOrder.{ByteOrder}
use Rattle.protocol.specs.declared.record.Kind.{Kind}
use Rattle.protocol.specs.Record.{word, kind_of_type, first_of_type, chain_of}
use Rattle.mseed_header.specs.declared.chain.Blockettes.{Blockettes}

-- the kind that the first blockette that gives one gives
abbrev pub given_kind : ByteOrder → List ℕ → List ℕ → Option Kind
given_kind o r [] = None
given_kind o r (at ∷ offsets) = option_or (kind_of_type (word o r at)) (given_kind o r offsets)

-- the length byte of the first blockette 1000
abbrev pub length_byte : ByteOrder → List ℕ → List ℕ → Option ℕ
length_byte o r offsets = option_map (λ at. slice_index r (at + 6)) (first_of_type o r 1000 offsets)

-- what the blockettes at these offsets say
abbrev pub told : ByteOrder → List ℕ → List ℕ → Blockettes
told o r offsets = record { length = length_byte o r offsets; kind = given_kind o r offsets; links = length offsets }

-- what was said before, and else what the blockettes at these offsets say
abbrev pub told_after : ByteOrder → List ℕ → Blockettes → List ℕ → Blockettes
told_after o r b offsets =
    record {
      length = option_or b.length (length_byte o r offsets);
      kind = option_or b.kind (given_kind o r offsets);
      links = b.links + length offsets;
    }

-- with what the blockette at an offset says
abbrev pub told_with : ByteOrder → List ℕ → Blockettes → ℕ → Blockettes
told_with o r b at = told_after o r b (at ∷ [])

-- what the chain says, or None where it is not well formed
unfoldable pub told_of : ByteOrder → List ℕ → Option Blockettes
told_of o r = option_map (told o r) (chain_of o r)
