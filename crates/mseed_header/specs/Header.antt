-- What a record says of itself, by what was read of it.
use Rattle.std.specs.Prelude.{ℕ, ◌==◌, nat_lt, if◌then◌else◌, List, slice_range, ℤ, pos, ◌+ℤ◌, Option, Some, None}
use Rattle.std.specs.Prelude.{unwrap_or, Result, Ok, Err}
use Rattle.protocol.specs.declared.record.ByteOrder.{ByteOrder}
use Rattle.protocol.specs.declared.record.Kind.{Kind}
use Rattle.protocol.specs.declared.record.Kind.TheVariants.{D, L}
use Rattle.protocol.specs.declared.record.RecordFault.{RecordFault}
use Rattle.protocol.specs.declared.record.RecordFault.TheVariants.{No1000, Length}
use Rattle.protocol.specs.Record.{Facts, word, trimmed, ticks_of, quotient}
use Rattle.mseed_header.specs.declared.chain.Blockettes.{Blockettes}

-- the facts, part by part
abbrev pub facts : (network station location channel : List ℕ) (start stop : ℤ) (kind : Kind) (samples links : ℕ)
    → Facts
facts network station location channel start stop kind samples links =
    record {
      network = network;
      station = station;
      location = location;
      channel = channel;
      start = start;
      stop = stop;
      kind = kind;
      samples = samples;
      links = links;
    }

-- the kind, where this one is what the blockettes give
abbrev pub kind_with : ByteOrder → List ℕ → Option Kind → Kind
kind_with o r given = if nat_lt 0 (word o r 30) then (if word o r 32 == 0 then L else D) else unwrap_or given D

-- the facts, where the start and what the blockettes give are these
abbrev pub facts_with : ByteOrder → List ℕ → ℤ → Option Kind → (links : ℕ) → Facts
facts_with o r start given links =
    record {
      network = trimmed (slice_range r 18 20);
      station = trimmed (slice_range r 8 13);
      location = slice_range r 13 15;
      channel = slice_range r 15 18;
      start = start;
      stop = start +ℤ pos (quotient (ticks_of o r));
      kind = kind_with o r given;
      samples = word o r 30;
      links = links;
    }

-- the facts, or the fault of the record's length, where the first blockette 1000 gives this length
abbrev pub with_length : ByteOrder → List ℕ → ℤ → Option ℕ → Option Kind → (links : ℕ) → Result Facts RecordFault
with_length o r start None given links = Err No1000
with_length o r start (Some n) given links = if n == 9 then Ok (facts_with o r start given links) else Err Length

abbrev pub header_by : ByteOrder → List ℕ → ℤ → Blockettes → Result Facts RecordFault
header_by o r start b = with_length o r start b.length b.kind b.links
