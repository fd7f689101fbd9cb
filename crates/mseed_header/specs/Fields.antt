-- The fields of a record to be made, as the definitions have them.
use Rattle.std.specs.Prelude.{Bool, ◌&&◌, nat_le, nat_lt, length}
use Rattle.std.specs.List.{list_all}
use Rattle.protocol.specs.Made.{Fields as Spelled, has_codes_in_range, has_start_in_range, is_extra}
use Rattle.protocol.specs.Record.{Facts, is_quality, padded}
use Rattle.std.specs.Str.{bytes_eq}
use Rattle.mseed_header.specs.declared.fields.Fields.{Fields}

abbrev pub fields_value : Fields → Spelled
fields_value f =
    record {
      sequence = f.sequence;
      quality = f.quality;
      station = f.station.now;
      location = f.location.now;
      channel = f.channel.now;
      network = f.network.now;
      year = f.year;
      day = f.day;
      hour = f.hour;
      minute = f.minute;
      second = f.second;
      fraction = f.fraction;
      samples = f.samples;
      factor = f.factor;
      multiplier = f.multiplier;
      encoding = f.encoding;
      order = f.order;
      extra = f.extra;
      contents = f.contents.now;
    }

-- what stands before the samples is in range
abbrev pub head_in_range : Spelled → Bool
head_in_range f = nat_lt f.sequence 1000000 && is_quality f.quality && has_codes_in_range f && has_start_in_range f

-- what stands behind the header is in range
abbrev pub rest_in_range : Spelled → Bool
rest_in_range f = is_extra f.extra && (nat_le (length f.contents) 448 && list_all (λ b. nat_lt b 256) f.contents)

-- the facts have the codes of the fields
abbrev pub has_codes_of : Spelled → Facts → Bool
has_codes_of f x = bytes_eq x.network f.network && bytes_eq x.station f.station
    && bytes_eq x.location (padded 2 f.location) && bytes_eq x.channel (padded 3 f.channel)
