use Rattle.mseed_header.specs.Fields.{fields_value}
use Rattle.mseed_header.proofs.RangeLemmas.{start_in_range}
use Rattle.mseed_header.proofs.making.has_fields.Goals as goal

pub has_start-requires : goal.has_start-requires
has_start-requires c = start_in_range (fields_value c.args.fields.now) c.requires
