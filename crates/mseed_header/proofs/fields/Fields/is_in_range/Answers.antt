use Rattle.std.proofs.Common.{arith, rules, ◌∙◌, sym}
use Rattle.mseed_header.specs.Fields.{fields_value}
use Rattle.mseed_header.proofs.RangeLemmas.{in_range_by}
use Rattle.mseed_header.proofs.fields.Fields.is_in_range.Goals as goal

pub returns-then-has_head_in_range : goal.returns-then-has_head_in_range
returns-then-has_head_in_range c = c.has_rest_in_range.ensures
    ∙ in_range_by (fields_value c.args.self.now)
    (record { samples = omega arith; factor = search rules; multiplier = search rules; encoding = omega arith })
    (sym c.has_head_in_range.ensures ∙ c.if-has_head_in_range.true)
