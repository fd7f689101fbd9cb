use Rattle.std.proofs.Common.{rules, arith, ◌≡◌, ◌∙◌}
use Rattle.mseed_header.specs.Fields.{fields_value}
use Rattle.mseed_header.proofs.LayoutLemmas.{laid_out, contents_fit}
use Rattle.mseed_header.proofs.layout.layout_of.Goals as goal

pub padded-requires : goal.padded-requires
padded-requires c = (omega arith, contents_fit (fields_value c.args.fields.now) c.requires)

pub returns : goal.returns
returns c =
    let whole : c.unwrap.result ≡ c.put.new.layout.items = search rules in
    whole ∙ rw (
      c.put.ensures.items,
      c.put_blockettes.ensures.items,
      c.put_places.ensures.items,
      c.put_rate.ensures.items,
      c.put_start.ensures.items,
      c.put_codes.ensures.items,
      c.new-layout.ensures,
      c.padded.ensures,
    ) (laid_out (fields_value c.args.fields.now))
