use Rattle.std.proofs.Common.{◌≡◌, ◌++◌, take, flat_map}
use Rattle.status_page.specs.Templates.{bucket_row}
use Rattle.status_page.proofs.template.put_buckets.Given as goal

abbrev pub invariant-loop-bucket : goal.invariant-loop-bucket
invariant-loop-bucket l = l.text.items ≡ l.fn.text.items
    ++ flat_map (bucket_row l.language l.pieces) (take l.bucket-index l.buckets)
