use Rattle.std.proofs.Common.{arith}
use Rattle.mseed_header.proofs.RangeLemmas.{of_bytes}
use Rattle.mseed_header.proofs.fields.is_contents.Goals as goal

pub returns : goal.returns
returns c = of_bytes c.args.contents.now (λ i. omega (arith, c.type_inv.contents i))
