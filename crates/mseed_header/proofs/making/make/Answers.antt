-- The search finds this by itself. It is written down since the prover takes a minute to offer an answer where there is
-- none, which a wrong body would wait for.
use Rattle.std.proofs.Common.{rules}
use Rattle.mseed_header.proofs.making.make.Goals as goal

pub returns : goal.returns
returns c = search rules
