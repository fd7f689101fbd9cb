-- The pieces of a text are what stands before its first separator, and the pieces of what stands behind it.
use Rattle.std.proofs.Common.{◌+◌}
use Rattle.std.specs.Prelude.{◌==◌}
use Rattle.protocol.proofs.SplitLemmas.{first_cut, rest_whole}
use Rattle.text_parts.proofs.separators.cut_at.Goals as goal

pub returns-in_err-place-clause-pieces : goal.returns-in_err-place-clause-pieces
returns-in_err-place-clause-pieces c =
    let cut = first_cut (λ b. b == c.args.separator) c.args.text.now c.place_of.result c.place_of.ensures in
    let found = rw c.in_err-place.was at cut in
    rw c.from_residual.ensures found

pub returns-clause-pieces : goal.returns-clause-pieces
returns-clause-pieces c =
    let cut = first_cut (λ b. b == c.args.separator) c.args.text.now c.place_of.result c.place_of.ensures in
    let found = rw c.in_ok-place.was at cut in
    rw (rest_whole c.args.text.now (c.in_ok-place.place + 1)) found
