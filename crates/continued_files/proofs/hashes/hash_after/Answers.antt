use Rattle.std.proofs.Common.{◌+◌, ◌*◌, ◌%◌, ap}
use Rattle.continued_files.specs.Hashes.{hash_step}
use Rattle.continued_files.proofs.hashes.hash_after.Goals as goal

pub returns : goal.returns
unfolding hash_step
returns c =
    ap (λ b. (c.args.hash * 1099511628211 % 18446744073709551616 + b) % 18446744073709551616) c.from_le_bytes.ensures
