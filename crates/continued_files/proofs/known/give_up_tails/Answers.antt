use Rattle.std.proofs.Common.{rules}
use Rattle.continued_files.specs.Names.{has}
use Rattle.continued_files.proofs.NamesLemmas.{changed-known}
use Rattle.continued_files.proofs.known.give_up_tails.Goals as goal

pub returns : goal.returns
returns c = λ name.
    changed-known _ (has c.args.names.now) name _ (λ k v b w f' t. search rules) c.args.all.now.entries
    c.retain.new.self.entries c.retain.ensures.filtered
