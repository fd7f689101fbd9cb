use Rattle.std.proofs.Common.{not, rules}
use Rattle.std.proofs.lemmas.Fn.{filter_same}
use Rattle.continued_files.specs.Names.{has}
use Rattle.continued_files.proofs.NamesLemmas.{dropped-length, left-length}
use Rattle.continued_files.proofs.known.drop_lengths.Goals as goal

pub returns-clause-none : goal.returns-clause-none
returns-clause-none c = λ name is.
    dropped-length (has c.args.names.now) name c.args.named.now.items c.retain.new.self.items
    (filter_same _ (λ l. not (has c.args.names.now l.name)) _ (λ x b f' t. search rules) _ _
    c.retain.ensures.filtered) is

pub returns-clause-others : goal.returns-clause-others
returns-clause-others c = λ name is.
    left-length (has c.args.names.now) name c.args.named.now.items c.retain.new.self.items
    (filter_same _ (λ l. not (has c.args.names.now l.name)) _ (λ x b f' t. search rules) _ _
    c.retain.ensures.filtered) is
