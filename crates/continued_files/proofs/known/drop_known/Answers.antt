use Rattle.std.proofs.Common.{not, rules}
use Rattle.std.proofs.lemmas.Map.Made.{filter_same_pairs}
use Rattle.std.specs.String.{string_bytes}
use Rattle.continued_files.specs.Names.{has}
use Rattle.continued_files.proofs.NamesLemmas.{dropped-known, left-known}
use Rattle.continued_files.proofs.known.drop_known.Goals as goal

pub returns-clause-none : goal.returns-clause-none
returns-clause-none c = λ name is.
    dropped-known (has c.args.names.now) name c.args.all.now.entries c.retain.new.self.entries
    (filter_same_pairs _ (λ e. not (has c.args.names.now (string_bytes e.0))) _ (λ k v b w f' t. search rules) _ _
    c.retain.ensures.filtered) is

pub returns-clause-others : goal.returns-clause-others
returns-clause-others c = λ name is.
    left-known (has c.args.names.now) name c.args.all.now.entries c.retain.new.self.entries
    (filter_same_pairs _ (λ e. not (has c.args.names.now (string_bytes e.0))) _ (λ k v b w f' t. search rules) _ _
    c.retain.ensures.filtered) is
