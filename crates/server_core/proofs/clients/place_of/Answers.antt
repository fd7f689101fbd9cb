use Rattle.std.proofs.Common.{◌∙◌, sym, subst, rules, Option, ℕ}
use Rattle.std.specs.Prelude.{IfSome}
use Rattle.std.proofs.lemmas.List.Sorted.{answers_always}
use Rattle.server_core.specs.Clients.{IsNumberAt}
use Rattle.server_core.proofs.NumberLemmas.{searched}
use Rattle.server_core.proofs.clients.place_of.Goals as goal

pub returns-clause-found : goal.returns-clause-found
returns-clause-found c =
    let facts = c.binary_search_by_key.ensures in
    let by_key = facts.position (λ o. o.number) (answers_always _ _ _ (λ f a r g called. search rules)) in
    subst (λ (o : Option ℕ). IfSome o (IsNumberAt c.args.opened.now c.args.number)) (sym c.ok.ensures.value)
    (searched c.args.opened.now c.requires c.args.number _ facts.bound by_key).found

pub returns-clause-absent : goal.returns-clause-absent
returns-clause-absent c = λ none.
    let facts = c.binary_search_by_key.ensures in
    let by_key = facts.position (λ o. o.number) (answers_always _ _ _ (λ f a r g called. search rules)) in
    (searched c.args.opened.now c.requires c.args.number _ facts.bound by_key).absent (sym c.ok.ensures.value ∙ none)
