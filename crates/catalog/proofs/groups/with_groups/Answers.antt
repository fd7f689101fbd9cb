use Rattle.std.proofs.lemmas.Grind.{common_steps}
use Rattle.std.proofs.Common.{◌≡◌, ◌<◌, ◌++◌, List, length, get_or, map, Option, Some, None, rules, tests}
use Rattle.std.proofs.Common.{arith}
use Rattle.std.proofs.lemmas.Iterator.{YieldsList}
use Rattle.std.specs.Iterator.{Yields}
use Rattle.std.proofs.lemmas.Iterator.Consumers.{YieldsList-turn, YieldsList-end, YieldsList-at}
use Rattle.std.proofs.lemmas.Iterator.Splits.{YieldsList-from_slice_split}
use Rattle.std.proofs.lemmas.List.{length_push, drop_all}
use Rattle.toml.specs.View.{table_view}
use Rattle.protocol.specs.Pieces.{split}
use Rattle.access_list.specs.Tokens.{is_separator}
use Rattle.catalog.specs.Groups.{entry_apart, list_meant}
use Rattle.catalog.proofs.GroupLemmas.{meant_end, meant_more, pieces_are}
use Rattle.catalog.proofs.groups.with_groups.Goals as goal

-- where the entry at hand stands, and at the end how many there were, by the steps first
turn_of : {S A B : Type 0} {steps : S → Option A → S → Type 0} {v : A → B} {s : S} {all : List B} (xs : List A) (t : S)
    (y : Yields steps s xs t) → (r : Option A) (u : S) (x : A) → r ≡ Some x → steps t r u
    → (e : YieldsList steps v s all) → (length xs < length all) × (v x ≡ get_or all (length xs) (v x))
turn_of xs t y r u x is step e = YieldsList-turn e xs t y r u x is step

end_of : {S A B : Type 0} {steps : S → Option A → S → Type 0} {v : A → B} {s : S} {all : List B} (xs : List A) (t : S)
    (y : Yields steps s xs t) → (r : Option A) (u : S) → r ≡ None → steps t r u → (e : YieldsList steps v s all)
    → (map v xs ≡ all) × (length xs ≡ length all)
end_of xs t y r u is step e = YieldsList-end e xs t y r u is step

pub loop-entry-preserved : goal.loop-entry-preserved
loop-entry-preserved c =
    let turn = rw (pieces_are is_separator c.args.list.now) at
    (turn_of c.loop-entry.yielded _ c.loop-entry.yielded_by _ _ c.in-Some.entry c.in-Some.is c.next.ensures.steps
    (YieldsList-at c.into_iter-entry-iterator.ensures.into_iter_gives
    (YieldsList-from_slice_split _ is_separator c.args.list.now c.split-entries.ensures.rest
    c.split-entries.ensures.done c.split-entries.ensures.closure (λ x b q k. search (rules, tests))))) in
    let groups = table_view c.args.groups.now in
    let made : c.put_entry.new.text.items ≡ c.loop-entry.text.items ++ entry_apart groups c.in-Some.entry.now =
    first_of (search rules, grind (arith, common_steps, c.put_entry.ensures, c.in_ok-put_entry.was)) in
    rw (length_push c.loop-entry.yielded c.in-Some.entry, made)
    (meant_more groups (split is_separator c.args.list.now) (length c.loop-entry.yielded) c.in-Some.entry.now
    (list_meant (Some groups) c.args.list.now) c.loop-entry.text.items turn.0 turn.1 c.loop-entry.invariant)

pub returns : goal.returns
returns c =
    let end = rw (pieces_are is_separator c.args.list.now) at
    (end_of c.loop-entry.yielded _ c.loop-entry.yielded_by _ _ c.in-None.is c.next.ensures.steps
    (YieldsList-at c.into_iter-entry-iterator.ensures.into_iter_gives
    (YieldsList-from_slice_split _ is_separator c.args.list.now c.split-entries.ensures.rest
    c.split-entries.ensures.done c.split-entries.ensures.closure (λ x b q k. search (rules, tests))))) in
    let groups = table_view c.args.groups.now in
    meant_end groups (split is_separator c.args.list.now) (length c.loop-entry.yielded)
    (list_meant (Some groups) c.args.list.now) c.loop-entry.text.items
    (drop_all (length c.loop-entry.yielded) (split is_separator c.args.list.now) (omega (arith, end.1)))
    c.loop-entry.invariant
