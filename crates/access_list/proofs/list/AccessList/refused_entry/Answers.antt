use Rattle.std.proofs.Common.{◌≡◌, ◌∙◌, ◌<◌, List, length, get_or, map, Option, Some, None, rules, tests, sym, arith}
use Rattle.std.proofs.lemmas.Iterator.{YieldsList}
use Rattle.std.specs.Iterator.{Yields}
use Rattle.std.proofs.lemmas.Iterator.Consumers.{YieldsList-turn, YieldsList-end, YieldsList-at}
use Rattle.std.proofs.lemmas.Iterator.Splits.{YieldsList-from_slice_split}
use Rattle.std.proofs.lemmas.List.{length_push, drop_all}
use Rattle.protocol.specs.Pieces.{split}
use Rattle.access_list.specs.Tokens.{is_separator}
use Rattle.access_list.proofs.ParseLemmas.{pieces_are, refused_left-passed, refused_left-found, refused_left-end}
use Rattle.access_list.proofs.list.AccessList.refused_entry.Goals as goal

-- where the entry at hand stands, and at the end how many there were, by the steps first
turn_of : {S A B : Type 0} {steps : S → Option A → S → Type 0} {v : A → B} {s : S} {all : List B} (xs : List A) (t : S)
    (y : Yields steps s xs t) → (r : Option A) (u : S) (x : A) → r ≡ Some x → steps t r u
    → (e : YieldsList steps v s all) → (length xs < length all) × (v x ≡ get_or all (length xs) (v x))
turn_of xs t y r u x is step e = YieldsList-turn e xs t y r u x is step

end_of : {S A B : Type 0} {steps : S → Option A → S → Type 0} {v : A → B} {s : S} {all : List B} (xs : List A) (t : S)
    (y : Yields steps s xs t) → (r : Option A) (u : S) → r ≡ None → steps t r u → (e : YieldsList steps v s all)
    → (map v xs ≡ all) × (length xs ≡ length all)
end_of xs t y r u is step e = YieldsList-end e xs t y r u is step

pub returns-then-is_refused : goal.returns-then-is_refused
returns-then-is_refused c =
    let turn = rw (pieces_are is_separator c.args.text.now) at
    (turn_of c.loop-entry.yielded _ c.loop-entry.yielded_by _ _ c.in-Some.entry c.in-Some.is c.next.ensures.steps
    (YieldsList-at c.into_iter-entry-iterator.ensures.into_iter_gives
    (YieldsList-from_slice_split _ is_separator c.args.text.now c.split-entries.ensures.rest
    c.split-entries.ensures.done c.split-entries.ensures.closure (λ x b q k. search (rules, tests))))) in
    sym (c.loop-entry.invariant
    ∙ refused_left-found (split is_separator c.args.text.now) (length c.loop-entry.yielded) c.in-Some.entry.now turn.0
    turn.1
    (sym c.is_refused.ensures ∙ c.if-is_refused.true))

pub loop-entry-preserved : goal.loop-entry-preserved
loop-entry-preserved c =
    let turn = rw (pieces_are is_separator c.args.text.now) at
    (turn_of c.loop-entry.yielded _ c.loop-entry.yielded_by _ _ c.in-Some.entry c.in-Some.is c.next.ensures.steps
    (YieldsList-at c.into_iter-entry-iterator.ensures.into_iter_gives
    (YieldsList-from_slice_split _ is_separator c.args.text.now c.split-entries.ensures.rest
    c.split-entries.ensures.done c.split-entries.ensures.closure (λ x b q k. search (rules, tests))))) in
    rw (length_push c.loop-entry.yielded c.in-Some.entry)
    (c.loop-entry.invariant
    ∙ refused_left-passed (split is_separator c.args.text.now) (length c.loop-entry.yielded) c.in-Some.entry.now turn.0
    turn.1
    (sym c.is_refused.ensures ∙ c.if-is_refused.false))

pub returns : goal.returns
returns c =
    let end = rw (pieces_are is_separator c.args.text.now) at
    (end_of c.loop-entry.yielded _ c.loop-entry.yielded_by _ _ c.in-None.is c.next.ensures.steps
    (YieldsList-at c.into_iter-entry-iterator.ensures.into_iter_gives
    (YieldsList-from_slice_split _ is_separator c.args.text.now c.split-entries.ensures.rest
    c.split-entries.ensures.done c.split-entries.ensures.closure (λ x b q k. search (rules, tests))))) in
    sym (c.loop-entry.invariant ∙ refused_left-end (split is_separator c.args.text.now) (length c.loop-entry.yielded)
    (drop_all (length c.loop-entry.yielded) (split is_separator c.args.text.now) (omega (arith, end.1))))
