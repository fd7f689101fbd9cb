use Rattle.std.specs.Prelude.{◌==◌}
use Rattle.std.proofs.lemmas.Grind.{common_steps}
use Rattle.std.proofs.Common.{[], ◌∷◌, ◌++◌, Option, Some, None, map, rules, tests, eqb-true, false, ◌≡◌, ◌∙◌, ℕ, ◌<◌}
use Rattle.std.proofs.Common.{List, length, get_or, sym, arith}
use Rattle.std.proofs.lemmas.Iterator.{YieldsList}
use Rattle.std.specs.Iterator.{Yields}
use Rattle.std.proofs.lemmas.Iterator.Consumers.{YieldsList-turn, YieldsList-end, YieldsList-at}
use Rattle.std.proofs.lemmas.Iterator.Splits.{YieldsList-from_slice_split}
use Rattle.std.proofs.lemmas.Bool.Decides.{nat_tests}
use Rattle.std.proofs.lemmas.List.{length_push, drop_all}
use Rattle.protocol.specs.Pieces.{split}
use Rattle.access_list.specs.Tokens.{is_separator}
use Rattle.access_list.proofs.MaskLemmas.{list_allows}
use Rattle.access_list.proofs.ParseLemmas.{pieces_are, left-empty, left-token, left-fault, left-end}
use Rattle.access_list.proofs.list.AccessList.parse.Goals as goal

-- where the piece at hand stands, and at the end how many there were, by the steps first
turn_of : {S A B : Type 0} {steps : S → Option A → S → Type 0} {v : A → B} {s : S} {all : List B} (xs : List A) (t : S)
    (y : Yields steps s xs t) → (r : Option A) (u : S) (x : A) → r ≡ Some x → steps t r u
    → (e : YieldsList steps v s all) → (length xs < length all) × (v x ≡ get_or all (length xs) (v x))
turn_of xs t y r u x is step e = YieldsList-turn e xs t y r u x is step

end_of : {S A B : Type 0} {steps : S → Option A → S → Type 0} {v : A → B} {s : S} {all : List B} (xs : List A) (t : S)
    (y : Yields steps s xs t) → (r : Option A) (u : S) → r ≡ None → steps t r u → (e : YieldsList steps v s all)
    → (map v xs ≡ all) × (length xs ≡ length all)
end_of xs t y r u is step e = YieldsList-end e xs t y r u is step

filled : (n : ℕ) → (n == 0) ≡ false → 0 < n
filled n e = grind (arith, nat_tests)

-- src/list.rt:49:27
pub returns-in_err-parse-clause-err : goal.returns-in_err-parse-clause-err
returns-in_err-parse-clause-err c =
    let turn = rw (pieces_are is_separator c.args.text.now) at
    (turn_of c.loop-word.yielded _ c.loop-word.yielded_by _ _ c.in-Some.word c.in-Some.is c.next.ensures.steps
    (YieldsList-at c.into_iter-word-iterator.ensures.into_iter_gives
    (YieldsList-from_slice_split _ is_separator c.args.text.now c.split-words.ensures.rest
    c.split-words.ensures.done c.split-words.ensures.closure (λ x b q k. search (rules, tests))))) in
    let some : 0 < length c.in-Some.word.now = filled (length c.in-Some.word.now)
    (sym c.is_empty.ensures ∙ c.if-not-is_empty.true) in
    let told = c.loop-word.invariant
    ∙ left-fault c.loop-word.tokens.items (split is_separator c.args.text.now)
    (length c.loop-word.yielded) c.in-Some.word.now _ turn.0 turn.1 some
    (sym c.parse.ensures ∙ c.in_err-parse.was) in
    first_of (search (rules, told), grind (arith, common_steps, told))

-- src/list.rt:46:9
pub loop-word-preserved-in_ok-map_err : goal.loop-word-preserved-in_ok-map_err
loop-word-preserved-in_ok-map_err c =
    let turn = rw (pieces_are is_separator c.args.text.now) at
    (turn_of c.loop-word.yielded _ c.loop-word.yielded_by _ _ c.in-Some.word c.in-Some.is c.next.ensures.steps
    (YieldsList-at c.into_iter-word-iterator.ensures.into_iter_gives
    (YieldsList-from_slice_split _ is_separator c.args.text.now c.split-words.ensures.rest
    c.split-words.ensures.done c.split-words.ensures.closure (λ x b q k. search (rules, tests))))) in
    let some : 0 < length c.in-Some.word.now = filled (length c.in-Some.word.now)
    (sym c.is_empty.ensures ∙ c.if-not-is_empty.true) in
    let more = left-token c.loop-word.tokens.items (split is_separator c.args.text.now)
    (length c.loop-word.yielded) c.in-Some.word.now _ turn.0 turn.1 some
    (sym c.parse.ensures ∙ c.in_ok-parse.was) in
    let pushed : c.push.new.self.items
    ≡ c.loop-word.tokens.items ++ c.in_ok-parse.field-0 ∷ [] =
    first_of (
      search rules,
      grind (arith, common_steps, c.push.ensures.items, c.map_err.ensures.cases, c.in_ok-map_err.was),
    ) in
    rw (length_push c.loop-word.yielded c.in-Some.word, pushed) (c.loop-word.invariant ∙ more)

-- src/list.rt:46:9
pub loop-word-preserved : goal.loop-word-preserved
loop-word-preserved c =
    let turn = rw (pieces_are is_separator c.args.text.now) at
    (turn_of c.loop-word.yielded _ c.loop-word.yielded_by _ _ c.in-Some.word c.in-Some.is c.next.ensures.steps
    (YieldsList-at c.into_iter-word-iterator.ensures.into_iter_gives
    (YieldsList-from_slice_split _ is_separator c.args.text.now c.split-words.ensures.rest
    c.split-words.ensures.done c.split-words.ensures.closure (λ x b q k. search (rules, tests))))) in
    let none : length c.in-Some.word.now ≡ 0 = eqb-true _ 0 (sym c.is_empty.ensures ∙ c.if-not-is_empty.false) in
    rw (length_push c.loop-word.yielded c.in-Some.word)
    (c.loop-word.invariant ∙ left-empty c.loop-word.tokens.items (split is_separator c.args.text.now)
    (length c.loop-word.yielded) c.in-Some.word.now turn.0 turn.1 none)

-- src/list.rt:41:5
pub returns-clause-ok : goal.returns-clause-ok
returns-clause-ok c =
    let end = rw (pieces_are is_separator c.args.text.now) at
    (end_of c.loop-word.yielded _ c.loop-word.yielded_by _ _ c.in-None.is c.next.ensures.steps
    (YieldsList-at c.into_iter-word-iterator.ensures.into_iter_gives
    (YieldsList-from_slice_split _ is_separator c.args.text.now c.split-words.ensures.rest
    c.split-words.ensures.done c.split-words.ensures.closure (λ x b q k. search (rules, tests))))) in
    c.loop-word.invariant ∙ left-end c.loop-word.tokens.items (split is_separator c.args.text.now)
    (length c.loop-word.yielded)
    (drop_all (length c.loop-word.yielded) (split is_separator c.args.text.now) (omega (arith, end.1)))

pub returns-clause-words : goal.returns-clause-words
returns-clause-words c =
    let end = rw (pieces_are is_separator c.args.text.now) at
    (end_of c.loop-word.yielded _ c.loop-word.yielded_by _ _ c.in-None.is c.next.ensures.steps
    (YieldsList-at c.into_iter-word-iterator.ensures.into_iter_gives
    (YieldsList-from_slice_split _ is_separator c.args.text.now c.split-words.ensures.rest
    c.split-words.ensures.done c.split-words.ensures.closure (λ x b q k. search (rules, tests))))) in
    list_allows c.args.text.now c.loop-word.tokens.items
    (c.loop-word.invariant ∙ left-end c.loop-word.tokens.items (split is_separator c.args.text.now)
    (length c.loop-word.yielded)
    (drop_all (length c.loop-word.yielded) (split is_separator c.args.text.now) (omega (arith, end.1))))
