use Rattle.std.specs.Prelude.{◌==◌}
use Rattle.std.proofs.lemmas.Grind.{common_steps}
use Rattle.std.proofs.Common.{◌≡◌, ◌∙◌, ◌<◌, ◌++◌, ◌∷◌, [], ℕ, List, length, get_or, map, Option, Some, None, rules}
use Rattle.std.proofs.Common.{tests, sym, ap}
use Rattle.std.proofs.Common.{arith, eqb-true, false, append-nil}
use Rattle.std.proofs.lemmas.Iterator.{YieldsList}
use Rattle.std.specs.Iterator.{Yields}
use Rattle.std.proofs.lemmas.Iterator.Consumers.{YieldsList-at}
use Rattle.std.proofs.lemmas.Iterator.Splits.{YieldsList-from_slice_split}
use Rattle.std.proofs.lemmas.Bool.Decides.{nat_tests}
use Rattle.std.proofs.lemmas.List.{length_push, drop_all}
use Rattle.protocol.specs.Pieces.{split}
use Rattle.access_list.specs.Tokens.{is_separator}
use Rattle.config_explained.specs.Holders.{words_of}
use Rattle.config_explained.proofs.EntryLemmas.{pieces_are, words_left-empty, words_left-word, words_left-end}
use Rattle.config_explained.proofs.PieceLemmas.{end_of, turn_of}
use Rattle.config_explained.proofs.entries.put_entries.Goals as goal

filled : (n : ℕ) → (n == 0) ≡ false → 0 < n
filled n e = grind (arith, nat_tests)

pub loop-entry-preserved-in-Continue-1 : goal.loop-entry-preserved-in-Continue-1
loop-entry-preserved-in-Continue-1 c =
    let turn = rw (pieces_are is_separator c.args.list.now) at
    (turn_of c.loop-entry.yielded _ c.loop-entry.yielded_by _ _ c.in-Some.entry c.in-Some.is c.next.ensures.steps
    (YieldsList-at c.into_iter-entry-iterator.ensures.into_iter_gives
    (YieldsList-from_slice_split _ is_separator c.args.list.now c.split-entries.ensures.rest
    c.split-entries.ensures.done c.split-entries.ensures.closure (λ x b q k. search (rules, tests))))) in
    let some : 0 < length c.in-Some.entry.now = filled (length c.in-Some.entry.now)
    (sym c.is_empty.ensures ∙ c.if-not-is_empty.true) in
    let made : c.put_word.new.text.items ≡ c.loop-entry.text.items ++ words_of (c.in-Some.entry.now ∷ []) =
    first_of (search rules, grind (arith, common_steps, c.put_word.ensures, c.in_ok-put_word.was)) in
    rw (length_push c.loop-entry.yielded c.in-Some.entry, made)
    (c.loop-entry.invariant
    ∙ words_left-word (split is_separator c.args.list.now) (length c.loop-entry.yielded) c.in-Some.entry.now
    c.loop-entry.text.items turn.0 turn.1 some)

pub loop-entry-preserved : goal.loop-entry-preserved
loop-entry-preserved c =
    let turn = rw (pieces_are is_separator c.args.list.now) at
    (turn_of c.loop-entry.yielded _ c.loop-entry.yielded_by _ _ c.in-Some.entry c.in-Some.is c.next.ensures.steps
    (YieldsList-at c.into_iter-entry-iterator.ensures.into_iter_gives
    (YieldsList-from_slice_split _ is_separator c.args.list.now c.split-entries.ensures.rest
    c.split-entries.ensures.done c.split-entries.ensures.closure (λ x b q k. search (rules, tests))))) in
    let none : length c.in-Some.entry.now ≡ 0 = eqb-true _ 0 (sym c.is_empty.ensures ∙ c.if-not-is_empty.false) in
    rw (length_push c.loop-entry.yielded c.in-Some.entry)
    (c.loop-entry.invariant
    ∙ ap (λ xs. c.loop-entry.text.items ++ xs)
    (words_left-empty (split is_separator c.args.list.now) (length c.loop-entry.yielded) c.in-Some.entry.now turn.0
    turn.1 none))

pub returns : goal.returns
returns c =
    let end = rw (pieces_are is_separator c.args.list.now) at
    (end_of c.loop-entry.yielded _ c.loop-entry.yielded_by _ _ c.in-None.is c.next.ensures.steps
    (YieldsList-at c.into_iter-entry-iterator.ensures.into_iter_gives
    (YieldsList-from_slice_split _ is_separator c.args.list.now c.split-entries.ensures.rest
    c.split-entries.ensures.done c.split-entries.ensures.closure (λ x b q k. search (rules, tests))))) in
    sym (c.loop-entry.invariant
    ∙ ap (λ xs. c.loop-entry.text.items ++ xs)
    (words_left-end (split is_separator c.args.list.now) (length c.loop-entry.yielded)
    (drop_all (length c.loop-entry.yielded) (split is_separator c.args.list.now) (omega (arith, end.1))))
    ∙ append-nil c.loop-entry.text.items)
