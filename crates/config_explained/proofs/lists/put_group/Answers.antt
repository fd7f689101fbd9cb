use Rattle.std.proofs.lemmas.Grind.{common_steps}
use Rattle.std.proofs.Common.{◌≡◌, ◌<◌, ◌++◌, ℕ, List, length, get_or, map, Option}
use Rattle.std.proofs.Common.{Some, None, rules, tests, arith, flat_map}
use Rattle.std.proofs.lemmas.Iterator.{YieldsList}
use Rattle.std.specs.Iterator.{Yields}
use Rattle.std.proofs.lemmas.Iterator.Consumers.{YieldsList-at}
use Rattle.std.proofs.lemmas.Iterator.Splits.{YieldsList-from_slice_split}
use Rattle.std.proofs.lemmas.List.{length_push, drop_all}
use Rattle.protocol.specs.Pieces.{split}
use Rattle.access_list.specs.Tokens.{is_separator}
use Rattle.config_explained.specs.Lists.{entry_of_group}
use Rattle.config_explained.proofs.EntryLemmas.{pieces_are}
use Rattle.config_explained.proofs.PieceLemmas.{end_of, piece_more, pieces_end, turn_of}
use Rattle.config_explained.proofs.lists.put_group.Goals as goal

pub loop-entry-preserved : goal.loop-entry-preserved
loop-entry-preserved c =
    let list = c.args.group.now in
    let turn = rw (pieces_are is_separator list) at
    (turn_of c.loop-entry.yielded _ c.loop-entry.yielded_by _ _ c.in-Some.entry c.in-Some.is c.next.ensures.steps
    (YieldsList-at c.into_iter-entry-iterator.ensures.into_iter_gives
    (YieldsList-from_slice_split _ is_separator list c.split-entries.ensures.rest
    c.split-entries.ensures.done c.split-entries.ensures.closure (λ x b q k. search (rules, tests))))) in
    let f : List ℕ → List ℕ = entry_of_group c.args.name.now in
    let made : c.put_entry_of_group.new.text.items ≡ c.loop-entry.text.items ++ f c.in-Some.entry.now =
    first_of (search rules, grind (arith, common_steps, c.put_entry_of_group.ensures, c.in_ok-put_entry_of_group.was)) in
    rw (length_push c.loop-entry.yielded c.in-Some.entry, made)
    (piece_more f (split is_separator list) (length c.loop-entry.yielded) c.in-Some.entry.now
    (c.args.text.now.items ++ flat_map f (split is_separator list)) c.loop-entry.text.items turn.0 turn.1 c.loop-entry.invariant)

pub returns : goal.returns
returns c =
    let list = c.args.group.now in
    let end = rw (pieces_are is_separator list) at
    (end_of c.loop-entry.yielded _ c.loop-entry.yielded_by _ _ c.in-None.is c.next.ensures.steps
    (YieldsList-at c.into_iter-entry-iterator.ensures.into_iter_gives
    (YieldsList-from_slice_split _ is_separator list c.split-entries.ensures.rest
    c.split-entries.ensures.done c.split-entries.ensures.closure (λ x b q k. search (rules, tests))))) in
    let f : List ℕ → List ℕ = entry_of_group c.args.name.now in
    pieces_end f (split is_separator list) (length c.loop-entry.yielded)
    (c.args.text.now.items ++ flat_map f (split is_separator list)) c.loop-entry.text.items
    (drop_all (length c.loop-entry.yielded) (split is_separator list) (omega (arith, end.1)))
    c.loop-entry.invariant
