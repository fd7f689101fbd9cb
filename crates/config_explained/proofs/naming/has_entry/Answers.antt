use Rattle.std.proofs.Common.{◌≡◌, ◌∙◌, ◌<◌, List, length, get_or, map, Option, Some, None, rules, tests, sym, arith}
use Rattle.std.proofs.lemmas.Iterator.{YieldsList}
use Rattle.std.specs.Iterator.{Yields}
use Rattle.std.proofs.lemmas.Iterator.Consumers.{YieldsList-at}
use Rattle.std.proofs.lemmas.Iterator.Splits.{YieldsList-from_slice_split}
use Rattle.std.proofs.lemmas.List.{length_push, drop_all}
use Rattle.std.specs.Str.{bytes_eq}
use Rattle.protocol.specs.Pieces.{split}
use Rattle.access_list.specs.Tokens.{is_separator}
use Rattle.config_explained.proofs.EntryLemmas.{pieces_are}
use Rattle.config_explained.proofs.PieceLemmas.{end_of, has_end, has_found, has_passed, turn_of}
use Rattle.config_explained.proofs.naming.has_entry.Goals as goal

pub returns-then-eq : goal.returns-then-eq
returns-then-eq c =
    let turn = rw (pieces_are is_separator c.args.list.now) at
    (turn_of c.loop-piece.yielded _ c.loop-piece.yielded_by _ _ c.in-Some.piece c.in-Some.is c.next.ensures.steps
    (YieldsList-at c.into_iter-piece-iterator.ensures.into_iter_gives
    (YieldsList-from_slice_split _ is_separator c.args.list.now c.split-pieces.ensures.rest
    c.split-pieces.ensures.done c.split-pieces.ensures.closure (λ x b q k. search (rules, tests))))) in
    sym (c.loop-piece.invariant
    ∙ has_found (bytes_eq c.args.entry.now) (split is_separator c.args.list.now) (length c.loop-piece.yielded)
    c.in-Some.piece.now turn.0 turn.1 (sym c.eq.ensures ∙ c.if-eq.true))

pub loop-piece-preserved : goal.loop-piece-preserved
loop-piece-preserved c =
    let turn = rw (pieces_are is_separator c.args.list.now) at
    (turn_of c.loop-piece.yielded _ c.loop-piece.yielded_by _ _ c.in-Some.piece c.in-Some.is c.next.ensures.steps
    (YieldsList-at c.into_iter-piece-iterator.ensures.into_iter_gives
    (YieldsList-from_slice_split _ is_separator c.args.list.now c.split-pieces.ensures.rest
    c.split-pieces.ensures.done c.split-pieces.ensures.closure (λ x b q k. search (rules, tests))))) in
    rw (length_push c.loop-piece.yielded c.in-Some.piece)
    (c.loop-piece.invariant
    ∙ has_passed (bytes_eq c.args.entry.now) (split is_separator c.args.list.now) (length c.loop-piece.yielded)
    c.in-Some.piece.now turn.0 turn.1 (sym c.eq.ensures ∙ c.if-eq.false))

pub returns : goal.returns
returns c =
    let end = rw (pieces_are is_separator c.args.list.now) at
    (end_of c.loop-piece.yielded _ c.loop-piece.yielded_by _ _ c.in-None.is c.next.ensures.steps
    (YieldsList-at c.into_iter-piece-iterator.ensures.into_iter_gives
    (YieldsList-from_slice_split _ is_separator c.args.list.now c.split-pieces.ensures.rest
    c.split-pieces.ensures.done c.split-pieces.ensures.closure (λ x b q k. search (rules, tests))))) in
    sym (c.loop-piece.invariant
    ∙ has_end (bytes_eq c.args.entry.now) (split is_separator c.args.list.now) (length c.loop-piece.yielded)
    (drop_all (length c.loop-piece.yielded) (split is_separator c.args.list.now) (omega (arith, end.1))))
