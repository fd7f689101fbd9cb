use Rattle.std.proofs.lemmas.Grind.{common_steps}
use Rattle.std.proofs.Common.{◌≡◌, ◌∙◌, ◌<◌, ◌++◌, ◌∷◌, [], List, length, get_or, map, Option, Some, None, rules, tests}
use Rattle.std.proofs.Common.{sym, arith}
use Rattle.std.proofs.lemmas.Iterator.{YieldsList}
use Rattle.std.specs.Iterator.{Yields}
use Rattle.std.proofs.lemmas.Iterator.Consumers.{YieldsList-at}
use Rattle.std.proofs.lemmas.Iterator.Splits.{YieldsList-from_slice_split}
use Rattle.std.proofs.lemmas.List.{length_push, drop_all}
use Rattle.protocol.specs.Pieces.{split}
use Rattle.access_list.specs.Tokens.{is_separator}
use Rattle.config_explained.specs.Opened.{networks_of}
use Rattle.config_explained.proofs.EntryLemmas.{pieces_are}
use Rattle.config_explained.proofs.PieceLemmas.{end_of, turn_of}
use Rattle.config_explained.proofs.OpenedLemmas.{network_more, network_not, network_end}
use Rattle.config_explained.proofs.opened.networks_of.Goals as goal

pub loop-entry-preserved-in-Continue-1 : goal.loop-entry-preserved-in-Continue-1
loop-entry-preserved-in-Continue-1 c =
    let turn = rw (pieces_are is_separator c.args.list.now) at
    (turn_of c.loop-entry.yielded _ c.loop-entry.yielded_by _ _ c.in-Some.entry c.in-Some.is c.next.ensures.steps
    (YieldsList-at c.into_iter-entry-iterator.ensures.into_iter_gives
    (YieldsList-from_slice_split _ is_separator c.args.list.now c.split-entries.ensures.rest
    c.split-entries.ensures.done c.split-entries.ensures.closure (λ x b q k. search (rules, tests))))) in
    let made : c.push.new.self.items ≡ c.loop-entry.networks.items ++ c.in-Some-parse.network ∷ [] =
    first_of (search rules, grind (arith, common_steps, c.push.ensures.items, c.in_ok-push.was)) in
    rw (length_push c.loop-entry.yielded c.in-Some.entry, made)
    (network_more (split is_separator c.args.list.now) (length c.loop-entry.yielded) c.in-Some.entry.now
    c.in-Some-parse.network c.loop-entry.networks.items (networks_of c.args.list.now) turn.0 turn.1
    (sym c.parse.ensures ∙ c.in-Some-parse.is) c.loop-entry.invariant)

pub loop-entry-preserved : goal.loop-entry-preserved
loop-entry-preserved c =
    let turn = rw (pieces_are is_separator c.args.list.now) at
    (turn_of c.loop-entry.yielded _ c.loop-entry.yielded_by _ _ c.in-Some.entry c.in-Some.is c.next.ensures.steps
    (YieldsList-at c.into_iter-entry-iterator.ensures.into_iter_gives
    (YieldsList-from_slice_split _ is_separator c.args.list.now c.split-entries.ensures.rest
    c.split-entries.ensures.done c.split-entries.ensures.closure (λ x b q k. search (rules, tests))))) in
    rw (length_push c.loop-entry.yielded c.in-Some.entry)
    (network_not (split is_separator c.args.list.now) (length c.loop-entry.yielded) c.in-Some.entry.now
    c.loop-entry.networks.items (networks_of c.args.list.now) turn.0 turn.1
    (sym c.parse.ensures ∙ c.in_default.is) c.loop-entry.invariant)

pub returns : goal.returns
returns c =
    let end = rw (pieces_are is_separator c.args.list.now) at
    (end_of c.loop-entry.yielded _ c.loop-entry.yielded_by _ _ c.in-None.is c.next.ensures.steps
    (YieldsList-at c.into_iter-entry-iterator.ensures.into_iter_gives
    (YieldsList-from_slice_split _ is_separator c.args.list.now c.split-entries.ensures.rest
    c.split-entries.ensures.done c.split-entries.ensures.closure (λ x b q k. search (rules, tests))))) in
    network_end (split is_separator c.args.list.now) (length c.loop-entry.yielded) c.loop-entry.networks.items
    (networks_of c.args.list.now)
    (drop_all (length c.loop-entry.yielded) (split is_separator c.args.list.now) (omega (arith, end.1)))
    c.loop-entry.invariant
