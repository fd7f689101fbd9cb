use Rattle.std.proofs.Common.{Option, Some, None, map, rules, tests, ◌≡◌, ◌∙◌, ◌<◌, ◌+◌, List, length, drop, get_or}
use Rattle.std.proofs.Common.{ap, arith, take, []}
use Rattle.std.proofs.lemmas.Iterator.{YieldsList}
use Rattle.std.specs.Iterator.{Yields}
use Rattle.std.specs.List.{slice_split}
use Rattle.std.proofs.lemmas.Iterator.Consumers.{YieldsList-turn, YieldsList-end, YieldsList-at}
use Rattle.std.proofs.lemmas.Iterator.Splits.{YieldsList-from_slice_split}
use Rattle.std.proofs.lemmas.List.{length_push, drop_all}
use Rattle.std.proofs.lemmas.List.Splits.{length-slice_split}
use Rattle.std.proofs.lemmas.List.Sums.{count_by-le-length}
use Rattle.server_core.specs.Runs.{event_value}
use Rattle.event_script.specs.Script.{events_of_lines, is_line_feed}
use Rattle.event_script.proofs.Lines.{left-more, left-fault, left-end, read-before, read-fails, read-more}
use Rattle.event_script.proofs.events.events_of.Goals as goal

-- where the line at hand stands, and at the end how many there were, by the steps first
turn_of : {S A B : Type 0} {steps : S → Option A → S → Type 0} {v : A → B} {s : S} {all : List B} (xs : List A) (t : S)
    (y : Yields steps s xs t) → (r : Option A) (u : S) (x : A) → r ≡ Some x → steps t r u
    → (e : YieldsList steps v s all) → (length xs < length all) × (v x ≡ get_or all (length xs) (v x))
turn_of xs t y r u x is step e = YieldsList-turn e xs t y r u x is step

end_of : {S A B : Type 0} {steps : S → Option A → S → Type 0} {v : A → B} {s : S} {all : List B} (xs : List A) (t : S)
    (y : Yields steps s xs t) → (r : Option A) (u : S) → r ≡ None → steps t r u → (e : YieldsList steps v s all)
    → (map v xs ≡ all) × (length xs ≡ length all)
end_of xs t y r u is step e = YieldsList-end e xs t y r u is step

pub loop-line-preserved : goal.loop-line-preserved
loop-line-preserved c =
    let turn = turn_of c.loop-line.yielded _ c.loop-line.yielded_by _ _ c.in-Some.line c.in-Some.is c.next.ensures.steps
    (YieldsList-at c.into_iter-line-iterator.ensures.into_iter_gives
    (YieldsList-from_slice_split _ is_line_feed c.args.text.now c.split-lines.ensures.rest
    c.split-lines.ensures.done c.split-lines.ensures.closure (λ x b q k. search (rules, tests)))) in
    let ls = slice_split is_line_feed c.args.text.now in
    let was = c.loop-line.invariant in
    rw (length_push c.loop-line.yielded c.in-Some.line)
    (record {
      left =
          was.left
          ∙ left-more (map event_value c.loop-line.events.items) (map event_value c.read_line.new.events.items) ls
          (length c.loop-line.yielded) c.in-Some.line.now turn.0 turn.1
          (c.in-Ok.ensures.ok (drop (length c.loop-line.yielded + 1) ls));
      read =
          read-more (map event_value c.loop-line.events.items) (map event_value c.read_line.new.events.items) ls
          (length c.loop-line.yielded) c.in-Some.line.now turn.0 turn.1 c.in-Ok.ensures.ok was.read;
      number = ap (λ n. n + 1) was.number;
    })

pub returns-in-Err-clause-script : goal.returns-in-Err-clause-script
returns-in-Err-clause-script c =
    let turn = turn_of c.loop-line.yielded _ c.loop-line.yielded_by _ _ c.in-Some.line c.in-Some.is c.next.ensures.steps
    (YieldsList-at c.into_iter-line-iterator.ensures.into_iter_gives
    (YieldsList-from_slice_split _ is_line_feed c.args.text.now c.split-lines.ensures.rest
    c.split-lines.ensures.done c.split-lines.ensures.closure (λ x b q k. search (rules, tests)))) in
    let ls = slice_split is_line_feed c.args.text.now in
    λ script. c.loop-line.invariant.left
    ∙ left-fault (map event_value c.loop-line.events.items) ls
    (length c.loop-line.yielded) c.in-Some.line.now turn.0 turn.1
    (c.in-Err.ensures.script script (drop (length c.loop-line.yielded + 1) ls))

pub returns-in-Err-clause-line : goal.returns-in-Err-clause-line
returns-in-Err-clause-line c =
    let turn = turn_of c.loop-line.yielded _ c.loop-line.yielded_by _ _ c.in-Some.line c.in-Some.is c.next.ensures.steps
    (YieldsList-at c.into_iter-line-iterator.ensures.into_iter_gives
    (YieldsList-from_slice_split _ is_line_feed c.args.text.now c.split-lines.ensures.rest
    c.split-lines.ensures.done c.split-lines.ensures.closure (λ x b q k. search (rules, tests)))) in
    let ls = slice_split is_line_feed c.args.text.now in
    let es = map event_value c.loop-line.events.items in
    let k = length c.loop-line.yielded in
    let was = c.loop-line.invariant in
    λ script. record {
      earlier = k;
      number = ap (λ n. n + 1) was.number;
      within = turn.0;
      before = read-before es ls k was.read;
      fails =
          ap (λ n. events_of_lines (take (n + 1) ls)) was.number
          ∙ read-fails es ls k c.in-Some.line.now turn.0 turn.1 was.read (c.in-Err.ensures.script script []);
    }

pub returns-clause-ok : goal.returns-clause-ok
returns-clause-ok c =
    let end = end_of c.loop-line.yielded _ c.loop-line.yielded_by _ _ c.in-None.is c.next.ensures.steps
    (YieldsList-at c.into_iter-line-iterator.ensures.into_iter_gives
    (YieldsList-from_slice_split _ is_line_feed c.args.text.now c.split-lines.ensures.rest
    c.split-lines.ensures.done c.split-lines.ensures.closure (λ x b q k. search (rules, tests)))) in
    let ls = slice_split is_line_feed c.args.text.now in
    c.loop-line.invariant.left ∙ left-end (map event_value c.loop-line.events.items) ls (length c.loop-line.yielded)
    (drop_all (length c.loop-line.yielded) ls (omega (arith, end.1)))
