use Rattle.std.proofs.Common.{◌≡◌, ◌≤◌, ◌∙◌, ◌&&◌, ◌+◌, ap, arith, length, sym, refl, drop, filter_map}
use Rattle.std.specs.List.{list_all}
use Rattle.std.proofs.lemmas.List.{drop_all}
use Rattle.protocol.specs.History.{is_over}
use Rattle.session_state.specs.Choices.{request_in}
use Rattle.transfer.proofs.EntryLemmas.{entry-at, same-length}
use Rattle.transfer.proofs.ChooseLemmas.{over-from}
use Rattle.transfer.proofs.choosing.is_complete.Goals as goal

pub loop-entry-init : goal.loop-entry-init
loop-entry-init c = λ cs same next rests reached config h holds. refl

pub returns-then-not-is_over-clause-complete : goal.returns-then-not-is_over-clause-complete
returns-then-not-is_over-clause-complete c = λ cs same next rests reached config h holds.
    let x = entry-at cs c.args.entries.now c.loop-entry.entry-index c.entry-item.result same c.loop-entry-test.true
    c.entry-item.is in
    sym (c.loop-entry.invariant cs same next rests reached config h holds
    ∙ over-from config h cs c.loop-entry.entry-index x.choice c.is_over.result x.within x.item
    (c.is_over.ensures.over x.choice x.entry next (rests c.loop-entry.entry-index x.choice x.there)
    (reached c.loop-entry.entry-index x.choice x.there) config h holds)
    ∙ ap (λ b. b && list_all (is_over h) (filter_map (request_in config) (drop (c.loop-entry.entry-index + 1) cs)))
    c.if-not-is_over.true)

pub loop-entry-preserved : goal.loop-entry-preserved
loop-entry-preserved c = λ cs same next rests reached config h holds.
    let x = entry-at cs c.args.entries.now c.loop-entry.entry-index c.entry-item.result same c.loop-entry-test.true
    c.entry-item.is in
    c.loop-entry.invariant cs same next rests reached config h holds
    ∙ over-from config h cs c.loop-entry.entry-index x.choice c.is_over.result x.within x.item
    (c.is_over.ensures.over x.choice x.entry next (rests c.loop-entry.entry-index x.choice x.there)
    (reached c.loop-entry.entry-index x.choice x.there) config h holds)
    ∙ ap (λ b. b && list_all (is_over h) (filter_map (request_in config) (drop (c.loop-entry.entry-index + 1) cs)))
    c.if-not-is_over.false

pub returns-clause-complete : goal.returns-clause-complete
returns-clause-complete c = λ cs same next rests reached config h holds.
    let long : length cs ≡ length c.args.entries.now = same-length cs c.args.entries.now same in
    let all : length cs ≤ c.loop-entry.entry-index = omega (arith, long, c.loop-entry-test.false) in
    sym (c.loop-entry.invariant cs same next rests reached config h holds
    ∙ ap (λ ds. list_all (is_over h) (filter_map (request_in config) ds))
    (drop_all c.loop-entry.entry-index cs all))

pub returns-then-not-is_over-clause-more : goal.returns-then-not-is_over-clause-more
returns-then-not-is_over-clause-more c = λ cs same next rests reached not.
    let x = entry-at cs c.args.entries.now c.loop-entry.entry-index c.entry-item.result same c.loop-entry-test.true
    c.entry-item.is in
    record {
      index = c.loop-entry.entry-index;
      choice = x.choice;
      there = x.there;
      may = c.is_over.ensures.more x.choice x.entry next (rests c.loop-entry.entry-index x.choice x.there)
          (reached c.loop-entry.entry-index x.choice x.there) c.if-not-is_over.true;
    }
