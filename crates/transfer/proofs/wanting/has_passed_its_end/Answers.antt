use Rattle.std.proofs.Common.{◌≡◌, nat_lt, subst}
use Rattle.std.specs.List.{list_any}
use Rattle.session_state.specs.declared.choices.Entry.{Entry}
use Rattle.transfer.specs.Cursors.{is_after_end}
use Rattle.transfer.proofs.CursorLemmas.{end-nothing, end-past}
use Rattle.transfer.proofs.wanting.has_passed_its_end.Goals as goal

pub returns-in-Some : goal.returns-in-Some
returns-in-Some c = λ x same next passed all.
    subst (λ (e : Entry). nat_lt c.in-Some.oldest e.cursor.ended
    ≡ list_any (is_after_end x.action) c.args.ring.now.held)
    same (end-past c.args.ring.now next x c.in-Some.oldest c.holds_its_last.ensures c.in-Some.ensures passed all)

pub returns-in-None : goal.returns-in-None
returns-in-None c = λ x same next passed all. end-nothing c.args.ring.now x c.in-None.ensures
