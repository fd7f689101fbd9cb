use Rattle.std.proofs.Common.{◌∙◌, sym}
use Rattle.session_state.proofs.OrderLemmas.{ahead-read, beyond}
use Rattle.session_state.proofs.OrderChangeLemmas.{only-none, only-some}
use Rattle.session_state.proofs.order.only_of.Goals as goal

pub returns-then-index-entries : goal.returns-then-index-entries
returns-then-index-entries c =
    only-none c.args.entries.now c.args.index c.requires
    (beyond c.args.entries.now c.args.index c.if-index-entries.true)

pub returns-in-Some : goal.returns-in-Some
returns-in-Some c = (
  ahead-read c.args.entries.now c.args.index c.index-entries-index.result c.if-index-entries.false
      ∙ sym c.ahead.ensures ∙ c.in-Some.is,
  only-some c.args.entries.now c.args.index c.requires,
)

pub returns-in-None : goal.returns-in-None
returns-in-None c =
    only-none c.args.entries.now c.args.index c.requires
    (ahead-read c.args.entries.now c.args.index c.index-entries-index.result c.if-index-entries.false
    ∙ sym c.ahead.ensures ∙ c.in-None.is)
