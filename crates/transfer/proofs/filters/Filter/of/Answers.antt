use Rattle.std.proofs.Common.{subst, sym}
use Rattle.session_state.specs.declared.choices.Entry.{Entry}
use Rattle.transfer.specs.Filters.{IsWindow}
use Rattle.transfer.proofs.FilterLemmas.{none-known}
use Rattle.transfer.proofs.filters.Filter.of.Goals as goal

pub returns : goal.returns
returns c = λ streams x same. record {
  window = subst (λ (e : Entry). IsWindow c.window_of.result e.action) (sym same) c.window_of.ensures;
  refused = λ k s known at. absurd (none-known 256 k known);
}
