use Rattle.std.proofs.Common.{sym, ◌∙◌}
use Rattle.session_state.proofs.ChoiceLemmas.{finished, unfinished}
use Rattle.session_state.proofs.named.Named.finish.Goals as goal

pub returns-then-is_asked : goal.returns-then-is_asked
returns-then-is_asked c = λ config. finished config c.args.self.now.choices c.args.self.now.current
    (sym c.is_asked.ensures ∙ c.if-is_asked.true)

pub returns-else-is_asked : goal.returns-else-is_asked
returns-else-is_asked c = λ config. unfinished config c.args.self.now.choices c.args.self.now.current
    (sym c.is_asked.ensures ∙ c.if-is_asked.false)
